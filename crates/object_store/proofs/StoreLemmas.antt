-- What the answers of the tables say of a store.
use Rattle.std.proofs.Common.{◌≡◌, ℕ, ◌≤◌, Option, None, Some, Result, Ok, Err, List, [], length, sym, ap, subst, ◌∙◌, arith}
use Rattle.std.specs.Prelude.{IfOk, IfErr, OnOk, unwrap_or}
use Rattle.std.specs.List.{position}
use Rattle.history.specs.Write.{Write}
use Rattle.history.specs.History.{ChangesFrom}
use Rattle.object_store.specs.declared.fault.StoreFault.{StoreFault}
use Rattle.object_store.specs.declared.fault.StoreFault.TheVariants.{NoMemory}
use Rattle.object_store.specs.declared.objects.Done.{Done}
use Rattle.object_store.specs.Contents.{Contents, history_of, ids_in, is_named}
use Rattle.object_store.specs.Invariant.{IsKept, WritesNamed}
use Rattle.object_store.specs.Sound.{IsSound}
use Rattle.object_store.specs.StandsFor.{GrowsBy}
use Rattle.object_store.specs.Tables.{IsJudged}
use Rattle.object_store.proofs.IdLemmas.{ids-none}

pub ok_contents : (r : Result Done StoreFault) (name : List ℕ) (old after : Contents) (ids : List (List ℕ)) (new : Contents) → IfOk r (WritesNamed name old after ids new) → OnOk r (new ≡ after)
ok_contents (Ok done) name old after ids new writes = writes.contents
ok_contents (Err e) name old after ids new writes = writes

pub ok_stands : (r : Result Done StoreFault) (fault : Option StoreFault) (name : List ℕ) (old after : Contents) (ids : List (List ℕ)) (new : Contents) (w : Write) → IfOk r (WritesNamed name old after ids new) → IsJudged fault r → (fault ≡ None → GrowsBy old after w) → OnOk r (GrowsBy old new w)
ok_stands (Ok done) fault name old after ids new w writes judged stands = subst (λ new. GrowsBy old new w) (sym writes.contents) (stands judged)
ok_stands (Err e) fault name old after ids new w writes judged stands = writes

pub ok_accepted : {T : Type 0} (r : Result T StoreFault) (fault : Option StoreFault) → IsJudged fault r → OnOk r (fault ≡ None)
ok_accepted (Ok done) fault judged = judged
ok_accepted (Err e) fault judged = tt

pub err_fault : {T : Type 0} (r : Result T StoreFault) (fault : Option StoreFault) → IsJudged fault r → IfErr r (λ e. e ≡ unwrap_or fault NoMemory)
err_fault (Ok done) fault judged = tt
err_fault (Err e) fault judged = judged

pub class_stands : {T : Type 0} (r : Result T StoreFault) (old after new : Contents) (w : Write) → OnOk r (new ≡ after) → GrowsBy old after w → OnOk r (GrowsBy old new w)
class_stands (Ok x) old after new w is stands = subst (λ new. GrowsBy old new w) (sym is) stands
class_stands (Err e) old after new w is stands = is

-- a class that is not there has no ids
pub no_class : (s : Contents) (members : List (List ℕ)) (number : ℕ) → IsKept members s → length members ≤ number → ids_in s.objects number ≡ []
no_class s members number kept past = ids-none number s.objects (λ k d l. omega (arith, kept.sound.objects.classed k d l, kept.members.count))

pub ok_tick : (r : Result Done StoreFault) (name : List ℕ) (old after : Contents) (ids : List (List ℕ)) (new : Contents) (now : ℕ) → IfOk r (WritesNamed name old after ids new) → after.last_tick ≡ now → OnOk r (new.last_tick ≡ now)
ok_tick (Ok done) name old after ids new now writes tick = ap (λ (s : Contents). s.last_tick) writes.contents ∙ tick
ok_tick (Err e) name old after ids new now writes tick = writes

pub ok_changes : (r : Result Done StoreFault) (name : List ℕ) (old after : Contents) (ids : List (List ℕ)) (new : Contents) (now : ℕ) → IfOk r (WritesNamed name old after ids new)
    → ((id : ℕ) → IsSound after → position (is_named name) after.objects ≡ Some id → ChangesFrom id now (history_of old) (history_of after))
    → IfOk r (λ done. ChangesFrom done.id now (history_of old) (history_of new))
ok_changes (Ok done) name old after ids new now writes changes =
    subst (λ (s : Contents). ChangesFrom done.id now (history_of old) (history_of s)) (sym writes.contents)
    (changes done.id (subst IsSound writes.contents writes.kept.sound)
    (subst (λ (s : Contents). position (is_named name) s.objects ≡ Some done.id) writes.contents writes.id))
ok_changes (Err e) name old after ids new now writes changes = writes
