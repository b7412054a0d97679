-- For this crate and for the crates above: writes are taken back.
use Rattle.std.proofs.Common.{◌≡◌, ℕ, zero, suc, ◌+◌, ◌-◌, ◌<◌, ◌≤◌, Bool, true, false, cond, Option, None, Some, List, [], ◌∷◌, ◌++◌, map, length, take, refl, sym, ap, subst, ◌∙◌, arith, if◌then◌else◌, length-append}
use Rattle.std.specs.Prelude.{All, slice_get, option_and_then, option_map}
use Rattle.std.specs.List.{find, position}
use Rattle.std.specs.Str.{bytes_eq}
use Rattle.std.proofs.lemmas.Option.{same_Some, none-some}
use Rattle.motion.specs.Timeline.{Epoch, put, restored, TakesBack}
use Rattle.object_store.specs.Contents.{StoredObject, is_named}
use Rattle.object_store.specs.Effects.{put_named}
use Rattle.object_store.specs.AtIndex.{restored_at}
use Rattle.object_store.proofs.Lists.{index_in, index_is}
use Rattle.object_store.proofs.IdLemmas.{class_in}

abbrev with_epoch : Epoch → StoredObject → StoredObject
with_epoch p o = record o { epochs = put o.epochs p }

-- the front of two lists
pub take_front : {X : Type 0} (xs ys : List X) → take (length xs) (xs ++ ys) ≡ xs
take_front [] ys = refl
take_front (x ∷ xs) ys = ap (λ zs. x ∷ zs) (take_front xs ys)

-- without its last element a list is what it was before that was pushed
pub take_pushed : {X : Type 0} (xs : List X) (x : X) → take (length (xs ++ x ∷ []) - 1) (xs ++ x ∷ []) ≡ xs
take_pushed xs x = ap (λ n. take n (xs ++ x ∷ [])) (omega (arith, length-append xs (x ∷ []))) ∙ take_front xs (x ∷ [])

-- the object is the first of its name, and stands at the index
abbrev pub IsFirst : List ℕ → List StoredObject → ℕ → StoredObject → Type 0
IsFirst name [] index o = ⊥
IsFirst name (x ∷ xs) zero o = (bytes_eq name x.name ≡ true) × (x ≡ o)
IsFirst name (x ∷ xs) (suc index) o = (bytes_eq name x.name ≡ false) × IsFirst name xs index o

pub at_zero : (b : Bool) (r : Option ℕ) → cond b (Some 0) (option_map suc r) ≡ Some 0 → b ≡ true
at_zero true r first = refl
at_zero false None first = absurd (none-some 0 first)
at_zero false (Some n) first = absurd (omega (arith, same_Some (suc n) 0 first))

pub at_suc : (b : Bool) (r : Option ℕ) (index : ℕ) → cond b (Some 0) (option_map suc r) ≡ Some (suc index) → (b ≡ false) × (r ≡ Some index)
at_suc true r index first = absurd (omega (arith, same_Some 0 (suc index) first))
at_suc false None index first = absurd (none-some (suc index) first)
at_suc false (Some n) index first = let same : suc n ≡ suc index = same_Some (suc n) (suc index) first in (refl, ap Some (omega (arith, same)))

first_in : (name : List ℕ) (objects : List StoredObject) (index : ℕ) (o : StoredObject) → index_in (is_named name) objects ≡ Some index → slice_get objects index ≡ Some o → IsFirst name objects index o
first_in name [] index o first there = absurd (none-some index first)
first_in name (x ∷ xs) zero o first there = (at_zero (bytes_eq name x.name) (index_in (is_named name) xs) first, same_Some x o there)
first_in name (x ∷ xs) (suc index) o first there =
    let later = at_suc (bytes_eq name x.name) (index_in (is_named name) xs) index first in
    (later.0, first_in name xs index o later.1 there)

pub first_at : (name : List ℕ) (objects : List StoredObject) (index : ℕ) (o : StoredObject) → position (is_named name) objects ≡ Some index → slice_get objects index ≡ Some o → IsFirst name objects index o
first_at name objects index o first there = first_in name objects index o (sym (index_is (is_named name) objects) ∙ first) there

-- the named object with one more epoch
pub put_there : (name : List ℕ) (p : Epoch) (objects : List StoredObject) (index : ℕ) (o : StoredObject) → IsFirst name objects index o → slice_get (put_named name p objects) index ≡ Some (with_epoch p o)
put_there name p [] index o first = absurd first
put_there name p (x ∷ xs) zero o first =
    ap (λ b. slice_get (if b then (with_epoch p x ∷ xs) else (x ∷ put_named name p xs)) 0) first.0 ∙ ap (λ o. Some (with_epoch p o)) first.1
put_there name p (x ∷ xs) (suc index) o first =
    ap (λ b. slice_get (if b then (with_epoch p x ∷ xs) else (x ∷ put_named name p xs)) (suc index)) first.0 ∙ put_there name p xs index o first.1

-- and without it again
pub put_back : (name : List ℕ) (p : Epoch) (replaced : Option Epoch) (objects : List StoredObject) (index : ℕ) (o : StoredObject) → IsFirst name objects index o → restored (put o.epochs p) replaced ≡ o.epochs → restored_at index replaced (put_named name p objects) ≡ objects
put_back name p replaced [] index o first back = absurd first
put_back name p replaced (x ∷ xs) zero o first back =
    let epochs : restored (put x.epochs p) replaced ≡ x.epochs = rw first.1 back in
    ap (λ b. restored_at 0 replaced (if b then (with_epoch p x ∷ xs) else (x ∷ put_named name p xs))) first.0
    ∙ ap (λ ps. let y : StoredObject = record { name = x.name; class = x.class; epochs = ps } in y ∷ xs) epochs
put_back name p replaced (x ∷ xs) (suc index) o first back =
    ap (λ b. restored_at (suc index) replaced (if b then (with_epoch p x ∷ xs) else (x ∷ put_named name p xs))) first.0
    ∙ ap (λ os. x ∷ os) (put_back name p replaced xs index o first.1 back)

-- the classes of the objects stay
pub classes-restored_at : (index : ℕ) (replaced : Option Epoch) (objects : List StoredObject) → map class_in (restored_at index replaced objects) ≡ map class_in objects
classes-restored_at index replaced [] = refl
classes-restored_at zero replaced (o ∷ os) = refl
classes-restored_at (suc index) replaced (o ∷ os) = ap (λ cs. o.class ∷ cs) (classes-restored_at index replaced os)
