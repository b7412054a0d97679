-- What stands beside a variable, and what a part shows of it.
use Rattle.std.proofs.Common.{rules, ◌≡◌, ℕ, zero, suc, ◌+◌, ◌<◌, ◌≤◌, Bool, true, false, ◌&&◌, ◌||◌, Option, None, Some, is_some, List, [], ◌∷◌, ◌++◌, map, length, take, set, get_or, refl, sym, ap, subst, ◌∙◌, arith}
use Rattle.std.specs.Prelude.{All, IsSome, ◌==◌, unwrap_or, option_and_then, slice_get, if◌then◌else◌}
use Rattle.std.specs.Borrow.{Bor}
use Rattle.std.specs.List.{filter, list_all, list_any}
use Rattle.std.specs.Option.{IfSome, option_copied, option_map, option_map_or}
use Rattle.std.proofs.lemmas.Bool.{false≢true, and_parts}
use Rattle.std.proofs.lemmas.Bool.Decides.{nat_tests}
use Rattle.motion.specs.Timeline.{Epoch, epoch_at, state_at}
use Rattle.std.proofs.lemmas.List.{get_or-map, length-map, map-append, map-set, take_more, take_more_set}
use Rattle.courses.specs.Parts.{epochs_of_each}
use Rattle.object_store.specs.Contents.{Contents, StoredObject}
use Rattle.atoms.specs.Parts.{AreAscendingFrom, beside, epochs_of, trace_by}
use Rattle.exact.proofs.Naturals.{equals_itself}

-- the epoch beside a variable
abbrev pub epoch_beside : List ℕ → List (Option (Bor Epoch)) → ℕ → Option Epoch
epoch_beside variables epochs v = option_copied (unwrap_or (beside variables epochs v) None)

-- ---- what a part shows is what the timelines have

-- the timelines have these epochs in force at a tick
abbrev pub AreInForce : List (List Epoch) → List (Option (Bor Epoch)) → ℕ → Type 0
AreInForce timelines epochs t = (k : ℕ) → epoch_at (get_or timelines k []) t ≡ option_copied (get_or epochs k None)

shown_at : (same : Bool) (ts : List Epoch) (e : Option (Bor Epoch)) (a : Option (List Epoch)) (b : Option (Option (Bor Epoch))) (t : ℕ) →
    epoch_at ts t ≡ option_copied e →
    option_and_then (λ epochs. state_at epochs t) a ≡ option_and_then (λ p. p.cells) (option_copied (unwrap_or b None)) →
    option_and_then (λ epochs. state_at epochs t) (if same then Some ts else a)
    ≡ option_and_then (λ p. p.cells) (option_copied (unwrap_or (if same then Some e else b) None))
shown_at true ts e a b t first rest = ap (λ (o : Option Epoch). option_and_then (λ p. p.cells) o) first
shown_at false ts e a b t first rest = rest

no_state_at : (same : Bool) (ts : List Epoch) (a : Option (List Epoch)) (t : ℕ) → epoch_at ts t ≡ None → option_and_then (λ epochs. state_at epochs t) a ≡ None →
    option_and_then (λ epochs. state_at epochs t) (if same then Some ts else a) ≡ None
no_state_at true ts a t first rest = ap (λ (o : Option Epoch). option_and_then (λ p. p.cells) o) first
no_state_at false ts a t first rest = rest

no_state : (variables : List ℕ) (timelines : List (List Epoch)) (v t : ℕ) → AreInForce timelines [] t → trace_by variables timelines v t ≡ None
no_state [] timelines v t are = refl
no_state (u ∷ variables) [] v t are = refl
no_state (u ∷ variables) (ts ∷ timelines) v t are =
    no_state_at (u == v) ts (beside variables timelines v) t (are 0) (no_state variables timelines v t (λ k. are (suc k)))

-- a variable's state is that of its epoch
pub state_shown : (variables : List ℕ) (timelines : List (List Epoch)) (epochs : List (Option (Bor Epoch))) (v t : ℕ) →
    length variables ≡ length timelines → AreInForce timelines epochs t →
    trace_by variables timelines v t ≡ option_and_then (λ p. p.cells) (epoch_beside variables epochs v)
state_shown [] timelines epochs v t same are = refl
state_shown (u ∷ variables) [] epochs v t same are = absurd (omega arith)
state_shown (u ∷ variables) (ts ∷ timelines) [] v t same are = no_state (u ∷ variables) (ts ∷ timelines) v t are
state_shown (u ∷ variables) (ts ∷ timelines) (e ∷ epochs) v t same are =
    shown_at (u == v) ts e (beside variables timelines v) (beside variables epochs v) t (are 0)
    (state_shown variables timelines epochs v t (omega arith) (λ k. are (suc k)))

-- ---- what holds of each epoch

each_at : (P : Epoch → Type 0) (same : Bool) (e : Option (Bor Epoch)) (b : Option (Option (Bor Epoch))) → IfSome e (λ r. P r.now) →
    ((p : Epoch) → option_copied (unwrap_or b None) ≡ Some p → P p) →
    (p : Epoch) → option_copied (unwrap_or (if same then Some e else b) None) ≡ Some p → P p
each_at P true None b first rest p is = absurd (false≢true (ap is_some is))
each_at P true (Some r) b first rest p is = let same : r.now ≡ p = cc in subst P same first
each_at P false e b first rest p is = rest p is

pub each_beside : (P : Epoch → Type 0) (variables : List ℕ) (epochs : List (Option (Bor Epoch))) (v : ℕ) →
    ((k : ℕ) → IfSome (get_or epochs k None) (λ r. P r.now)) → (p : Epoch) → epoch_beside variables epochs v ≡ Some p → P p
each_beside P [] epochs v each p is = absurd (false≢true (ap is_some is))
each_beside P (u ∷ variables) [] v each p is = absurd (false≢true (ap is_some is))
each_beside P (u ∷ variables) (e ∷ epochs) v each p is =
    each_at P (u == v) e (beside variables epochs v) (each 0) (each_beside P variables epochs v (λ k. each (suc k))) p is

-- ---- where all variables have an epoch

-- larger variables don't see the first place
past_first : (vs : List ℕ) (low u : ℕ) (us : List ℕ) (e : Option (Bor Epoch)) (epochs : List (Option (Bor Epoch))) → u < low → AreAscendingFrom low vs →
    list_all (λ v. is_some (epoch_beside (u ∷ us) (e ∷ epochs) v)) vs ≡ list_all (λ v. is_some (epoch_beside us epochs v)) vs
past_first [] low u us e epochs less ascend = refl
past_first (v ∷ vs) low u us e epochs less ascend =
    let other : (u == v) ≡ false = grind (arith, nat_tests, ascend.0) in
    let first : is_some (epoch_beside (u ∷ us) (e ∷ epochs) v) ≡ is_some (epoch_beside us epochs v)
    = ap (λ (same : Bool). is_some (option_copied (unwrap_or (if same then Some e else beside us epochs v) None))) other in
    (λ i. first i && past_first vs (v + 1) u us e epochs (omega (arith, ascend.0)) ascend.1 i)

pub begun_at_places : (variables : List ℕ) (low : ℕ) (epochs : List (Option (Bor Epoch))) → AreAscendingFrom low variables →
    list_all (λ v. is_some (epoch_beside variables epochs v)) variables ≡ true →
    (k : ℕ) → k < length variables → is_some (option_copied (get_or epochs k None)) ≡ true
begun_at_places [] low epochs ascend begun k l = absurd (omega arith)
begun_at_places (v ∷ variables) low [] ascend begun k l = absurd (false≢true begun)
begun_at_places (v ∷ variables) low (e ∷ epochs) ascend begun zero l =
    let parts = and_parts (is_some (epoch_beside (v ∷ variables) (e ∷ epochs) v)) _ begun in
    sym (ap (λ (same : Bool). is_some (option_copied (unwrap_or (if same then Some e else beside variables epochs v) None))) (equals_itself v)) ∙ parts.0
begun_at_places (v ∷ variables) low (e ∷ epochs) ascend begun (suc k) l =
    let parts = and_parts (is_some (epoch_beside (v ∷ variables) (e ∷ epochs) v)) _ begun in
    begun_at_places variables (v + 1) epochs ascend.1
    (sym (past_first variables (v + 1) v variables e epochs (omega arith) ascend.1) ∙ parts.1) k (omega arith)

-- one that has no epoch yet
pub record Missing (test begun : ℕ → Bool) : Type 0 where
  pub variable : ℕ
  pub passes : test variable ≡ true
  pub absent : begun variable ≡ false

missing_at : (passes : Bool) (test begun : ℕ → Bool) (v : ℕ) (later : List ℕ) → test v ≡ passes →
    (list_all begun later ≡ false → Missing test begun) → list_all begun (if passes then v ∷ later else later) ≡ false → Missing test begun
missing_at true test begun v later is rest none = missing_first (begun v) test begun v later is refl rest none where
  missing_first : (has : Bool) (test begun : ℕ → Bool) (v : ℕ) (later : List ℕ) → test v ≡ true → begun v ≡ has →
      (list_all begun later ≡ false → Missing test begun) → (has && list_all begun later) ≡ false → Missing test begun
  missing_first true test begun v later is here rest none = rest none
  missing_first false test begun v later is here rest none = record { variable = v; passes = is; absent = here }
missing_at false test begun v later is rest none = rest none

pub missing : (test begun : ℕ → Bool) (vs : List ℕ) → list_all begun (filter test vs) ≡ false → Missing test begun
missing test begun [] none = absurd (false≢true (sym none))
missing test begun (v ∷ vs) none = missing_at (test v) test begun v (filter test vs) refl (missing test begun vs) none

-- ---- the variables that pass a test

ascending_weaker : (vs : List ℕ) (low least : ℕ) → least ≤ low → AreAscendingFrom low vs → AreAscendingFrom least vs
ascending_weaker [] low least less ascend = tt
ascending_weaker (v ∷ vs) low least less ascend = (omega (arith, ascend.0), ascend.1)

ascending_at : (passes : Bool) (v low : ℕ) (later : List ℕ) → low ≤ v → AreAscendingFrom (v + 1) later → AreAscendingFrom low (if passes then v ∷ later else later)
ascending_at true v low later from ascend = (from, ascend)
ascending_at false v low later from ascend = ascending_weaker later (v + 1) low (omega arith) ascend

ascending_filter : (test : ℕ → Bool) (vs : List ℕ) (low : ℕ) → AreAscendingFrom low vs → AreAscendingFrom low (filter test vs)
ascending_filter test [] low ascend = tt
ascending_filter test (v ∷ vs) low ascend = ascending_at (test v) v low (filter test vs) ascend.0 (ascending_filter test vs (v + 1) ascend.1)

pub variables_ascend : (test : ℕ → Bool) → AreAscendingFrom 0 (filter test (0 ∷ 1 ∷ 2 ∷ 3 ∷ []))
variables_ascend test = ascending_filter test (0 ∷ 1 ∷ 2 ∷ 3 ∷ []) 0 (omega arith, (omega arith, (omega arith, (omega arith, tt))))

-- ---- a list beside its own variables

beside_at : {A : Type 0} (same : Bool) (u v : ℕ) (f : ℕ → A) (o : Option A) (rest : Bool) → (u == v) ≡ same → o ≡ (if rest then Some (f v) else None) →
    (if same then Some (f u) else o) ≡ (if same || rest then Some (f v) else None)
beside_at {A} true u v f o rest is others = let equal : u ≡ v = grind (arith, nat_tests) in ap (λ w. Some (f w)) equal
beside_at {A} false u v f o rest is others = others

pub beside-map : {A : Type 0} (f : ℕ → A) (vs : List ℕ) (v : ℕ) → beside vs (map f vs) v ≡ (if list_any (λ u. u == v) vs then Some (f v) else None)
beside-map {A} f [] v = refl
beside-map {A} f (u ∷ vs) v = beside_at (u == v) u v f (beside vs (map f vs) v) (list_any (λ w. w == v) vs) refl (beside-map f vs v)

-- a variable below 4 that passes is among them
pub is_listed : (test : ℕ → Bool) (v : ℕ) → v < 4 → test v ≡ true → list_any (λ u. u == v) (filter test (0 ∷ 1 ∷ 2 ∷ 3 ∷ [])) ≡ true
is_listed test v small passes = listed_in test v (0 ∷ 1 ∷ 2 ∷ 3 ∷ []) passes (grind (arith, nat_tests)) where
  listed_at : (keeps : Bool) (u v : ℕ) (later : List ℕ) (test : ℕ → Bool) → test u ≡ keeps → test v ≡ true → (same : Bool) → (u == v) ≡ same →
      (list_any (λ w. w == v) later ≡ true → list_any (λ w. w == v) (filter test later) ≡ true) → (same || list_any (λ w. w == v) later) ≡ true →
      list_any (λ w. w == v) (if keeps then u ∷ filter test later else filter test later) ≡ true
  listed_at true u v later test is passes true here rest any = ap (λ b. b || list_any (λ w. w == v) (filter test later)) here
  listed_at true u v later test is passes false here rest any = ap (λ b. b || list_any (λ w. w == v) (filter test later)) here ∙ rest any
  listed_at false u v later test is passes true here rest any =
      let equal : u ≡ v = grind (arith, nat_tests) in absurd (false≢true (sym is ∙ ap test equal ∙ passes))
  listed_at false u v later test is passes false here rest any = rest any

  listed_in : (test : ℕ → Bool) (v : ℕ) (vs : List ℕ) → test v ≡ true → list_any (λ u. u == v) vs ≡ true → list_any (λ u. u == v) (filter test vs) ≡ true
  listed_in test v [] passes any = any
  listed_in test v (u ∷ vs) passes any = listed_at (test u) u v vs test refl passes (u == v) refl (listed_in test v vs passes) any

-- ---- a search for a variable

pub found_beside : {A : Type 0} (variables : List ℕ) (xs : List A) (v k : ℕ) → k < length variables →
    ((j : ℕ) → j < k → (get_or variables j 0 == v) ≡ false) → (get_or variables k 0 == v) ≡ true → beside variables xs v ≡ slice_get xs k
found_beside {A} [] xs v k there below here = absurd (omega arith)
found_beside {A} (u ∷ variables) [] v k there below here = refl
found_beside {A} (u ∷ variables) (x ∷ xs) v zero there below here = ap (λ (same : Bool). if same then Some x else beside variables xs v) here
found_beside {A} (u ∷ variables) (x ∷ xs) v (suc k) there below here =
    ap (λ (same : Bool). if same then Some x else beside variables xs v) (below 0 (omega arith))
    ∙ found_beside variables xs v k (omega arith) (λ j l. below (suc j) (omega arith)) here

pub none_beside : {A : Type 0} (variables : List ℕ) (xs : List A) (v : ℕ) → ((j : ℕ) → j < length variables → (get_or variables j 0 == v) ≡ false) →
    beside variables xs v ≡ None
none_beside {A} [] xs v below = refl
none_beside {A} (u ∷ variables) [] v below = refl
none_beside {A} (u ∷ variables) (x ∷ xs) v below =
    ap (λ (same : Bool). if same then Some x else beside variables xs v) (below 0 (omega arith))
    ∙ none_beside variables xs v (λ j l. below (suc j) (omega arith))

-- ---- the timelines of the variables' objects

pub epochs_at : (s : Contents) (id : ℕ) (epochs : List Epoch) → option_map (λ o. o.epochs) (slice_get s.objects id) ≡ Some epochs → epochs_of s id ≡ epochs
epochs_at s id epochs is = epochs_in (slice_get s.objects id) epochs is where
  epochs_in : (o : Option StoredObject) (epochs : List Epoch) → option_map (λ o. o.epochs) o ≡ Some epochs → option_map_or (λ o. o.epochs) o [] ≡ epochs
  epochs_in None epochs is = absurd (false≢true (ap is_some is))
  epochs_in (Some o) epochs is = cc

module _ (f : ℕ → List Epoch) (vs : List ℕ) (ts : List (Bor (List Epoch))) (k : ℕ) (x : Bor (List Epoch)) (there : k < length vs) (room : k < length ts) where
  pub timelines_more : take k (epochs_of_each ts) ≡ map f (take k vs) → f (get_or vs k 0) ≡ x.now →
      take (k + 1) (epochs_of_each (set ts k x)) ≡ map f (take (k + 1) vs)
  timelines_more before here =
      ap (take (k + 1)) (map-set (λ (t : Bor (List Epoch)). t.now) ts k x)
      ∙ take_more_set (epochs_of_each ts) k x.now (omega (arith, length-map ts (λ (t : Bor (List Epoch)). t.now)))
      ∙ (λ i. before i ++ (sym here i ∷ []))
      ∙ sym (ap (map f) (take_more vs k 0 there) ∙ map-append f (take k vs) (get_or vs k 0 ∷ []))

-- ---- all timelines have begun

some_is : (o : Option Epoch) → is_some o ≡ true → IsSome o
some_is None is = absurd (false≢true is)
some_is (Some p) is = search rules

pub begun_timelines : (variables : List ℕ) (ts : List (Bor (List Epoch))) (epochs : List (Option (Bor Epoch))) (at : ℕ) → AreAscendingFrom 0 variables →
    length variables ≡ length ts → AreInForce (epochs_of_each ts) epochs at → list_all (λ v. is_some (epoch_beside variables epochs v)) variables ≡ true →
    All (λ (t : Bor (List Epoch)). IsSome (epoch_at t.now at)) ts
begun_timelines variables ts epochs at ascend same are begun k d l =
    some_is (epoch_at (get_or ts k d).now at)
    (ap (λ (e : List Epoch). is_some (epoch_at e at)) (sym (get_or-map (λ (t : Bor (List Epoch)). t.now) ts k d [] l))
    ∙ ap is_some (are k)
    ∙ begun_at_places variables 0 epochs ascend begun k (omega arith))

pub none_is : (o : Option Epoch) → is_some o ≡ false → o ≡ None
none_is None is = refl
none_is (Some p) is = absurd (false≢true (sym is))
