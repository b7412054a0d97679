-- For this crate and for the crates above: lists of anything: the first index that passes a test, and what stands there.
use Rattle.std.proofs.Common.{◌≡◌, ℕ, zero, suc, ◌+◌, Bool, true, false, cond, not, ◌||◌, nat_lt, Option, None, Some, List, [], ◌∷◌, map, length, take, refl, sym, ap, subst, ◌∙◌, arith}
use Rattle.std.specs.Prelude.{All, slice_get, is_some, option_and_then, option_map}
use Rattle.std.proofs.lemmas.Option.{same_Some, none-some}
use Rattle.std.specs.List.{list_any, find, position, position_or_len, AllByRecursion, IsDistinct}
use Rattle.std.proofs.lemmas.Bool.Decides.{nat_tests}

-- the first index, by recursion
abbrev pub index_in : {X : Type 0} → (X → Bool) → List X → Option ℕ
index_in p [] = None
index_in p (x ∷ xs) = cond (p x) (Some 0) (option_map suc (index_in p xs))

index_step : (b : Bool) (m n : ℕ) → cond (nat_lt (cond (not b) (1 + m) 0) (suc n)) (Some (cond (not b) (1 + m) 0)) None ≡ cond b (Some 0) (option_map suc (cond (nat_lt m n) (Some m) None))
index_step true m n = grind (arith, nat_tests)
index_step false m n = grind (arith, nat_tests)

pub index_is : {X : Type 0} (p : X → Bool) (xs : List X) → position p xs ≡ index_in p xs
index_is p [] = refl
index_is p (x ∷ xs) =
    index_step (p x) (position_or_len p xs) (length xs) ∙ ap (λ r. cond (p x) (Some 0) (option_map suc r)) (index_is p xs)

pub index-map : {X Y : Type 0} (p : Y → Bool) (f : X → Y) (xs : List X) → index_in p (map f xs) ≡ index_in (λ x. p (f x)) xs
index-map p f [] = refl
index-map p f (x ∷ xs) = ap (λ r. cond (p (f x)) (Some 0) (option_map suc r)) (index-map p f xs)

pub position-map : {X Y : Type 0} (p : Y → Bool) (f : X → Y) (xs : List X) → position p (map f xs) ≡ position (λ x. p (f x)) xs
position-map p f xs = index_is p (map f xs) ∙ index-map p f xs ∙ sym (index_is (λ x. p (f x)) xs)

under_suc : {X : Type 0} (x : X) (xs : List X) (r : Option ℕ) → option_and_then (slice_get xs) r ≡ option_and_then (slice_get (x ∷ xs)) (option_map suc r)
under_suc x xs None = refl
under_suc x xs (Some i) = refl

found_step : {X : Type 0} (b : Bool) (x : X) (xs : List X) (r : Option ℕ) → cond b (Some x) (option_and_then (slice_get xs) r) ≡ option_and_then (slice_get (x ∷ xs)) (cond b (Some 0) (option_map suc r))
found_step true x xs r = refl
found_step false x xs r = under_suc x xs r

find_in : {X : Type 0} (p : X → Bool) (xs : List X) → find p xs ≡ option_and_then (slice_get xs) (index_in p xs)
find_in p [] = refl
find_in p (x ∷ xs) = ap (cond (p x) (Some x)) (find_in p xs) ∙ found_step (p x) x xs (index_in p xs)

-- what is found stands at the first index
pub find_is : {X : Type 0} (p : X → Bool) (xs : List X) → find p xs ≡ option_and_then (slice_get xs) (position p xs)
find_is p xs = find_in p xs ∙ ap (option_and_then (slice_get xs)) (sym (index_is p xs))

pub list_any-map : {X Y : Type 0} (p : Y → Bool) (f : X → Y) (xs : List X) → list_any p (map f xs) ≡ list_any (λ x. p (f x)) xs
list_any-map p f [] = refl
list_any-map p f (x ∷ xs) = ap (λ b. p (f x) || b) (list_any-map p f xs)

pub find-map : {X Y : Type 0} (p : Y → Bool) (f : X → Y) (xs : List X) → find p (map f xs) ≡ option_map f (find (λ x. p (f x)) xs)
find-map p f [] = refl
find-map p f (x ∷ xs) = ap (cond (p (f x)) (Some (f x))) (find-map p f xs) ∙ under (p (f x)) f x (find (λ y. p (f y)) xs)
  where
    under : {X Y : Type 0} (b : Bool) (f : X → Y) (x : X) (r : Option X) → cond b (Some (f x)) (option_map f r) ≡ option_map f (cond b (Some x) r)
    under true f x r = refl
    under false f x r = refl

pub map-map : {X Y Z : Type 0} (g : Y → Z) (f : X → Y) (xs : List X) → map g (map f xs) ≡ map (λ x. g (f x)) xs
map-map g f [] = refl
map-map g f (x ∷ xs) = ap (λ ys. g (f x) ∷ ys) (map-map g f xs)

absent_step : {X : Type 0} (b : Bool) (x : X) (r : Option X) → cond b (Some x) r ≡ None → (b ≡ false) × (r ≡ None)
absent_step true x r none = cc
absent_step false x r none = (refl, none)

-- none passes where nothing is found
pub any_is_found : {X : Type 0} (p : X → Bool) (xs : List X) → find p xs ≡ None → list_any p xs ≡ false
any_is_found p [] none = refl
any_is_found p (x ∷ xs) none =
    let step = absent_step (p x) x (find p xs) none in
    ap (λ b. b || list_any p xs) step.0 ∙ any_is_found p xs step.1

all_take : {X : Type 0} (P : X → Type 0) (n : ℕ) (xs : List X) → AllByRecursion P xs → AllByRecursion P (take n xs)
all_take P zero xs all = tt
all_take P (suc n) [] all = tt
all_take P (suc n) (x ∷ xs) all = (all.0, all_take P n xs all.1)

-- names that differ still do where some at the end are left out
pub IsDistinct-take : {K : Type 0} (e : K → K → Bool) (n : ℕ) (ks : List K) → IsDistinct e ks → IsDistinct e (take n ks)
unfolding IsDistinct
IsDistinct-take e zero ks apart = tt
IsDistinct-take e (suc n) [] apart = tt
IsDistinct-take e (suc n) (k ∷ ks) apart = (all_take (λ y. e k y ≡ false) n ks apart.0, IsDistinct-take e n ks apart.1)

found_head : {X : Type 0} (P : X → Type 0) (b : Bool) (y x : X) (rest : Option X) → cond b (Some y) rest ≡ Some x → P y → (rest ≡ Some x → P x) → P x
found_head P true y x rest found head later = subst P (same_Some y x found) head
found_head P false y x rest found head later = later found

-- what holds of all holds of the one that is found
pub All-find : {X : Type 0} (P : X → Type 0) (q : X → Bool) (xs : List X) (x : X) → All P xs → find q xs ≡ Some x → P x
All-find P q [] x all found = absurd (none-some x found)
All-find P q (y ∷ ys) x all found =
    found_head P (q y) y x (find q ys) found (all 0 y (omega arith)) (All-find P q ys x (λ k d l. all (suc k) d (omega arith)))

some_step : {X : Type 0} (b : Bool) (x : X) (rest : Option X) → is_some (cond b (Some x) rest) ≡ (b || is_some rest)
some_step true x rest = refl
some_step false x rest = refl

pub is_some-find : {X : Type 0} (q : X → Bool) (xs : List X) → is_some (find q xs) ≡ list_any q xs
is_some-find q [] = refl
is_some-find q (x ∷ xs) = some_step (q x) x (find q xs) ∙ ap (λ b. q x || b) (is_some-find q xs)
