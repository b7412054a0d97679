-- Keys against the fronts of others.
use Rattle.std.proofs.Common.{◌≡◌, ℕ, ◌<◌, Bool, true, false, ◌&&◌, ◌||◌, ◌==◌, nat_lt, List, [], ◌∷◌, ◌++◌, refl, arith}
use Rattle.std.specs.Str.{bytes_eq}
use Rattle.std.proofs.lemmas.Bool.{and_left, and_right}
use Rattle.std.proofs.lemmas.Bool.Decides.{nat_tests}
use Rattle.relation.specs.Key.{key_below}
use Rattle.relation.specs.Walk.{key_starts, key_upto}

step_or : (a b c d : Bool) → (c ≡ true → d ≡ true) → (a || (b && c)) ≡ true → (a || (b && d)) ≡ true
step_or true b c d f h = refl
step_or false true c d f h = f h
step_or false false c d f h = h

step_and : (a b c : Bool) → (b ≡ false → c ≡ false) → (a && b) ≡ false → (a && c) ≡ false
step_and true b c f h = f h
step_and false b c f h = refl

-- a key below a front is below all that continue it
pub below_continues : (k p q : List ℕ) → key_below k p ≡ true → key_below k (p ++ q) ≡ true
below_continues [] p q h = cc
below_continues (x ∷ k) [] q h = cc
below_continues (x ∷ k) (y ∷ p) q h = step_or _ _ _ _ (below_continues k p q) h

-- a key that is not above a front is below each front with a larger last object
pub below_from_upto : (k p : List ℕ) (x y : ℕ) → key_upto k (p ++ x ∷ []) ≡ true → x < y → key_below k (p ++ y ∷ []) ≡ true
below_from_upto [] [] x y h l = cc
below_from_upto (z ∷ k) [] x y h l = grind (arith, nat_tests)
below_from_upto [] (w ∷ p) x y h l = cc
below_from_upto (z ∷ k) (w ∷ p) x y h l = step_or _ _ _ _ (λ e. below_from_upto k p x y e l) h

pub upto_from_below : (k p q : List ℕ) → key_below k (p ++ q) ≡ true → key_upto k p ≡ true
upto_from_below k [] q h = refl
upto_from_below [] (w ∷ p) q h = cc
upto_from_below (z ∷ k) (w ∷ p) q h = step_or _ _ _ _ (upto_from_below k p q) h

pub below_upto : (k p : List ℕ) → key_below k p ≡ true → key_upto k p ≡ true
below_upto k [] h = refl
below_upto [] (w ∷ p) h = cc
below_upto (z ∷ k) (w ∷ p) h = step_or _ _ _ _ (below_upto k p) h

pub upto_itself : (p : List ℕ) → key_upto p p ≡ true
upto_itself [] = refl
upto_itself (x ∷ p) = let e : key_upto p p ≡ true = upto_itself p in grind (arith, nat_tests, e)

head_differs : (x y : ℕ) (a b : Bool) → (a ≡ true → b ≡ false) → (nat_lt x y || (x == y && a)) ≡ true → (x == y && b) ≡ false
head_differs x y true b f h = and_right (x == y) b (f refl)
head_differs x y false b f h = grind (arith, nat_tests)

-- a key below a front is none that continues it
pub below_differs : (k p s : List ℕ) → key_below k p ≡ true → bytes_eq k (p ++ s) ≡ false
below_differs [] p s h = cc
below_differs (x ∷ k) [] s h = cc
below_differs (x ∷ k) (y ∷ p) s h = head_differs x y _ _ (below_differs k p s) h

head_differs_back : (x y : ℕ) (a b : Bool) → (a ≡ true → b ≡ false) → (nat_lt x y || (x == y && a)) ≡ true → (y == x && b) ≡ false
head_differs_back x y true b f h = and_right (y == x) b (f refl)
head_differs_back x y false b f h = grind (arith, nat_tests)

-- of two keys with one below the other, neither is the other
pub below_not_same : (k p : List ℕ) → key_below k p ≡ true → bytes_eq k p ≡ false
below_not_same [] p h = cc
below_not_same (x ∷ k) [] h = cc
below_not_same (x ∷ k) (y ∷ p) h = head_differs x y _ _ (below_not_same k p) h

pub below_apart : (k p : List ℕ) → key_below k p ≡ true → bytes_eq p k ≡ false
below_apart [] p h = cc
below_apart (x ∷ k) [] h = cc
below_apart (x ∷ k) (y ∷ p) h = head_differs_back x y _ _ (below_apart k p) h

-- a key that does not begin with a front begins with none that continues it
pub starts_no_longer : (k p q : List ℕ) → key_starts k p ≡ false → key_starts k (p ++ q) ≡ false
starts_no_longer k [] q h = cc
starts_no_longer [] (w ∷ p) q h = refl
starts_no_longer (z ∷ k) (w ∷ p) q h = step_and _ _ _ (starts_no_longer k p q) h

pub starts_with_another : (p s : List ℕ) (x y : ℕ) → (y == x) ≡ false → key_starts (p ++ y ∷ s) (p ++ x ∷ []) ≡ false
starts_with_another [] s x y h = and_left _ _ h
starts_with_another (w ∷ p) s x y h = and_right _ _ (starts_with_another p s x y h)
