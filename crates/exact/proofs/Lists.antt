-- For this crate and for the crates above: some and each element of a list, where two tests agree on the elements or
-- are each other's negation; and lists of bytes that are equal.
use Rattle.std.proofs.Common.{◌≡◌, ℕ, Bool, true, false, not, ◌&&◌, ◌||◌, List, [], ◌∷◌, All, Contains, get_or, refl, ap, ◌∙◌}
use Rattle.std.specs.Prelude.{bytes_eq}
use Rattle.std.specs.List.{list_any, list_all}
use Rattle.std.specs.Cmp.Lexicographic.{nat_list_eq_equiv}
use Rattle.std.proofs.lemmas.List.Elements.{All-head, All-tail, All-contains, Contains-get_or}
use Rattle.std.proofs.lemmas.List.Folds.{Any-from_list_any, list_any-from_Any}
use Rattle.std.proofs.lemmas.Slice.Eq.{bytes_eq-Decides}
use Rattle.std.proofs.lemmas.List.Sums.{AllPass-from_list_all, list_all-from_AllPass}

pub list_any_agree : {X : Type 0} (p q : X → Bool) (xs : List X) → All (λ x. p x ≡ q x) xs → list_any p xs ≡ list_any q xs
list_any_agree p q [] h = refl
list_any_agree p q (x ∷ xs) h = let here = All-head (λ x. p x ≡ q x) x xs h in let there = list_any_agree p q xs (All-tail (λ x. p x ≡ q x) x xs h) in cc

pub list_all_agree : {X : Type 0} (p q : X → Bool) (xs : List X) → All (λ x. p x ≡ q x) xs → list_all p xs ≡ list_all q xs
list_all_agree p q [] h = refl
list_all_agree p q (x ∷ xs) h = let here = All-head (λ x. p x ≡ q x) x xs h in let there = list_all_agree p q xs (All-tail (λ x. p x ≡ q x) x xs h) in cc

not-|| : (x y : Bool) → not (x || y) ≡ (not x && not y)
not-|| true y = refl
not-|| false y = refl

not-&& : (x y : Bool) → not (x && y) ≡ (not x || not y)
not-&& true y = refl
not-&& false y = refl

pub not-list_any : {X : Type 0} (p : X → Bool) (xs : List X) → not (list_any p xs) ≡ list_all (λ x. not (p x)) xs
not-list_any p [] = refl
not-list_any p (x ∷ xs) = not-|| (p x) (list_any p xs) ∙ ap (λ r. not (p x) && r) (not-list_any p xs)

pub not-list_all : {X : Type 0} (p : X → Bool) (xs : List X) → not (list_all p xs) ≡ list_any (λ x. not (p x)) xs
not-list_all p [] = refl
not-list_all p (x ∷ xs) = not-&& (p x) (list_all p xs) ∙ ap (λ r. not (p x) || r) (not-list_all p xs)

-- an element that passes, from and to the test of the whole list
pub list_any_gives : {X : Type 0} (p : X → Bool) (xs : List X) → list_any p xs ≡ true → (x : X) × Contains xs x × (p x ≡ true)
list_any_gives p xs h = let w = Any-from_list_any p xs h in (w.1, (w.0, w.2, w.3), w.4)

pub list_any_from : {X : Type 0} (p : X → Bool) (xs : List X) (x : X) → Contains xs x → p x ≡ true → list_any p xs ≡ true
list_any_from p xs x c h = list_any-from_Any p xs (c.0, x, c.1, c.2, h)

pub list_all_gives : {X : Type 0} (p : X → Bool) (xs : List X) → list_all p xs ≡ true → (x : X) → Contains xs x → p x ≡ true
list_all_gives p xs h x c = All-contains (λ y. p y ≡ true) xs x (AllPass-from_list_all p xs h) c

pub list_all_from : {X : Type 0} (p : X → Bool) (xs : List X) → ((x : X) → Contains xs x → p x ≡ true) → list_all p xs ≡ true
list_all_from p xs h = list_all-from_AllPass p xs (λ k d l. h (get_or xs k d) (Contains-get_or xs k d l))

-- bytes that pass the test of equality are the same, and each list passes it with itself
pub bytes_eq_true : (a b : List ℕ) → bytes_eq a b ≡ true → a ≡ b
bytes_eq_true a b h = (bytes_eq-Decides a b).0 h

pub bytes_eq_refl : (a : List ℕ) → bytes_eq a a ≡ true
bytes_eq_refl a = nat_list_eq_equiv.refl a
