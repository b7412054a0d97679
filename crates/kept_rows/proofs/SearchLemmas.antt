-- A search for a number among changes.
use Rattle.std.proofs.Common.{◌≡◌, ℕ, zero, suc, ◌+◌, ◌<◌, true, false, ◌||◌, eqb, List, [], ◌∷◌, length, map, get_or, Result, Ok, Err, Ordering, is_ok, refl, sym, ap, ◌∙◌, subst, inl, inr, arith}
use Rattle.std.specs.List.Sorted.{IsBinarySearchResult, IsNonDecreasingBy, IsSearchInRange}
use Rattle.std.specs.Ordering.{is_lt, nat_cmp, ordering_index}
use Rattle.std.proofs.lemmas.Bool.{cases_lt, ne_eqb, or_left, or_right}
use Rattle.std.proofs.lemmas.Bool.Decides.{nat_tests}
use Rattle.std.proofs.lemmas.Cmp.{nat_cmp_total}
use Rattle.std.proofs.lemmas.List.Sorted.{searchable_from_sorted}
use Rattle.kept_rows.specs.declared.change.Change.{Change}
use Rattle.kept_rows.specs.Moves.{is_in}
use Rattle.kept_rows.specs.Rising.{AscendsWithin}

not_before : (m n : ℕ) → m < n → is_lt (nat_cmp n m) ≡ false
not_before m n h = grind (arith, nat_tests, h)

equal_numbers : (m n : ℕ) → nat_cmp m n ≡ Ordering.Equal → m ≡ n
equal_numbers m n e = grind (arith, nat_tests, e)

not_less : (m n : ℕ) → nat_cmp m n ≡ Ordering.Less → m ≡ n → ⊥
not_less m n e same = grind (arith, nat_tests, e, same)

not_greater : (m n : ℕ) → nat_cmp m n ≡ Ordering.Greater → m ≡ n → ⊥
not_greater m n e same = grind (arith, nat_tests, e, same)

module _ {S : Type 0} where
  adjacent : (from to : ℕ) (xs : List (Change S)) (k : ℕ) (d : Change S) → AscendsWithin from to (map (λ x. x.number) xs) → k + 1 < length xs →
      (get_or xs k d).number < (get_or xs (k + 1) d).number
  adjacent from to [] k d r l = absurd (omega (arith, l))
  adjacent from to (x ∷ []) k d r l = absurd (omega (arith, l))
  adjacent from to (x ∷ y ∷ xs) zero d r l = omega (arith, r.2.0)
  adjacent from to (x ∷ y ∷ xs) (suc k) d r l =
      subst (λ (n : ℕ). (get_or (y ∷ xs) k d).number < (get_or (x ∷ y ∷ xs) n d).number) (let e : suc (k + 1) ≡ suc k + 1 = omega arith in e)
      (adjacent (x.number + 1) to (y ∷ xs) k d r.2 (omega (arith, l)))

  searchable : (from to : ℕ) (xs : List (Change S)) (number : ℕ) → AscendsWithin from to (map (λ x. x.number) xs) →
      IsNonDecreasingBy (λ (x : Change S). ordering_index (nat_cmp x.number number)) xs
  searchable from to xs number r =
      searchable_from_sorted nat_cmp_total (λ (x : Change S). x.number) xs number
      (λ k d l m. not_before (get_or xs k d).number (get_or xs (k + 1) d).number (adjacent from to xs k d r m))

  -- the changes at the places
  is_in-at : (xs : List (Change S)) (k n : ℕ) → k < length xs → ((d : Change S) → (get_or xs k d).number ≡ n) → is_in xs n ≡ true
  is_in-at [] k n l e = absurd (omega (arith, l))
  is_in-at (x ∷ xs) zero n l e = or_left (eqb x.number n) (is_in xs n) (grind (arith, nat_tests, e x))
  is_in-at (x ∷ xs) (suc k) n l e = or_right (eqb x.number n) (is_in xs n) (is_in-at xs k n (omega (arith, l)) e)

  is_in-none : (xs : List (Change S)) (n : ℕ) → ((k : ℕ) (d : Change S) → k < length xs → (get_or xs k d).number ≡ n → ⊥) → is_in xs n ≡ false
  is_in-none [] n apart = refl
  is_in-none (x ∷ xs) n apart =
      ap (λ b. b || is_in xs n) (ne_eqb x.number n (apart 0 x (omega arith)))
      ∙ is_in-none xs n (λ k d l. apart (suc k) d (omega (arith, l)))

  pub search_is_in : (from to : ℕ) (xs : List (Change S)) (n : ℕ) (r : Result ℕ ℕ) → AscendsWithin from to (map (λ x. x.number) xs) →
      IsSearchInRange r (length xs) → IsBinarySearchResult (λ (x : Change S). nat_cmp x.number n) xs r → is_ok r ≡ is_in xs n
  search_is_in from to xs n (Ok at) rising l found =
      sym (is_in-at xs at n l (λ d. equal_numbers (get_or xs at d).number n (found d)))
  search_is_in from to xs n (Err at) rising l parted =
      sym (is_in-none xs n (λ k d m. apart k d m))
    where
      apart : (k : ℕ) (d : Change S) → k < length xs → (get_or xs k d).number ≡ n → ⊥
      apart k d m e = elim (cases_lt k at) [
        | inl below ↦ not_less (get_or xs k d).number n ((parted (searchable from to xs n rising)).0 k d (omega arith) below) e
        | inr above ↦ not_greater (get_or xs k d).number n ((parted (searchable from to xs n rising)).1 k d above m) e
      ]
