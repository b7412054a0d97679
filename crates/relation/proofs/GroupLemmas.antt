-- The part of a relation that gives a variable one object.
use Rattle.std.proofs.Common.{◌≡◌, ℕ, suc, ◌+◌, Bool, true, false, not, ◌&&◌, ◌||◌, ◌==◌, nat_lt, List, [], ◌∷◌, ◌++◌, length, drop, map, refl, sym, ap, ◌∙◌, subst, inl, inr, arith}
use Rattle.std.specs.List.{list_all}
use Rattle.std.specs.List.Sorted.{IsNonDecreasingBy}
use Rattle.std.specs.Str.{bytes_eq}
use Rattle.std.proofs.lemmas.Bool.{and_from, eqb-true, false≢true, not-true, not_from_false, or_cases, or_parts}
use Rattle.std.proofs.lemmas.Bool.Decides.{nat_tests}
use Rattle.std.proofs.lemmas.List.Folds.{list_any-append}
use Rattle.relation.specs.declared.row.Row.{Row}
use Rattle.relation.specs.Group.{IsGroup, id_at, ids_at}
use Rattle.relation.specs.Key.{has_id, ids_of_variable}
use Rattle.relation.specs.Part.{has_from, leads}
use Rattle.relation.specs.Rows.{AreRows}
use Rattle.relation.proofs.RowLemmas.{group_rows, has_from-other, has_from-same, ids_rise, key_parts, rows_back, rows_front}

smaller_differs : (x y : ℕ) → nat_lt x y ≡ true → (x == y) ≡ false
smaller_differs x y h = grind (arith, nat_tests)

larger_differs : (x y : ℕ) → nat_lt y x ≡ true → (x == y) ≡ false
larger_differs x y h = grind (arith, nat_tests)

-- a list with an item is not empty
not_none : (n : ℕ) → (suc n == 0) ≡ true → ⊥
not_none n h = let e : suc n ≡ 0 = eqb-true (suc n) 0 h in omega arith

led : (v var n : ℕ) → (v == var || suc n == 0) ≡ true → v ≡ var
led v var n h = elim (or_cases _ _ h) [ inl e ↦ eqb-true v var e | inr e ↦ absurd (not_none n e) ]

or_middle : (a b c d : Bool) → a ≡ false → c ≡ false → b ≡ d → (a || (b || c)) ≡ d
or_middle a true c d ha hc e = ap (λ x. x || true) ha ∙ e
or_middle a false c d ha hc e = ap (λ x. x || c) ha ∙ hc ∙ e

module _ {S : Type 0} (member : S → ℕ → Bool) (domains : List (List ℕ)) (lo hi : ℕ) where
  pub group_part : (var : ℕ) (vars : List ℕ) (place id : ℕ) (rows group : List (Row S)) → AreRows member domains (var ∷ vars) lo hi place rows → IsGroup place id rows group →
      AreRows member domains vars lo hi (place + 1) group
  group_part var vars place id rows group h is =
      let h' = subst (λ (z : List (Row S)). AreRows member domains (var ∷ vars) lo hi place z) is.parts h in
      let all = rows_front member domains (var ∷ vars) lo hi place group is.back (rows_back member domains (var ∷ vars) lo hi place is.front (group ++ is.back) h') in
      group_rows member domains var vars lo hi place id group all is.here

  pub group_has : (var : ℕ) (vars : List ℕ) (place id : ℕ) (rows group : List (Row S)) → AreRows member domains (var ∷ vars) lo hi place rows → IsGroup place id rows group →
      (rest : List ℕ) (t : ℕ) → has_from member (place + 1) group rest t ≡ has_from member place rows (id ∷ rest) t
  group_has var vars place id rows group h is rest t =
      let h' = subst (λ (z : List (Row S)). AreRows member domains (var ∷ vars) lo hi place z) is.parts h in
      let behind = rows_back member domains (var ∷ vars) lo hi place is.front (group ++ is.back) h' in
      let front = has_from-other member domains var vars lo hi place id rest t (λ r. nat_lt (id_at place r) id) (λ r. smaller_differs (id_at place r) id) is.front
      (rows_front member domains (var ∷ vars) lo hi place is.front (group ++ is.back) h') is.before in
      let back = has_from-other member domains var vars lo hi place id rest t (λ r. nat_lt id (id_at place r)) (λ r. larger_differs (id_at place r) id) is.back
      (rows_back member domains (var ∷ vars) lo hi place group is.back behind) is.after in
      let same = has_from-same member domains var vars lo hi place id rest t group (rows_front member domains (var ∷ vars) lo hi place group is.back behind) is.here in
      let has = λ (r : Row S). bytes_eq (drop place r.key) (id ∷ rest) && member r.set t in
      sym (
      ap (λ (z : List (Row S)). has_from member place z (id ∷ rest) t) is.parts
      ∙ list_any-append has is.front (group ++ is.back)
      ∙ ap (λ b. has_from member place is.front (id ∷ rest) t || b) (list_any-append has group is.back)
      ∙ or_middle _ _ _ _ front back same
      )

  pub fixed_has : (var id v : ℕ) (vars : List ℕ) (place : ℕ) (rows group : List (Row S)) → AreRows member domains (v ∷ vars) lo hi place rows → v ≡ var → IsGroup place id rows group →
      (b : ℕ → ℕ) → b var ≡ id → (t : ℕ) → has_from member (place + 1) group (map b vars) t ≡ has_from member place rows (b v ∷ map b vars) t
  fixed_has var id v vars place rows group h e is b at t =
      group_has v vars place id rows group h is (map b vars) t ∙ ap (λ x. has_from member place rows (x ∷ map b vars) t) (sym (ap b e ∙ at))

  none_rise : (place : ℕ) (rows : List (Row S)) → length rows ≡ 0 → IsNonDecreasingBy (id_at place) rows
  none_rise place rows e = λ i j d l k. absurd (omega (arith, e, k))

  -- the objects of a part's next variable rise
  pub part_rises : (var : ℕ) (vars : List ℕ) (place : ℕ) (rows : List (Row S)) → AreRows member domains vars lo hi place rows → (leads var vars || length rows == 0) ≡ true →
      IsNonDecreasingBy (id_at place) rows
  part_rises var [] place rows h e = none_rise place rows (eqb-true (length rows) 0 e)
  part_rises var (v ∷ vars) place rows h e = ids_rise member domains v vars lo hi place rows h

  all_others : (place y : ℕ) (rows : List (Row S)) → has_id (ids_at place rows) y ≡ false → list_all (λ r. not (id_at place r == y)) rows ≡ true
  all_others place y [] h = refl
  all_others place y (r ∷ rs) h =
      let parts : ((id_at place r == y) ≡ false) × (has_id (ids_at place rs) y ≡ false) = or_parts _ _ h in
      and_from _ _ (not_from_false _ parts.0) (all_others place y rs parts.1)

  -- rows have no tick with an object that none of them has
  pub rows_idle : (var : ℕ) (vars : List ℕ) (place : ℕ) (rows : List (Row S)) → AreRows member domains vars lo hi place rows → (leads var vars || length rows == 0) ≡ true → (b : ℕ → ℕ) →
      has_id (ids_at place rows) (b var) ≡ false → (t : ℕ) → has_from member place rows (map b vars) t ≡ false
  rows_idle var vars place [] h offered b none t = refl
  rows_idle var [] place (r ∷ rs) h offered b none t = absurd (not_none (length rs) offered)
  rows_idle var (v ∷ vars) place (r ∷ rs) h offered b none t =
      let same : v ≡ var = led v var (length rs) offered in
      ap (λ (y : ℕ). has_from member place (r ∷ rs) (y ∷ map b vars) t) (ap b same)
      ∙ has_from-other member domains v vars lo hi place (b var) (map b vars) t (λ r. not (id_at place r == b var)) (λ r e. not-true _ e) (r ∷ rs) h (all_others place (b var) (r ∷ rs) none)

  id_inside : (var : ℕ) (vars : List ℕ) (place x : ℕ) (rows : List (Row S)) → AreRows member domains (var ∷ vars) lo hi place rows → has_id (ids_at place rows) x ≡ true →
      has_id (ids_of_variable domains var) x ≡ true
  id_inside var vars place x [] h e = absurd (false≢true e)
  id_inside var vars place x (r ∷ rs) h e =
      elim (or_cases _ _ e) [
        | inl here ↦ subst (λ (y : ℕ). has_id (ids_of_variable domains var) y ≡ true) (eqb-true _ x here) (key_parts domains var vars place r.key h.0.inside).0
        | inr later ↦ id_inside var vars place x rs h.2 later
      ]

  -- an object of theirs is one of the variable's domain
  pub rows_inside : (var : ℕ) (vars : List ℕ) (place : ℕ) (rows : List (Row S)) → AreRows member domains vars lo hi place rows → (leads var vars || length rows == 0) ≡ true → (x : ℕ) →
      has_id (ids_at place rows) x ≡ true → has_id (ids_of_variable domains var) x ≡ true
  rows_inside var vars place [] h offered x e = absurd (false≢true e)
  rows_inside var [] place (r ∷ rs) h offered x e = absurd (not_none (length rs) offered)
  rows_inside var (v ∷ vars) place (r ∷ rs) h offered x e =
      let same : v ≡ var = led v var (length rs) offered in
      subst (λ (w : ℕ). has_id (ids_of_variable domains w) x ≡ true) same (id_inside v vars place x (r ∷ rs) h e)
