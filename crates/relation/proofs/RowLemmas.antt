-- Rows in ascending order.
use Rattle.std.proofs.Common.{◌≡◌, ℕ, zero, suc, ◌+◌, ◌<◌, ◌≤◌, Bool, true, false, ◌&&◌, ◌||◌, ◌==◌, nat_lt, List, [], ◌∷◌, ◌++◌, length, get_or, drop, refl, sym, ap, ◌∙◌, subst, inl, inr, arith}
use Rattle.std.specs.List.{list_all}
use Rattle.std.specs.List.Sorted.{IsNonDecreasingBy}
use Rattle.std.specs.Str.{bytes_eq}
use Rattle.std.proofs.lemmas.Bool.{and_from, and_left, and_parts, cases_lt, eqb-true, false≢true, or_from}
use Rattle.std.proofs.lemmas.Bool.Decides.{nat_tests}
use Rattle.std.proofs.lemmas.List.{drop_all, drop_more}
use Rattle.std.proofs.lemmas.List.Folds.{list_all-append}
use Rattle.relation.specs.declared.row.Row.{Row}
use Rattle.relation.specs.Group.{id_at}
use Rattle.relation.specs.Key.{has_id, ids_of_variable, key_below, key_in}
use Rattle.relation.specs.Part.{has_from}
use Rattle.relation.specs.Rows.{AreRows, IsRow, has_at}
use Rattle.relation.proofs.KeyLemmas.{below_differs}

-- a key with objects for at least one variable from a place on has an object there
pub key_opens : (domains : List (List ℕ)) (var : ℕ) (vars : List ℕ) (place : ℕ) (key : List ℕ) → key_in domains (var ∷ vars) (drop place key) ≡ true →
    drop place key ≡ get_or key place 0 ∷ drop (place + 1) key
key_opens domains var vars place key h =
    elim (cases_lt place (length key)) [
      | inl l ↦ drop_more key place 0 l
      | inr l ↦ absurd (false≢true (subst (λ k. key_in domains (var ∷ vars) k ≡ true) (drop_all place key l) h))
    ]

pub key_parts : (domains : List (List ℕ)) (var : ℕ) (vars : List ℕ) (place : ℕ) (key : List ℕ) → key_in domains (var ∷ vars) (drop place key) ≡ true →
    (has_id (ids_of_variable domains var) (get_or key place 0) ≡ true) × (key_in domains vars (drop (place + 1) key) ≡ true)
key_parts domains var vars place key h =
    and_parts _ _ (subst (λ k. key_in domains (var ∷ vars) k ≡ true) (key_opens domains var vars place key h) h)

heads_rise : (x y : ℕ) (b : Bool) → (nat_lt x y || (x == y && b)) ≡ true → x ≤ y
heads_rise x y b h = grind (arith, nat_tests)

same_heads : (x y : ℕ) (b : Bool) → (nat_lt x y || (x == y && b)) ≡ true → x ≡ y → b ≡ true
same_heads x y b h e = grind (arith, nat_tests)

pub all_at : {X : Type 0} (p : X → Bool) (xs : List X) (i : ℕ) (d : X) → i < length xs → list_all p xs ≡ true → p (get_or xs i d) ≡ true
all_at p [] i d l h = absurd (omega arith)
all_at p (x ∷ xs) zero d l h = (and_parts _ _ h).0
all_at p (x ∷ xs) (suc i) d l h = all_at p xs i d (omega arith) (and_parts _ _ h).1

module _ {S : Type 0} (member : S → ℕ → Bool) (domains : List (List ℕ)) where
  pub rows_back : (vars : List ℕ) (lo hi place : ℕ) (xs ys : List (Row S)) → AreRows member domains vars lo hi place (xs ++ ys) → AreRows member domains vars lo hi place ys
  rows_back vars lo hi place [] ys h = h
  rows_back vars lo hi place (x ∷ xs) ys h = rows_back vars lo hi place xs ys h.2

  pub rows_front : (vars : List ℕ) (lo hi place : ℕ) (xs ys : List (Row S)) → AreRows member domains vars lo hi place (xs ++ ys) → AreRows member domains vars lo hi place xs
  rows_front vars lo hi place [] ys h = tt
  rows_front vars lo hi place (x ∷ xs) ys h =
      (h.0, (and_parts _ _ (sym (list_all-append (λ s. key_below (drop place x.key) (drop place s.key)) xs ys) ∙ h.1)).0, rows_front vars lo hi place xs ys h.2)

  pub rows_push : (vars : List ℕ) (lo hi place : ℕ) (xs : List (Row S)) (y : Row S) → AreRows member domains vars lo hi place xs →
      list_all (λ r. key_below (drop place r.key) (drop place y.key)) xs ≡ true → IsRow member domains vars lo hi place y →
      AreRows member domains vars lo hi place (xs ++ y ∷ [])
  rows_push vars lo hi place [] y h below one = (one, refl, tt)
  rows_push vars lo hi place (x ∷ xs) y h below one =
      let parts : (key_below (drop place x.key) (drop place y.key) ≡ true) × (list_all (λ r. key_below (drop place r.key) (drop place y.key)) xs ≡ true) = and_parts _ _ below in
      (h.0, list_all-append (λ s. key_below (drop place x.key) (drop place s.key)) xs (y ∷ []) ∙ and_from _ _ h.1 (and_from _ _ parts.0 refl), rows_push vars lo hi place xs y h.2 parts.1 one)

  pub row_at : (vars : List ℕ) (lo hi place : ℕ) (rows : List (Row S)) (i : ℕ) (d : Row S) → i < length rows → AreRows member domains vars lo hi place rows → IsRow member domains vars lo hi place (get_or rows i d)
  row_at vars lo hi place [] i d l h = absurd (omega arith)
  row_at vars lo hi place (x ∷ xs) zero d l h = h.0
  row_at vars lo hi place (x ∷ xs) (suc i) d l h = row_at vars lo hi place xs i d (omega arith) h.2

  -- the heads of two keys
  key_heads : (var : ℕ) (vars : List ℕ) (lo hi place : ℕ) (r s : Row S) → IsRow member domains (var ∷ vars) lo hi place r → IsRow member domains (var ∷ vars) lo hi place s →
      key_below (drop place r.key) (drop place s.key) ≡ true →
      (nat_lt (id_at place r) (id_at place s) || (id_at place r == id_at place s && key_below (drop (place + 1) r.key) (drop (place + 1) s.key))) ≡ true
  key_heads var vars lo hi place r s hr hs below =
      sym (λ i. key_below (key_opens domains var vars place r.key hr.inside i) (key_opens domains var vars place s.key hs.inside i)) ∙ below

  rises : (var : ℕ) (vars : List ℕ) (lo hi place : ℕ) (rows : List (Row S)) (i j : ℕ) (d : Row S) → AreRows member domains (var ∷ vars) lo hi place rows → i ≤ j → j < length rows →
      id_at place (get_or rows i d) ≤ id_at place (get_or rows j d)
  rises var vars lo hi place [] i j d h l k = absurd (omega arith)
  rises var vars lo hi place (r ∷ rs) zero zero d h l k = omega arith
  rises var vars lo hi place (r ∷ rs) zero (suc j) d h l k =
      let in_list : j < length rs = omega arith in
      heads_rise _ _ _ (key_heads var vars lo hi place r (get_or rs j d) h.0 (row_at (var ∷ vars) lo hi place rs j d in_list h.2)
      (all_at (λ s. key_below (drop place r.key) (drop place s.key)) rs j d in_list h.1))
  rises var vars lo hi place (r ∷ rs) (suc i) zero d h l k = absurd (omega arith)
  rises var vars lo hi place (r ∷ rs) (suc i) (suc j) d h l k = rises var vars lo hi place rs i j d h.2 (omega arith) (omega arith)

  pub ids_rise : (var : ℕ) (vars : List ℕ) (lo hi place : ℕ) (rows : List (Row S)) → AreRows member domains (var ∷ vars) lo hi place rows → IsNonDecreasingBy (id_at place) rows
  ids_rise var vars lo hi place rows h = λ i j d l k. rises var vars lo hi place rows i j d h l k

  -- the rows of one object at a place ascend from the next place on
  rest_below : (var : ℕ) (vars : List ℕ) (lo hi place id : ℕ) (r : Row S) (rs : List (Row S)) → IsRow member domains (var ∷ vars) lo hi place r → AreRows member domains (var ∷ vars) lo hi place rs →
      list_all (λ s. key_below (drop place r.key) (drop place s.key)) rs ≡ true → (id_at place r == id) ≡ true → list_all (λ s. id_at place s == id) rs ≡ true →
      list_all (λ s. key_below (drop (place + 1) r.key) (drop (place + 1) s.key)) rs ≡ true
  rest_below var vars lo hi place id r [] hr h below e es = refl
  rest_below var vars lo hi place id r (s ∷ rs) hr h below e es =
      let first : (key_below (drop place r.key) (drop place s.key) ≡ true) × (list_all (λ s. key_below (drop place r.key) (drop place s.key)) rs ≡ true) = and_parts _ _ below in
      let same : ((id_at place s == id) ≡ true) × (list_all (λ s. id_at place s == id) rs ≡ true) = and_parts _ _ es in
      and_from _ _
      (same_heads (id_at place r) (id_at place s) _ (key_heads var vars lo hi place r s hr h.0 first.0) (eqb-true _ id e ∙ sym (eqb-true _ id same.0)))
      (rest_below var vars lo hi place id r rs hr h.2 first.1 e same.1)

  pub group_rows : (var : ℕ) (vars : List ℕ) (lo hi place id : ℕ) (rows : List (Row S)) → AreRows member domains (var ∷ vars) lo hi place rows →
      list_all (λ r. id_at place r == id) rows ≡ true → AreRows member domains vars lo hi (place + 1) rows
  group_rows var vars lo hi place id [] h es = tt
  group_rows var vars lo hi place id (r ∷ rs) h es =
      let same : ((id_at place r == id) ≡ true) × (list_all (λ s. id_at place s == id) rs ≡ true) = and_parts _ _ es in
      let here : IsRow member domains vars lo hi (place + 1) r = record { inside = (key_parts domains var vars place r.key h.0.inside).1; lies = h.0.lies; some = h.0.some } in
      (here, rest_below var vars lo hi place id r rs h.0 h.2 h.1 same.0 same.1, group_rows var vars lo hi place id rs h.2 same.1)

  -- the rows of another object have none of its ticks
  pub has_from-other : (var : ℕ) (vars : List ℕ) (lo hi place id : ℕ) (rest : List ℕ) (t : ℕ) (p : Row S → Bool) → ((r : Row S) → p r ≡ true → (id_at place r == id) ≡ false) →
      (rows : List (Row S)) → AreRows member domains (var ∷ vars) lo hi place rows → list_all p rows ≡ true → has_from member place rows (id ∷ rest) t ≡ false
  has_from-other var vars lo hi place id rest t p other [] h all = refl
  has_from-other var vars lo hi place id rest t p other (r ∷ rs) h all =
      let parts : (p r ≡ true) × (list_all p rs ≡ true) = and_parts _ _ all in
      or_from _ _
      (and_left _ _ (ap (λ k. bytes_eq k (id ∷ rest)) (key_opens domains var vars place r.key h.0.inside) ∙ and_left _ _ (other r parts.0)))
      (has_from-other var vars lo hi place id rest t p other rs h.2 parts.1)

  -- those of this object have it where they have it from the next place on
  pub has_from-same : (var : ℕ) (vars : List ℕ) (lo hi place id : ℕ) (rest : List ℕ) (t : ℕ) (rows : List (Row S)) → AreRows member domains (var ∷ vars) lo hi place rows →
      list_all (λ r. id_at place r == id) rows ≡ true → has_from member place rows (id ∷ rest) t ≡ has_from member (place + 1) rows rest t
  has_from-same var vars lo hi place id rest t [] h all = refl
  has_from-same var vars lo hi place id rest t (r ∷ rs) h all =
      let parts : ((id_at place r == id) ≡ true) × (list_all (λ s. id_at place s == id) rs ≡ true) = and_parts _ _ all in
      let head : bytes_eq (drop place r.key) (id ∷ rest) ≡ bytes_eq (drop (place + 1) r.key) rest =
      ap (λ k. bytes_eq k (id ∷ rest)) (key_opens domains var vars place r.key h.0.inside) ∙ ap (λ b. b && bytes_eq (drop (place + 1) r.key) rest) parts.0 in
      λ i. (head i && member r.set t) || has_from-same var vars lo hi place id rest t rs h.2 parts.1 i

-- rows whose keys are below a front have no tick of a key that continues it
pub has_at-below : {S : Type 0} (member : S → ℕ → Bool) (rows : List (Row S)) (front rest : List ℕ) (t : ℕ) → list_all (λ r. key_below r.key front) rows ≡ true →
    has_at member rows (front ++ rest) t ≡ false
has_at-below member [] front rest t h = refl
has_at-below member (r ∷ rs) front rest t h =
    let parts : (key_below r.key front ≡ true) × (list_all (λ s. key_below s.key front) rs ≡ true) = and_parts _ _ h in
    or_from _ _ (and_left _ _ (below_differs r.key front rest parts.0)) (has_at-below member rs front rest t parts.1)
