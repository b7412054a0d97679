-- A search for a key.
use Rattle.std.proofs.Common.{◌≡◌, ℕ, zero, suc, ◌+◌, ◌<◌, ◌≤◌, Bool, true, false, ◌&&◌, ◌||◌, ◌==◌, nat_lt, List, [], ◌∷◌, length, get_or, Ok, Err, Ordering, refl, sym, ap, ◌∙◌, subst, inl, inr, arith}
use Rattle.std.specs.List.Sorted.{IsBinarySearchResult, IsNonDecreasingBy, IsSortedBy}
use Rattle.std.specs.Ordering.{is_eq, is_lt, nat_cmp, ordering_index, ordering_then}
use Rattle.std.specs.Str.{bytes_eq}
use Rattle.std.specs.Cmp.Lexicographic.{nat_list_cmp_total, slice_cmp}
use Rattle.std.proofs.lemmas.Bool.{cases_lt, false≢true, or_from}
use Rattle.std.proofs.lemmas.Bool.Decides.{nat_tests}
use Rattle.std.proofs.lemmas.List.Sorted.{searchable_from_sorted}
use Rattle.std.proofs.lemmas.Map.Text.{is_eq-slice_cmp}
use Rattle.relation.specs.declared.row.Row.{Row}
use Rattle.relation.specs.Key.{key_below}
use Rattle.relation.specs.Rows.{AreRows, IsRow, IsTable, Table, has_at}
use Rattle.relation.proofs.ChangeLemmas.{among, has_at-none, row_own}
use Rattle.relation.proofs.RowLemmas.{all_at, row_at}
use Rattle.exact.proofs.Lists.{bytes_eq_true}

head_not_after : (x y : ℕ) (a : Bool) (o : Ordering) → (a ≡ true → is_lt o ≡ false) → (nat_lt x y || (x == y && a)) ≡ true → is_lt (ordering_then (nat_cmp y x) o) ≡ false
head_not_after x y a o f h = grind (arith, nat_tests, f)

below_not_after : (a b : List ℕ) → key_below a b ≡ true → is_lt (slice_cmp nat_cmp b a) ≡ false
below_not_after [] b h = absurd (false≢true h)
below_not_after (x ∷ a) [] h = absurd (false≢true h)
below_not_after (x ∷ a) (y ∷ b) h = head_not_after x y _ (slice_cmp nat_cmp b a) (below_not_after a b) h

module _ {S : Type 0} (member : S → ℕ → Bool) (domains : List (List ℕ)) (vars : List ℕ) (lo hi : ℕ) where
  adjacent : (rows : List (Row S)) (k : ℕ) (d : Row S) → AreRows member domains vars lo hi 0 rows → k + 1 < length rows → key_below (get_or rows k d).key (get_or rows (k + 1) d).key ≡ true
  adjacent [] k d h l = absurd (omega arith)
  adjacent (r ∷ rs) zero d h l = all_at (λ s. key_below r.key s.key) rs 0 d (omega arith) h.1
  adjacent (r ∷ rs) (suc k) d h l =
      subst (λ (n : ℕ). key_below (get_or rs k d).key (get_or (r ∷ rs) n d).key ≡ true) (let e : suc (k + 1) ≡ suc k + 1 = omega arith in e) (adjacent rs k d h.2 (omega arith))

  sorted : (rows : List (Row S)) → AreRows member domains vars lo hi 0 rows → IsSortedBy (λ (a b : Row S). is_lt (slice_cmp nat_cmp a.key b.key)) rows
  sorted rows h = λ k d l m. below_not_after (get_or rows k d).key (get_or rows (k + 1) d).key (adjacent rows k d h m)

  module _ (rows : List (Row S)) (key : List ℕ) (is : AreRows member domains vars lo hi 0 rows) where
    searchable : IsNonDecreasingBy (λ (r : Row S). ordering_index (slice_cmp nat_cmp r.key key)) rows
    searchable = searchable_from_sorted nat_list_cmp_total (λ (r : Row S). r.key) rows key (sorted rows is)

    -- at the place that is found the row has the ticks of the key
    pub found_row : (at : ℕ) (row : Row S) → at < length rows → row ≡ get_or rows at row → IsBinarySearchResult (λ (r : Row S). slice_cmp nat_cmp r.key key) rows (Ok at) →
        (t : ℕ) → member row.set t ≡ has_at member rows key t
    found_row at row l e equal t =
        let same : row.key ≡ key = bytes_eq_true row.key key (sym (is_eq-slice_cmp row.key key) ∙ ap is_eq (subst (λ (z : Row S). slice_cmp nat_cmp z.key key ≡ Ordering.Equal) (sym e) (equal row))) in
        let own = subst (λ (z : Row S). has_at member rows z.key t ≡ member z.set t) (sym e) (row_own member domains vars lo hi rows at row is l t) in
        sym own ∙ ap (λ (k : List ℕ). has_at member rows k t) same

    -- where none is found no row has the key
    pub found_none : (at : ℕ) → at ≤ length rows → IsBinarySearchResult (λ (r : Row S). slice_cmp nat_cmp r.key key) rows (Err at) → (t : ℕ) → has_at member rows key t ≡ false
    found_none at l parted t = has_at-none member rows key (none rows (λ k d m. each k d m)) t
      where
        each : (k : ℕ) (d : Row S) → k < length rows → bytes_eq (get_or rows k d).key key ≡ false
        each k d m = elim (cases_lt k at) [
          | inl below ↦ sym (is_eq-slice_cmp (get_or rows k d).key key) ∙ ap is_eq ((parted searchable).0 k d (omega arith) below)
          | inr above ↦ sym (is_eq-slice_cmp (get_or rows k d).key key) ∙ ap is_eq ((parted searchable).1 k d above m)
        ]

        none : (zs : List (Row S)) → ((k : ℕ) (d : Row S) → k < length zs → bytes_eq (get_or zs k d).key key ≡ false) → among key zs ≡ false
        none [] h = refl
        none (z ∷ zs) h = or_from _ _ (h 0 z (omega arith)) (none zs (λ k d m. h (suc k) d (omega arith)))

-- a search among the rows of a relation
module _ {S : Type 0} (member : S → ℕ → Bool) (self : Table S) (rows : List (Row S)) (key : List ℕ) (same : rows ≡ self.rows) (is : IsTable member self) where
  are : AreRows member self.domains self.vars self.lo self.hi 0 rows
  are = subst (λ (z : List (Row S)). AreRows member self.domains self.vars self.lo self.hi 0 z) (sym same) is.rows

  pub read_ticks : (at : ℕ) (row : Row S) → at < length rows → row ≡ get_or rows at row → IsBinarySearchResult (λ (r : Row S). slice_cmp nat_cmp r.key key) rows (Ok at) →
      (t : ℕ) → member row.set t ≡ has_at member self.rows key t
  read_ticks at row l e found t =
      found_row member self.domains self.vars self.lo self.hi rows key are at row l e found t ∙ ap (λ (z : List (Row S)). has_at member z key t) same

  pub read_some : (at : ℕ) (row : Row S) → at < length rows → row ≡ get_or rows at row → IsBinarySearchResult (λ (r : Row S). slice_cmp nat_cmp r.key key) rows (Ok at) →
      ((t : ℕ) → has_at member self.rows key t ≡ false) → ⊥
  read_some at row l e found none =
      let own = subst (λ (z : Row S). IsRow member self.domains self.vars self.lo self.hi 0 z) (sym e) (row_at member self.domains self.vars self.lo self.hi 0 rows at row l are) in
      own.some (λ t. read_ticks at row l e found t ∙ none t)

  pub read_none : (at : ℕ) → at ≤ length rows → IsBinarySearchResult (λ (r : Row S). slice_cmp nat_cmp r.key key) rows (Err at) → (t : ℕ) → has_at member self.rows key t ≡ false
  read_none at l parted t =
      ap (λ (z : List (Row S)). has_at member z key t) (sym same) ∙ found_none member self.domains self.vars self.lo self.hi rows key are at l parted t
