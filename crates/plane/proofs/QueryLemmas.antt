-- For this crate and for the crates above: the rows of values between two bounds answer the query for them.
use Rattle.std.proofs.Common.{◌≡◌, ℕ, zero, suc, ◌<◌, ℤ, ◌*ℤ◌, pos, Bool, true, false, ◌&&◌, Option, None, Some, List, [], ◌∷◌, map, length, get_or, refl, sym, ap, ◌∙◌, inl, inr, arith}
use Rattle.std.specs.Prelude.{All, int_le, is_some, option_map, option_and_then, slice_get, slice_index, if◌then◌else◌}
use Rattle.std.specs.List.{flat_map, list_any}
use Rattle.std.specs.Option.{option_map_or}
use Rattle.std.specs.Str.{bytes_eq}
use Rattle.std.proofs.lemmas.Int.{ints}
use Rattle.std.proofs.lemmas.Bool.{and_parts, false≢true, or_cases, or_left, or_right}
use Rattle.std.proofs.lemmas.List.Concat.{flat_map_single}
use Rattle.std.proofs.lemmas.List.Elements.{All-head, All-tail}
use Rattle.exact.proofs.Lists.{bytes_eq_refl, bytes_eq_true}
use Rattle.exact.proofs.Truths.{same_truth}
use Rattle.case_table.specs.Comparison.{compares}
use Rattle.case_table.specs.declared.compare.Op.TheVariants as ops
use Rattle.tick_set.specs.Ticks.{between}
use Rattle.motion.specs.declared.cell.Cell.{Cell}
use Rattle.history.specs.Catalog.{ids_of}
use Rattle.history.specs.History.{cells_at}
use Rattle.history.specs.World.{World}
use Rattle.formula.specs.declared.value.Value.{Value}
use Rattle.formula.specs.declared.value.Value.TheVariants as values
use Rattle.meaning.specs.Answer.{answer, has_ticks, row_where, rows_where}
use Rattle.meaning.specs.Binding.{holds_full}
use Rattle.meaning.specs.Value.{cell_in, cell_value, signed_value, values_compare}
use Rattle.plane.specs.Boxes.{number_in_value}
use Rattle.plane.specs.Rows.{is_between, is_in_range, range_query, rows_in_range}

-- ---- what the formula says of one object

once : (n : ℤ) → pos 1 *ℤ n ≡ n
once n = omega (arith, ints)

same_number : (lo hi n : ℤ) → (compares ops.Ge (pos 1 *ℤ n) (pos 1 *ℤ lo) && compares ops.Le (pos 1 *ℤ n) (pos 1 *ℤ hi)) ≡ is_between lo hi n
same_number lo hi n = λ i. int_le (once lo i) (once n i) && int_le (once n i) (once hi i)

abbrev both : Option Value → ℤ → ℤ → Bool
both found lo hi =
    values_compare ops.Ge (option_and_then (signed_value false None) found) (Some (values.Num (pos 1 *ℤ lo)))
    && values_compare ops.Le (option_and_then (signed_value false None) found) (Some (values.Num (pos 1 *ℤ hi)))

of_value : (v : Value) (lo hi : ℤ) → both (Some v) lo hi ≡ option_map_or (is_between lo hi) (number_in_value v) false
of_value (values.Num n) lo hi = same_number lo hi n
of_value (values.Text s) lo hi = refl

of_cell : (found : Option Cell) (lo hi : ℤ) (t : ℕ) → both (option_map (λ cell. cell_value cell t) found) lo hi
    ≡ option_map_or (is_between lo hi) (option_and_then (λ cell. number_in_value (cell_value cell t)) found) false
of_cell None lo hi t = refl
of_cell (Some cell) lo hi t = of_value (cell_value cell t) lo hi

of_cells : (cells : Option (List Cell)) (a : ℕ) (lo hi : ℤ) (t : ℕ) →
    (is_some cells && true && both (option_map (λ cell. cell_value cell t) (cell_in cells a)) lo hi)
    ≡ option_map_or (is_between lo hi) (option_and_then (λ cell. number_in_value (cell_value cell t)) (cell_in cells a)) false
of_cells None a lo hi t = refl
of_cells (Some there) a lo hi t = of_cell (slice_get there a) lo hi t

holds_alone : (w : World) (class a : ℕ) (lo hi : ℤ) (e : ℕ) (b : ℕ → ℕ) (t : ℕ) → holds_full w (range_query class a lo hi) e b t ≡ is_in_range w.history a lo hi (b 0) t
unfolding between
holds_alone w class a lo hi e b t = of_cells (cells_at w.history (b 0) t) a lo hi t

-- ---- bindings of one object

abbrev alone : ℕ → List ℕ
alone id = id ∷ []

singles : (ids : List ℕ) → flat_map (λ (x : ℕ). (x ∷ []) ∷ []) ids ≡ map alone ids
singles ids = flat_map_single alone ids

any_gives : (test : List ℕ → Bool) (id : ℕ) (ids : List ℕ) → list_any (λ b. bytes_eq (slice_index b 0 ∷ []) (id ∷ []) && test b) (map alone ids) ≡ true → test (id ∷ []) ≡ true
any_gives test id [] h = absurd (false≢true h)
any_gives test id (i ∷ ids) h =
    elim (or_cases (bytes_eq (i ∷ []) (id ∷ []) && test (i ∷ [])) (list_any (λ b. bytes_eq (slice_index b 0 ∷ []) (id ∷ []) && test b) (map alone ids)) h) [
      | inl e ↦ let parts = and_parts (bytes_eq (i ∷ []) (id ∷ [])) (test (i ∷ [])) e in
          sym (ap test (bytes_eq_true (i ∷ []) (id ∷ []) parts.0)) ∙ parts.1
      | inr e ↦ any_gives test id ids e
    ]

any_at : (test : List ℕ → Bool) (id : ℕ) (ids : List ℕ) (k d : ℕ) → k < length ids → get_or ids k d ≡ id → test (id ∷ []) ≡ true →
    list_any (λ b. bytes_eq (slice_index b 0 ∷ []) (id ∷ []) && test b) (map alone ids) ≡ true
any_at test id [] k d l at h = absurd (omega arith)
any_at test id (i ∷ ids) zero d l at h =
    or_left (bytes_eq (i ∷ []) (id ∷ []) && test (i ∷ [])) (list_any (λ b. bytes_eq (slice_index b 0 ∷ []) (id ∷ []) && test b) (map alone ids))
    (ap (λ n. bytes_eq (n ∷ []) (id ∷ []) && test (n ∷ [])) at ∙ ap (λ b. b && test (id ∷ [])) (bytes_eq_refl (id ∷ [])) ∙ h)
any_at test id (i ∷ ids) (suc k) d l at h =
    or_right (bytes_eq (i ∷ []) (id ∷ []) && test (i ∷ [])) (list_any (λ b. bytes_eq (slice_index b 0 ∷ []) (id ∷ []) && test b) (map alone ids))
    (any_at test id ids k d (omega arith) at h)

one_binding : (test : List ℕ → Bool) (ids : List ℕ) (k d : ℕ) → k < length ids →
    list_any (λ b. bytes_eq (slice_index b 0 ∷ []) (get_or ids k d ∷ []) && test b) (map alone ids) ≡ test (get_or ids k d ∷ [])
one_binding test ids k d l =
    same_truth (list_any (λ b. bytes_eq (slice_index b 0 ∷ []) (get_or ids k d ∷ []) && test b) (map alone ids)) (test (get_or ids k d ∷ []))
    (any_gives test (get_or ids k d) ids) (any_at test (get_or ids k d) ids k d l refl)

-- ---- rows

abbrev Agrees : (List ℕ → ℕ → Bool) → (List ℕ → ℕ → Bool) → ℕ → Type 0
Agrees p q id = (t : ℕ) → p (id ∷ []) t ≡ q (id ∷ []) t

same_rows : (p q : List ℕ → ℕ → Bool) (from e : ℕ) (ids : List ℕ) → All (Agrees p q) ids → rows_where (map alone ids) p from e ≡ rows_where (map alone ids) q from e
same_rows p q from e [] all = refl
same_rows p q from e (id ∷ ids) all =
    let first = All-head (Agrees p q) id ids all in
    let later = same_rows p q from e ids (All-tail (Agrees p q) id ids all) in
    λ i. if has_ticks (row_where (λ key t. first t i) from e (id ∷ [])).runs then (row_where (λ key t. first t i) from e (id ∷ []) ∷ later i) else later i

abbrev in_range : World → ℕ → ℤ → ℤ → List ℕ → ℕ → Bool
in_range w a lo hi key t = is_in_range w.history a lo hi (slice_index key 0) t

abbrev by_bindings : World → ℕ → ℕ → ℤ → ℤ → ℕ → List (List ℕ) → List ℕ → ℕ → Bool
by_bindings w class a lo hi e choices key t =
    list_any (λ b. bytes_eq (slice_index b 0 ∷ []) key && holds_full w (range_query class a lo hi) e (slice_index b) t) choices

one_object : (w : World) (class a : ℕ) (lo hi : ℤ) (e : ℕ) (ids : List ℕ) (k d : ℕ) → k < length ids → (t : ℕ) →
    by_bindings w class a lo hi e (map alone ids) (get_or ids k d ∷ []) t ≡ in_range w a lo hi (get_or ids k d ∷ []) t
one_object w class a lo hi e ids k d l t =
    one_binding (λ b. holds_full w (range_query class a lo hi) e (slice_index b) t) ids k d l
    ∙ holds_alone w class a lo hi e (slice_index (get_or ids k d ∷ [])) t

pub answers_query : (w : World) (class a : ℕ) (lo hi : ℤ) (from e : ℕ) → answer w (range_query class a lo hi) from e ≡ rows_in_range w.history class a lo hi from e
answers_query w class a lo hi from e =
    let ids = ids_of w.history.catalog class in
    ap (λ keys. rows_where keys (by_bindings w class a lo hi e keys) from e) (singles ids)
    ∙ same_rows (by_bindings w class a lo hi e (map alone ids)) (in_range w a lo hi) from e ids (λ k d l. one_object w class a lo hi e ids k d l)
