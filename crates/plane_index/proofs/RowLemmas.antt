-- Rows, one object after another.
use Rattle.std.proofs.Common.{◌≡◌, ℕ, ◌+◌, ◌<◌, ◌≤◌, ℤ, false, Option, Some, List, [], ◌∷◌, ◌++◌, length, map, take, get_or, refl, sym, ap, subst, ◌∙◌}
use Rattle.std.specs.Prelude.{◌==◌, ◌&&◌, slice_index, IfSome}
use Rattle.std.specs.List.{filter}
use Rattle.std.specs.Option.{option_map_or}
use Rattle.std.proofs.lemmas.Bool.{false≢true}
use Rattle.std.proofs.lemmas.List.{map-append, take_all, take_more}
use Rattle.std.proofs.lemmas.List.Elements.{filter-append}
use Rattle.tick_set.specs.Runs.{pairs, IsRuns}
use Rattle.tick_set.specs.Ticks.{within}
use Rattle.tick_set.specs.declared.spans.Span.{Span}
use Rattle.tick_set.proofs.RunLemmas.{runs_of_listed}
use Rattle.motion.specs.Timeline.{Epoch, state_at}
use Rattle.history.specs.History.{History, cells_at}
use Rattle.meaning.specs.Answer.{Row, has_ticks, row_where}
use Rattle.plane.specs.Rows.{is_between, is_in_range, rows_among}
use Rattle.plane_index.specs.Rows.{told_range_row, told_range_rows}
use Rattle.plane_index.specs.Ticks.{runs_found, HasRun}
use Rattle.plane_index.specs.Told.{lies_between, number_in_cells}
use Rattle.plane_index.specs.declared.rows.RangeRow.{RangeRow}

abbrev pub if_some : Row → List Row
if_some row = filter (λ r. has_ticks r.runs) (row ∷ [])

kept : (ticks : List Span) (id : ℕ) → (length ticks == 0) ≡ false → if_some (record { key = id ∷ []; runs = pairs ticks }) ≡ record { key = id ∷ []; runs = pairs ticks } ∷ []
kept [] id some = absurd (false≢true (sym some))
kept (span ∷ ticks) id some = refl

row_added : (rows : List RangeRow) (row : RangeRow) (ticks : List Span) → row.ticks ≡ ticks → (length ticks == 0) ≡ false →
    told_range_rows (rows ++ row ∷ []) ≡ told_range_rows rows ++ if_some (record { key = row.id ∷ []; runs = pairs ticks })
row_added rows row ticks same some =
    map-append told_range_row rows (row ∷ [])
    ∙ (λ i. told_range_rows rows ++ record { key = row.id ∷ []; runs = pairs (same i) } ∷ [])
    ∙ ap (λ more. told_range_rows rows ++ more) (sym (kept ticks row.id some))

pub row_found : (rows : List RangeRow) (row : RangeRow) (found : Option (List Span)) → found ≡ Some row.ticks → IfSome found HasRun →
    told_range_rows (rows ++ row ∷ []) ≡ told_range_rows rows ++ if_some (record { key = row.id ∷ []; runs = pairs (runs_found found) })
row_found rows row found is some =
    subst (λ f. told_range_rows (rows ++ row ∷ []) ≡ told_range_rows rows ++ if_some (record { key = row.id ∷ []; runs = pairs (runs_found f) })) (sym is)
    (row_added rows row row.ticks refl (subst (λ f. IfSome f HasRun) is some))

-- what a timeline tells is what the history tells of its object
pub same_test : (h : History) (epochs : List Epoch) (attribute : ℕ) (lo hi : ℤ) (id t : ℕ) → cells_at h id t ≡ state_at epochs t →
    lies_between epochs attribute lo hi t ≡ is_in_range h attribute lo hi id t
same_test h epochs attribute lo hi id t is = sym (λ i. option_map_or (is_between lo hi) (number_in_cells (is i) attribute t) false)

-- the row of one object
pub row_of_runs : (h : History) (epochs : List Epoch) (attribute : ℕ) (lo hi : ℤ) (from e id : ℕ) (runs : List Span) →
    ((t : ℕ) → cells_at h id t ≡ state_at epochs t) → IsRuns (λ t. within from e t && lies_between epochs attribute lo hi t) runs →
    record { key = id ∷ []; runs = pairs runs } ≡ row_where (λ key t. is_in_range h attribute lo hi (slice_index key 0) t) from e (id ∷ [])
row_of_runs h epochs attribute lo hi from e id runs states are =
    let told = runs_of_listed (λ t. within from e t && lies_between epochs attribute lo hi t) (is_in_range h attribute lo hi id) from e runs are
    (λ t. ap (λ b. within from e t && b) (same_test h epochs attribute lo hi id t (states t))) in
    λ i. record { key = id ∷ []; runs = told i }

abbrev pub row_by : History → ℕ → ℤ → ℤ → ℕ → ℕ → List ℕ → Row
row_by h attribute lo hi from e key = row_where (λ key t. is_in_range h attribute lo hi (slice_index key 0) t) from e key

pub rows_more : (h : History) (attribute : ℕ) (lo hi : ℤ) (from e i id : ℕ) (ids : List ℕ) → i < length ids → id ≡ get_or ids i id →
    rows_among h attribute lo hi from e (take (i + 1) ids) ≡ rows_among h attribute lo hi from e (take i ids) ++ if_some (row_by h attribute lo hi from e (id ∷ []))
rows_more h attribute lo hi from e i id ids below is =
    let row : List ℕ → Row = row_by h attribute lo hi from e in
    ap (rows_among h attribute lo hi from e) (take_more ids i id below)
    ∙ ap (λ keys. filter (λ (r : Row). has_ticks r.runs) (map row keys)) (map-append (λ (n : ℕ). n ∷ []) (take i ids) (get_or ids i id ∷ []))
    ∙ ap (filter (λ (r : Row). has_ticks r.runs)) (map-append row (map (λ (n : ℕ). n ∷ []) (take i ids)) ((get_or ids i id ∷ []) ∷ []))
    ∙ filter-append (λ (r : Row). has_ticks r.runs) (map row (map (λ (n : ℕ). n ∷ []) (take i ids))) (row (get_or ids i id ∷ []) ∷ [])
    ∙ ap (λ n. rows_among h attribute lo hi from e (take i ids) ++ if_some (row (n ∷ []))) (sym is)

pub rows_all : (h : History) (attribute : ℕ) (lo hi : ℤ) (from e i : ℕ) (ids : List ℕ) → length ids ≤ i →
    rows_among h attribute lo hi from e (take i ids) ≡ rows_among h attribute lo hi from e ids
rows_all h attribute lo hi from e i ids all = ap (rows_among h attribute lo hi from e) (take_all i ids all)
