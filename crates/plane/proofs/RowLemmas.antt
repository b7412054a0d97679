-- For this crate and for the crates above: the rows of values between two bounds are told by the candidates.
use Rattle.std.proofs.Common.{◌≡◌, ℕ, ◌+◌, ◌-◌, ◌≤◌, ℤ, Bool, true, false, ◌&&◌, Option, None, Some, List, [], ◌∷◌, map, get_or, refl, ap, ◌∙◌, arith}
use Rattle.std.specs.Prelude.{All, int_lt, int_le, slice_index, if◌then◌else◌}
use Rattle.std.specs.List.{filter}
use Rattle.std.specs.Option.{option_map_or}
use Rattle.std.proofs.lemmas.Int.{ints}
use Rattle.std.proofs.lemmas.Bool.Decides.{nat_tests}
use Rattle.std.proofs.lemmas.List.Elements.{All-head, All-tail}
use Rattle.tick_set.specs.Runs.{runs_of}
use Rattle.tick_set.specs.Ticks.{between, listed}
use Rattle.history.specs.Catalog.{ids_of}
use Rattle.history.specs.History.{History}
use Rattle.meaning.specs.Answer.{Row, has_ticks, row_where, rows_where}
use Rattle.plane.specs.Recorded.{Recorded}
use Rattle.plane.specs.Boxes.{Grid, candidates, is_candidate}
use Rattle.plane.specs.Rows.{is_in_range, rows_among, rows_in_range, IsCovered}
use Rattle.plane.proofs.BoxLemmas.{not_in_range}
use Rattle.exact.proofs.Items.{none_in_range}

-- ---- no ticks, no row

none_there : (p : ℕ → Bool) (from e : ℕ) → ((t : ℕ) → from ≤ t → t ≤ e → p t ≡ false) → listed p from e ≡ []
unfolding listed between
none_there p from e none = none_in_range p (e + 1 - from) from (λ t after before. none t after (omega arith))

rowless : (holds : List ℕ → ℕ → Bool) (from e id : ℕ) → ((t : ℕ) → from ≤ t → t ≤ e → holds (id ∷ []) t ≡ false) →
    has_ticks (row_where holds from e (id ∷ [])).runs ≡ false
rowless holds from e id none = ap (λ ticks. has_ticks (runs_of ticks)) (none_there (holds (id ∷ [])) from e none)

-- objects without a tick may be left out
kept_first : (holds : List ℕ → ℕ → Bool) (from e id : ℕ) (ids more : List ℕ) (keep : Bool) →
    (keep ≡ false → (t : ℕ) → from ≤ t → t ≤ e → holds (id ∷ []) t ≡ false) →
    rows_where (map (λ i. i ∷ []) ids) holds from e ≡ rows_where (map (λ i. i ∷ []) more) holds from e →
    rows_where (map (λ i. i ∷ []) (id ∷ ids)) holds from e ≡ rows_where (map (λ i. i ∷ []) (if keep then id ∷ more else more)) holds from e
kept_first holds from e id ids more true none same =
    ap (λ (rows : List Row). if has_ticks (row_where holds from e (id ∷ [])).runs then row_where holds from e (id ∷ []) ∷ rows else rows) same
kept_first holds from e id ids more false none same =
    ap (λ b. if b then row_where holds from e (id ∷ []) ∷ rows_where (map (λ i. i ∷ []) ids) holds from e else rows_where (map (λ i. i ∷ []) ids) holds from e)
    (rowless holds from e id (none refl))
    ∙ same

pub kept_tell : (holds : List ℕ → ℕ → Bool) (from e : ℕ) (keep : ℕ → Bool) (ids : List ℕ) →
    All (λ id. keep id ≡ false → (t : ℕ) → from ≤ t → t ≤ e → holds (id ∷ []) t ≡ false) ids →
    rows_where (map (λ i. i ∷ []) ids) holds from e ≡ rows_where (map (λ i. i ∷ []) (filter keep ids)) holds from e
kept_tell holds from e keep [] none = refl
kept_tell holds from e keep (id ∷ ids) none =
    let P : ℕ → Type 0 = λ i. keep i ≡ false → (t : ℕ) → from ≤ t → t ≤ e → holds (i ∷ []) t ≡ false in
    kept_first holds from e id ids (filter keep ids) (keep id) (All-head P id ids none) (kept_tell holds from e keep ids (All-tail P id ids none))

-- ---- candidates tell the rows

nothing_between : (lo hi z : ℤ) → int_lt hi lo ≡ true → (int_le lo z && int_le z hi) ≡ false
nothing_between lo hi z wrong = grind (arith, ints, nat_tests)

wrong_order : (h : History) (attribute : ℕ) (lo hi : ℤ) (id t : ℕ) (found : Option ℤ) → int_lt hi lo ≡ true →
    option_map_or (λ z. int_le lo z && int_le z hi) found false ≡ false
wrong_order h attribute lo hi id t None wrong = refl
wrong_order h attribute lo hi id t (Some z) wrong = nothing_between lo hi z wrong

no_rows : (holds : List ℕ → ℕ → Bool) (from e : ℕ) (ids : List ℕ) → ((id t : ℕ) → holds (id ∷ []) t ≡ false) → rows_where (map (λ i. i ∷ []) ids) holds from e ≡ []
no_rows holds from e [] none = refl
no_rows holds from e (id ∷ ids) none =
    ap (λ b. if b then row_where holds from e (id ∷ []) ∷ rows_where (map (λ i. i ∷ []) ids) holds from e else rows_where (map (λ i. i ∷ []) ids) holds from e)
    (rowless holds from e id (λ t after before. none id t))
    ∙ no_rows holds from e ids none

by_candidates : (r : Recorded) (g : Grid) (lo hi : ℤ) (from e : ℕ) → IsCovered r g from e → (wrong : Bool) → int_lt hi lo ≡ wrong →
    rows_in_range r.history g.class g.attribute lo hi from e
    ≡ rows_among r.history g.attribute lo hi from e (if wrong then [] else filter (is_candidate r g lo hi from e) (ids_of r.history.catalog g.class))
by_candidates r g lo hi from e covered true is =
    no_rows (λ key t. is_in_range r.history g.attribute lo hi (slice_index key 0) t) from e (ids_of r.history.catalog g.class)
    (λ id t. wrong_order r.history g.attribute lo hi id t _ is)
by_candidates r g lo hi from e covered false is =
    kept_tell (λ key t. is_in_range r.history g.attribute lo hi (slice_index key 0) t) from e (is_candidate r g lo hi from e) (ids_of r.history.catalog g.class)
    (λ k d l. not_in_range r g lo hi from e covered (get_or (ids_of r.history.catalog g.class) k d) (covered.settled k d l))

pub candidates_tell : (r : Recorded) (g : Grid) (lo hi : ℤ) (from e : ℕ) → IsCovered r g from e →
    rows_in_range r.history g.class g.attribute lo hi from e ≡ rows_among r.history g.attribute lo hi from e (candidates r g lo hi from e)
candidates_tell r g lo hi from e covered = by_candidates r g lo hi from e covered (int_lt hi lo) refl
