-- The rows of candidates are those of the class.
use Rattle.std.proofs.Common.{◌≡◌, ℕ, ℤ, Result, Ok, Err, List, sym, ap, ◌∙◌}
use Rattle.std.specs.Prelude.{IfOk}
use Rattle.object_store.specs.Contents.{Contents, history_of}
use Rattle.meaning.specs.Answer.{Row}
use Rattle.plane.specs.Boxes.{Grid, candidates}
use Rattle.plane.specs.Rows.{rows_among, rows_in_range, IsCovered}
use Rattle.plane.proofs.RowLemmas.{candidates_tell}
use Rattle.plane_index.specs.Told.{recorded_by}

pub if_told : {V E : Type 0} (rows : V → List Row) (r : Result V E) (xs ys : List Row) → xs ≡ ys → IfOk r (λ v. rows v ≡ xs) → IfOk r (λ v. rows v ≡ ys)
if_told rows (Ok v) xs ys same is = is ∙ same
if_told rows (Err e) xs ys same is = tt

pub told_by_candidates : (s : Contents) (old new : Grid) (lo hi : ℤ) (from e attribute : ℕ) (found : List ℕ) → IsCovered (recorded_by s) old from e → new ≡ old →
    attribute ≡ new.attribute → found ≡ candidates (recorded_by s) new lo hi from e →
    rows_among (history_of s) attribute lo hi from e found ≡ rows_in_range (history_of s) old.class old.attribute lo hi from e
told_by_candidates s old new lo hi from e attribute found covered same is found_is =
    (λ i. rows_among (history_of s) (is i) lo hi from e (found_is i))
    ∙ ap (λ (g : Grid). rows_among (history_of s) g.attribute lo hi from e (candidates (recorded_by s) g lo hi from e)) same
    ∙ sym (candidates_tell (recorded_by s) old lo hi from e covered)
