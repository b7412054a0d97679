-- What an object has throughout a window.
use Rattle.std.proofs.Common.{◌≡◌, ℕ, ◌<◌, ◌≤◌, false, Option, None, Some, is_some, List, ap, subst, ◌∙◌}
use Rattle.std.specs.Prelude.{[], option_and_then, slice_get, unwrap_or}
use Rattle.std.proofs.lemmas.Bool.{false≢true}
use Rattle.motion.proofs.CallerLemmas.{AreBegunBy-later}
use Rattle.motion.proofs.PieceLemmas.{IsCellAt-later}
use Rattle.motion.specs.Cells.{IsCellAt}
use Rattle.motion.specs.Dynamic.{Dynamic}
use Rattle.motion.specs.Pieces.{IsLinear}
use Rattle.motion.specs.Timeline.{AreBegunBy, Epoch, cells_of, epoch_at, state_at}
use Rattle.motion.specs.declared.cell.Cell.{Cell}
use Rattle.motion.specs.declared.cell.Cell.TheVariants as cells
use Rattle.meaning.specs.Value.{cell_in}
use Rattle.atoms.specs.Parts.{IsSteadyCell}

-- ---- one slope

pub steady_dynamic : (v : Dynamic) (lo hi : ℕ) → IsLinear v lo hi → IsSteadyCell (cells.Dyn v) lo hi
steady_dynamic v lo hi steady u is = let same : v ≡ u = cc in subst (λ (d : Dynamic). IsLinear d lo hi) same steady

-- ---- the cells of the epoch in force

pub begun_later : (epochs : List Epoch) (s t : ℕ) → s ≤ t → AreBegunBy epochs s → AreBegunBy epochs t
begun_later = AreBegunBy-later

pub cell_later : (cell : Cell) (s t : ℕ) → s ≤ t → IsCellAt cell s → IsCellAt cell t
cell_later = IsCellAt-later

cell_there : (there : Option (List Cell)) (a : ℕ) (cell : Cell) → slice_get (unwrap_or there []) a ≡ Some cell → cell_in there a ≡ Some cell
cell_there None a cell is = absurd (false≢true (ap is_some is))
cell_there (Some there) a cell is = is

pub cell_throughout : (epochs : List Epoch) (p : Epoch) (a t : ℕ) (cell : Cell) → epoch_at epochs t ≡ Some p → slice_get (cells_of p) a ≡ Some cell →
    cell_in (state_at epochs t) a ≡ Some cell
cell_throughout epochs p a t cell in_force is =
    ap (λ (o : Option Epoch). cell_in (option_and_then (λ q. q.cells) o) a) in_force ∙ cell_there p.cells a cell is
