use Rattle.std.proofs.Common.{◌≡◌, length}
use Rattle.std.specs.Prelude.{All}
use Rattle.motion.specs.Cells.{AreCellsAt, IsGiven, changed}
use Rattle.motion.proofs.change.write_cells.Given as goal

-- what the changes that are left make of the cells so far is the whole
abbrev pub invariant-loop-change : goal.invariant-loop-change
invariant-loop-change l = record {
  whole : changed l.now l.rest l.cells ≡ changed l.now l.changes l.initial.cells;
  written : AreCellsAt l.cells l.now;
  given : All (λ change. IsGiven change.1) l.rest;
}

abbrev pub decreases-loop-change : goal.decreases-loop-change
decreases-loop-change l = length l.rest
