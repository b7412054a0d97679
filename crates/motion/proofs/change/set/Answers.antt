use Rattle.std.proofs.Common.{arith}
use Rattle.motion.proofs.CellLemmas.{set_at-within, set_at-past}
use Rattle.motion.proofs.change.set.Goals as goal

pub returns-then-index-cells-clause-cells : goal.returns-then-index-cells-clause-cells
returns-then-index-cells-clause-cells c = grind (arith, set_at-within)

pub returns-else-index-cells-clause-cells : goal.returns-else-index-cells-clause-cells
returns-else-index-cells-clause-cells c = grind (arith, set_at-past)
