use Rattle.std.proofs.Common.{arith}
use Rattle.kept_rows.proofs.NearLemmas.{none-here}
use Rattle.kept_rows.proofs.near.cell_of.Goals as goal

pub returns-clause-none : goal.returns-clause-none
returns-clause-none c = none-here c.args.cells.now c.args.bucket c.args.number c.cells.at (omega (arith, c.cells-test.false)) c.cells.invariant.none
