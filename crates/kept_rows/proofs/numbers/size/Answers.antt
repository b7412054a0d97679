use Rattle.std.proofs.Common.{arith}
use Rattle.kept_rows.proofs.NumberLemmas.{size-some}
use Rattle.kept_rows.proofs.numbers.size.Goals as goal

pub returns-clause-some : goal.returns-clause-some
returns-clause-some c = grind (arith, size-some c.args.variables.now)
