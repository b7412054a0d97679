use Rattle.fixed_point.proofs.DecimalLemmas.{decimal_law}
use Rattle.fixed_point.proofs.laws.reads_each_decimal.Goals as goal

pub returns : goal.returns
returns c = decimal_law
