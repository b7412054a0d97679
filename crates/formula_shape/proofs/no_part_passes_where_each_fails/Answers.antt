use Rattle.formula_shape.proofs.PartLemmas.{no_part_where_each_fails}
use Rattle.formula_shape.proofs.no_part_passes_where_each_fails.Goals as goal

pub returns : goal.returns
returns g c = no_part_where_each_fails
