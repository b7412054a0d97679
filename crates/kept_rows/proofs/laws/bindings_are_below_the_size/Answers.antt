use Rattle.kept_rows.proofs.LawLemmas.{below_size}
use Rattle.kept_rows.proofs.laws.bindings_are_below_the_size.Goals as goal

pub returns : goal.returns
returns c = below_size
