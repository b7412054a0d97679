use Rattle.fixed_point.proofs.CanonicalLemmas.{printed_law}
use Rattle.fixed_point.proofs.laws.reads_what_is_printed.Goals as goal

pub returns : goal.returns
returns c = printed_law
