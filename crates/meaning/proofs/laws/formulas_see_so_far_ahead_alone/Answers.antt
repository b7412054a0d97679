use Rattle.meaning.proofs.AheadLemmas.{seen_so_far}
use Rattle.meaning.proofs.laws.formulas_see_so_far_ahead_alone.Goals as goal

pub returns : goal.returns
returns c = seen_so_far
