use Rattle.meaning.proofs.MoreLemmas.{holds_more}
use Rattle.meaning.proofs.laws.atoms_that_hold_more_make_it_hold_more.Goals as goal

pub returns : goal.returns
returns c = holds_more
