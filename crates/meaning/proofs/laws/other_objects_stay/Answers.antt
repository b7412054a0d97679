use Rattle.meaning.proofs.QueryLemmas.{others_stay}
use Rattle.meaning.proofs.laws.other_objects_stay.Goals as goal

pub returns : goal.returns
returns c = others_stay
