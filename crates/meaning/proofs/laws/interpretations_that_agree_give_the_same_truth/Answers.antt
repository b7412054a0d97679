use Rattle.meaning.proofs.LocalityLemmas.{same_sat}
use Rattle.meaning.proofs.laws.interpretations_that_agree_give_the_same_truth.Goals as goal

pub returns : goal.returns
returns c = same_sat
