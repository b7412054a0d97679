use Rattle.meaning.proofs.GrowthLemmas.{goes_on_fitting}
use Rattle.meaning.proofs.laws.queries_go_on_fitting_their_classes.Goals as goal

pub returns : goal.returns
returns c = goes_on_fitting
