use Rattle.live_queries.proofs.CommittedLemmas.{goes_on_fitting}
use Rattle.live_queries.proofs.laws.queries_go_on_fitting_worlds.Goals as goal

pub returns : goal.returns
returns c = λ old new m n classes regions k k' head fits.
    goes_on_fitting old new m k k' head classes
    (λ is. c.queries_go_on_fitting_their_classes.ensures old new m n classes regions k.query is) fits
