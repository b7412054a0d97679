use Rattle.std.proofs.Common.{ap, ◌∙◌}
use Rattle.nearest.specs.Depth.{count_to}
use Rattle.nearest.proofs.ThinLemmas.{some_bound}
use Rattle.nearest.proofs.thinning.bound_of.Goals as goal

pub returns : goal.returns
returns c =
    some_bound c.least_of.result c.args.seen.now c.args.k c.in_ok-found.found.items c.deref.result.now c.in_ok-found.ensures
    (λ m. ap (λ numbers. count_to numbers m) c.deref.ensures.value ∙ c.ascending-mosts.ensures.counts m) c.least_of.ensures
