use Rattle.std.proofs.Common.{ap}
use Rattle.places.specs.declared.patch.Extent.{Extent}
use Rattle.object_store.proofs.PlaceLemmas.{within_range}
use Rattle.object_store.proofs.horizon.extent_of_vector.Goals as goal

pub returns : goal.returns
returns c =
    within_range c.args.vector.now c.args.from c.args.upto c.range-least.result.0 c.range-least.result.1 c.of.result c.range-least.ensures
    (ap (λ (e : Extent). e.least) c.of.ensures) (ap (λ (e : Extent). e.greatest) c.of.ensures)
