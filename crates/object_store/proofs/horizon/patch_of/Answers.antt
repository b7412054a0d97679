use Rattle.std.proofs.Common.{subst}
use Rattle.object_store.specs.Placing.{IsWithin}
use Rattle.object_store.proofs.PlaceLemmas.{lies}
use Rattle.object_store.proofs.horizon.patch_of.Goals as goal

pub returns : goal.returns
returns c = λ t from to.
    lies c.args.epoch.now.cells (record { x = c.extent_of.result; y = c.extent_of-2.result }) t
    (subst (IsWithin c.extent_of.result t) c.cell.ensures.value (c.extent_of.ensures t from to))
    (subst (IsWithin c.extent_of-2.result t) c.cell-2.ensures.value (c.extent_of-2.ensures t from to))
