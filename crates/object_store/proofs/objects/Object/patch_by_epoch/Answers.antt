use Rattle.object_store.proofs.PlaceLemmas.{placed_by_last}
use Rattle.object_store.proofs.objects.Object.patch_by_epoch.Goals as goal

pub returns-in-Some : goal.returns-in-Some
returns-in-Some c =
    placed_by_last c.args.from c.args.upto c.patch_of.result c.args.self.now.timeline c.in-Some.epoch.now c.requires.begun
    (λ t begun. c.in-Some.ensures.in_force t begun) c.patch_of.ensures
