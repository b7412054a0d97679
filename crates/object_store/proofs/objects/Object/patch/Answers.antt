use Rattle.object_store.proofs.AlongLemmas.{line_begun, line_reached}
use Rattle.object_store.proofs.objects.Object.patch.Goals as goal

pub patch_along-requires-clause-begun : goal.patch_along-requires-clause-begun
patch_along-requires-clause-begun c = line_begun c.args.self.now.timeline c.in-Some.line.now c.args.from c.in-Some.ensures.told c.requires.begun

pub patch_along-requires-clause-reached : goal.patch_along-requires-clause-reached
patch_along-requires-clause-reached c = line_reached c.args.self.now.timeline c.in-Some.line.now c.in-Some.ensures.told

pub returns-in-Some : goal.returns-in-Some
returns-in-Some c = c.patch_along.ensures c.args.self.now.timeline c.in-Some.ensures.told
