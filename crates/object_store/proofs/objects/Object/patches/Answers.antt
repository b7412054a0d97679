use Rattle.object_store.proofs.AlongLemmas.{line_begun, line_reached}
use Rattle.object_store.proofs.objects.Object.patches.Goals as goal

pub patches_along-requires-clause-begun : goal.patches_along-requires-clause-begun
patches_along-requires-clause-begun c = line_begun c.args.self.now.timeline c.in-Some.line.now c.args.from c.in-Some.ensures.told c.requires.begun

pub patches_along-requires-clause-reached : goal.patches_along-requires-clause-reached
patches_along-requires-clause-reached c = line_reached c.args.self.now.timeline c.in-Some.line.now c.in-Some.ensures.told

pub returns-in-Some : goal.returns-in-Some
returns-in-Some c = c.patches_along.ensures c.args.self.now.timeline c.in-Some.ensures.told
