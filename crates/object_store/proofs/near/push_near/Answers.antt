use Rattle.object_store.specs.ObjectView.{objects_of}
use Rattle.object_store.specs.Searching.{IsNowhere}
use Rattle.object_store.proofs.AreaLemmas.{searched_lost}
use Rattle.object_store.proofs.near.push_near.Goals as goal

pub returns-else-may_come : goal.returns-else-may_come
returns-else-may_come c ids rest is =
    searched_lost (IsNowhere (objects_of c.args.objects.now.entries) c.args.area.now c.args.w.lo c.args.w.hi) ids _ rest c.args.id is
    (c.may_come.ensures c.if-may_come.false)
