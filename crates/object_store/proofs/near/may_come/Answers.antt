use Rattle.std.proofs.Common.{sym}
use Rattle.object_store.proofs.AreaLemmas.{nowhere_by_value, nowhere_without_object}
use Rattle.object_store.proofs.EntryLemmas.{value_begun, value_of_entry}
use Rattle.object_store.proofs.near.may_come.Goals as goal

pub may_come-requires : goal.may_come-requires
may_come-requires c =
    value_begun c.args.objects.now.entries c.args.id c.in-Some.object.now c.args.w.lo
    (value_of_entry c.args.objects.now.entries c.args.id _ (sym c.in-Some.ensures.entry)) c.requires

pub returns-in-Some : goal.returns-in-Some
returns-in-Some c never =
    nowhere_by_value c.args.objects.now.entries c.args.id c.in-Some.object.now c.args.area.now c.args.w.lo c.args.w.hi
    (value_of_entry c.args.objects.now.entries c.args.id _ (sym c.in-Some.ensures.entry)) (c.may_come.ensures never)

pub returns-in-None : goal.returns-in-None
returns-in-None c never =
    nowhere_without_object c.args.objects.now.entries c.args.id c.args.area.now c.args.w.lo c.args.w.hi (sym c.in-None.ensures.entry)
