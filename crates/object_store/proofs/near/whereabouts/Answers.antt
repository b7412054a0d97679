use Rattle.std.proofs.Common.{sym}
use Rattle.object_store.proofs.AreaLemmas.{told_by_value, told_without_object}
use Rattle.object_store.proofs.EntryLemmas.{value_begun, value_of_entry}
use Rattle.object_store.proofs.near.whereabouts.Goals as goal

pub whereabouts-requires : goal.whereabouts-requires
whereabouts-requires c =
    value_begun c.args.objects.now.entries c.args.id c.in-Some.object.now c.args.w.lo
    (value_of_entry c.args.objects.now.entries c.args.id _ (sym c.in-Some.ensures.entry)) c.requires

pub returns-in-Some : goal.returns-in-Some
returns-in-Some c t from to =
    told_by_value c.args.objects.now.entries c.args.id c.in-Some.object.now c.whereabouts.result t
    (value_of_entry c.args.objects.now.entries c.args.id _ (sym c.in-Some.ensures.entry)) (c.whereabouts.ensures t from to)

pub returns-in-None : goal.returns-in-None
returns-in-None c t from to = told_without_object c.args.objects.now.entries c.args.id t (sym c.in-None.ensures.entry)
