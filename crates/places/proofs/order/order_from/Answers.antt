use Rattle.std.proofs.Common.{rules, arith}
use Rattle.places.proofs.SlotLemmas.{tail_sorted}
use Rattle.places.proofs.order.order_from.Goals as goal

pub renumber-requires-clause-slots : goal.renumber-requires-clause-slots
renumber-requires-clause-slots c =
    tail_sorted c.args.slots.now.items c.args.numbers.now.items c.deref_mut.result.now c.sort_by_place.new.numbers c.deref.result.now c.args.start c.args.numbers.now.len
    c.deref_mut.ensures.value (search rules) c.requires.slots (omega (arith, c.requires.start, c.requires.slots.long)) c.sort_by_place.ensures.same c.sort_by_place.ensures.long c.deref.ensures.value
