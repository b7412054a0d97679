use Rattle.std.proofs.Common.{◌/◌, ap, ◌∙◌}
use Rattle.kept_rows.specs.Rows.{row_has}
use Rattle.kept_rows.specs.Slots.{may_have}
use Rattle.kept_rows.proofs.SlotLemmas.{page_free, row_free}
use Rattle.kept_rows.proofs.marks.Marks.free_end.Goals as goal

pub returns-then-not-meet-clause-free : goal.returns-then-not-meet-clause-free
returns-then-not-meet-clause-free g c =
    page_free (row_has g.S.TickSet.member c.args.pages.now) c.args.self.now c.args.slots c.mark_at.result c.args.number c.requires.marked
    (λ t. c.mark_at.ensures t ∙ ap (λ xs. may_have xs (c.args.number / 16) t) c.deref.ensures.value) (c.meet.ensures c.if-not-meet.true)

pub returns-then-not-meet-2-clause-free : goal.returns-then-not-meet-2-clause-free
returns-then-not-meet-2-clause-free g c =
    row_free (row_has g.S.TickSet.member c.args.pages.now) c.args.slots c.slots_of_row.result c.args.number c.slots_of_row.ensures
    (c.meet-else-not-meet.ensures c.if-not-meet-2.true)
