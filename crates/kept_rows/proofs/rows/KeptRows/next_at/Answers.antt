use Rattle.std.proofs.Common.{subst, ◌∙◌}
use Rattle.std.specs.Prelude.{IfNone, IfSome}
use Rattle.kept_rows.specs.Rows.{row_has}
use Rattle.kept_rows.specs.Slots.{HaveNoneAt, IsNextAt}
use Rattle.kept_rows.proofs.SlotLemmas.{next_at, none_at}
use Rattle.kept_rows.proofs.rows.KeptRows.next_at.Goals as goal

pub returns-then-is_empty-clause-some : goal.returns-then-is_empty-clause-some
returns-then-is_empty-clause-some g c = next_at (row_has g.S.TickSet.member c.args.self.now) c.args.slots c.args.from c.args.to c.next.result c.next.ensures.some

pub returns-then-is_empty-clause-none : goal.returns-then-is_empty-clause-none
returns-then-is_empty-clause-none g c = none_at (row_has g.S.TickSet.member c.args.self.now) c.args.slots c.args.from c.args.to c.next.result c.next.ensures.none

pub returns-clause-some : goal.returns-clause-some
returns-clause-some g c =
    subst (λ xs. IfSome c.next-2.result (IsNextAt (row_has g.S.TickSet.member xs) c.args.slots c.args.from c.args.to)) (c.deref.ensures.value ∙ c.self.view_is) c.next-2.ensures.some

pub returns-clause-none : goal.returns-clause-none
returns-clause-none g c =
    subst (λ xs. IfNone c.next-2.result (HaveNoneAt (row_has g.S.TickSet.member xs) c.args.slots c.args.from c.args.to)) (c.deref.ensures.value ∙ c.self.view_is) c.next-2.ensures.none
