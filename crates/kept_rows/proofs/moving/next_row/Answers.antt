use Rattle.kept_rows.specs.Rows.{row_has}
use Rattle.kept_rows.proofs.MoveLemmas.{none-taken-if}
use Rattle.kept_rows.proofs.moving.next_row.Goals as goal

pub returns-clause-gained : goal.returns-clause-gained
returns-clause-gained g c =
    none-taken-if c.next_at.result (row_has g.S.TickSet.member c.args.kept.now) c.args.slots c.args.from c.args.to (g.S.TickSet.member c.args.left.now.gained)
    c.requires.gained c.next_at.ensures.none

pub returns-clause-lost : goal.returns-clause-lost
returns-clause-lost g c =
    none-taken-if c.next_at.result (row_has g.S.TickSet.member c.args.kept.now) c.args.slots c.args.from c.args.to (g.S.TickSet.member c.args.left.now.lost)
    c.requires.lost c.next_at.ensures.none
