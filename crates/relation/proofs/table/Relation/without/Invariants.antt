use Rattle.relation.proofs.ColumnLemmas.{IsKeeping}
use Rattle.relation.proofs.table.Relation.without.Given as goal

abbrev pub invariant-rows : goal.invariant-rows
invariant-rows g l = IsKeeping g.S.TickSet.member l.place l.id l.row-items l.row-index l.initial.made l.made
