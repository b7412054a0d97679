use Rattle.relation.proofs.ChangeLemmas.{IsChanging}
use Rattle.relation.proofs.table.Relation.changed.Given as goal

abbrev pub invariant-rows : goal.invariant-rows
invariant-rows g l = IsChanging g.S.TickSet.member l.change l.window.lo l.window.hi l.row-items l.row-index l.initial.made l.made
