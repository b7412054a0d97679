use Rattle.std.proofs.Common.{sym, ◌∙◌, arith}
use Rattle.until_merge.proofs.TickByTick.{leads_here, leads_no_more, leads_nowhere, leads_not_at_end}
use Rattle.until_merge.proofs.by_tick.leads.Goals as goal
use Rattle.until_merge.proofs.by_tick.leads.Goals.{else-from-u-via-then-from-u+else-has, else-from-u-via-else-from-u}

pub returns-then-has : goal.returns-then-has
returns-then-has c = leads_here _ _ _ _ _ _ c.loop-u.invariant c.if-from-u.true (omega arith) (sym c.if-has.ensures.has)

pub returns-then-not-has : goal.returns-then-not-has
returns-then-not-has c =
    leads_no_more _ _ _ _ _ _ c.loop-u.invariant (omega arith) (sym c.if-not-has.ensures.has)
    (elim c.else-from-u.branch [
      | else-from-u-via-then-from-u+else-has w ↦ λ l. sym w.has.ensures.has ∙ w.if-has.false
      | else-from-u-via-else-from-u w ↦ λ l. absurd (omega (arith, w.if-from-u.false))
    ])

pub returns : goal.returns
returns c = leads_nowhere _ _ _ _ _ _ c.loop-u.invariant c.loop-u-test.false

pub returns-else-not-has : goal.returns-else-not-has
returns-else-not-has c =
    leads_not_at_end _ _ _ _ _ _ c.loop-u.invariant (omega arith)
    (elim c.else-from-u.branch [
      | else-from-u-via-then-from-u+else-has w ↦ λ l. sym w.has.ensures.has ∙ w.if-has.false
      | else-from-u-via-else-from-u w ↦ λ l. absurd (omega (arith, w.if-from-u.false))
    ])
