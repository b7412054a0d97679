use Rattle.std.proofs.Common.{refl}
use Rattle.until_merge.proofs.ShapeLemmas.{held_more, held_no_more, held_all}
use Rattle.until_merge.proofs.shapes.held.Goals as goal

pub loop-s-preserved-in-Continue-branch-2 : goal.loop-s-preserved-in-Continue-branch-2
loop-s-preserved-in-Continue-branch-2 c =
    rw c.in_ok-push.ensures.items
    (held_more _ _ _ _ _ _ _ c.loop-s.invariant c.in-Some.ensures.cases.0 _ _ c.cut_of-cut.ensures refl refl c.if-cut-s.true)

pub loop-s-preserved : goal.loop-s-preserved
loop-s-preserved c = held_no_more _ _ _ _ _ _ _ c.loop-s.invariant c.in-Some.ensures.cases.0 _ c.cut_of-cut.ensures c.if-cut-s.false

pub returns-clause-ticks : goal.returns-clause-ticks
returns-clause-ticks c = held_all _ _ _ _ _ c.loop-s.invariant c.in_default.ensures.cases
