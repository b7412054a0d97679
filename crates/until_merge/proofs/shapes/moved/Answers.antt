use Rattle.std.proofs.Common.{refl, arith}
use Rattle.until_merge.proofs.ShapeLemmas.{moved_drops, moved_keeps}
use Rattle.until_merge.proofs.shapes.moved.Goals as goal
use Rattle.until_merge.proofs.shapes.moved.Goals.{else-s-c-via-then-s-c+else-s-c-2, else-s-c-via-else-s-c}

pub loop-s-preserved-then-s-c-2 : goal.loop-s-preserved-then-s-c-2
loop-s-preserved-then-s-c-2 c =
    rw c.in_ok-push.ensures.items
    (moved_keeps _ _ _ _ _ _ _ c.loop-s.invariant c.in-Some.ensures.cases.0 _ (omega arith) refl c.if-s-c.true)

pub loop-s-preserved : goal.loop-s-preserved
loop-s-preserved c =
    moved_drops _ _ _ _ _ _ _ c.loop-s.invariant c.in-Some.ensures.cases.0
    (elim c.else-s-c.branch [ else-s-c-via-then-s-c+else-s-c-2 w ↦ omega arith | else-s-c-via-else-s-c w ↦ omega arith ])
