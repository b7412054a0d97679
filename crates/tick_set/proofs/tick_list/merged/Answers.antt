use Rattle.std.proofs.Common.{sym, ◌∙◌}
use Rattle.tick_set.proofs.TickListLemmas.{merged_keeps, merged_drops}
use Rattle.tick_set.proofs.tick_list.merged.Goals as goal

pub loop-t-preserved-in_ok-push : goal.loop-t-preserved-in_ok-push
loop-t-preserved-in_ok-push c =
    let first = c.taken-in_first.ensures in
    let second = c.taken-in_second.ensures in
    merged_keeps _ _ _ _ _ _ _ _ _ c.loop-t.invariant
    (record { begins = c.in-Some.ensures.least.0; ascending = first.ascending; others = first.others })
    (record { begins = c.in-Some.ensures.least.1; ascending = second.ascending; others = second.others }) _ c.in_ok-push.ensures.members (rw (← first.found, ← second.found) (sym c.keeps.ensures ∙ c.if-keeps.true))

pub loop-t-preserved : goal.loop-t-preserved
loop-t-preserved c =
    let first = c.taken-in_first.ensures in
    let second = c.taken-in_second.ensures in
    merged_drops _ _ _ _ _ _ _ _ _ c.loop-t.invariant
    (record { begins = c.in-Some.ensures.least.0; ascending = first.ascending; others = first.others })
    (record { begins = c.in-Some.ensures.least.1; ascending = second.ascending; others = second.others }) (rw (← first.found, ← second.found) (sym c.keeps.ensures ∙ c.if-keeps.false))
