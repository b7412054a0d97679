use Rattle.std.proofs.Common.{Ok, Err, rules}
use Rattle.std.proofs.lemmas.List.Sorted.{answers_always}
use Rattle.interval_set.proofs.Search.{searched, in_gap, in_no_gap}
use Rattle.interval_set.proofs.cursor.contains.Goals as goal

pub returns-in-Ok : goal.returns-in-Ok
returns-in-Ok c =
    let by_lo = c.in-Ok.ensures.position (λ s. s.lo) (answers_always _ _ _ (λ f a r g called. search rules)) in
    searched _ c.requires c.args.t (Ok c.in-Ok.field-0) c.in-Ok.ensures.bound by_lo

pub returns-then-at-gt0 : goal.returns-then-at-gt0
returns-then-at-gt0 c =
    let by_lo = c.in-Err.ensures.position (λ s. s.lo) (answers_always _ _ _ (λ f a r g called. search rules)) in
    in_gap _ c.requires c.args.t _ (searched _ c.requires c.args.t (Err c.in-Err.at) c.in-Err.ensures.bound by_lo) c.if-at-gt0.true _

pub returns-else-at-gt0 : goal.returns-else-at-gt0
returns-else-at-gt0 c =
    let by_lo = c.in-Err.ensures.position (λ s. s.lo) (answers_always _ _ _ (λ f a r g called. search rules)) in
    in_no_gap _ c.requires c.args.t _ c.if-at-gt0.false (searched _ c.requires c.args.t (Err c.in-Err.at) c.in-Err.ensures.bound by_lo)
