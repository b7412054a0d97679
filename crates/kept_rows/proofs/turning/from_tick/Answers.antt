use Rattle.std.proofs.Common.{rules}
use Rattle.std.proofs.lemmas.List.Sorted.{answers_always}
use Rattle.kept_rows.proofs.SpanTurnLemmas.{from_found, from_parted}
use Rattle.kept_rows.proofs.turning.from_tick.Goals as goal

pub returns-in-Ok : goal.returns-in-Ok
returns-in-Ok c =
    let by_hi = c.in-Ok.ensures.position (λ s. s.hi) (answers_always _ _ _ (λ f a r g called. search rules)) in
    rw c.split_at.ensures.back (from_found c.args.spans.now c.requires c.args.t c.in-Ok.at c.in-Ok.ensures.bound by_hi)

pub returns-in-Err : goal.returns-in-Err
returns-in-Err c =
    let by_hi = c.in-Err.ensures.position (λ s. s.hi) (answers_always _ _ _ (λ f a r g called. search rules)) in
    rw c.split_at-in-Err.ensures.back (from_parted c.args.spans.now c.requires c.args.t c.in-Err.at c.in-Err.ensures.bound by_hi)
