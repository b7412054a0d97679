use Rattle.std.proofs.Common.{◌≡◌, ◌+◌, length, arith}
use Rattle.distance_crossing.proofs.Pairwise.{all_near_apart, all_near_more, all_near_none, first_in_reach, next_line, none_is, rest_in_reach}
use Rattle.distance_crossing.proofs.sphere.all_near.Goals as goal

pub near_run-requires-clause-q_in_reach : goal.near_run-requires-clause-q_in_reach
near_run-requires-clause-q_in_reach g c = first_in_reach _ _ _ c.in-Some.ensures.cases.0 c.loop-q.invariant.in_reach

pub returns-in_err-near-clause-runs : goal.returns-in_err-near-clause-runs
returns-in_err-near-clause-runs g c =
    none_is _ _ c.from_residual.ensures
    (all_near_none c.args.r c.args.w c.loop-q.span c.args.p.now c.in-Some.q.now _ c.in-Some.later.now c.args.others.now c.in-Some.ensures.cases.0
    c.loop-q.invariant.met
    c.in_err-near.ensures.runs)

pub returns-in_err-span-clause-runs : goal.returns-in_err-span-clause-runs
returns-in_err-span-clause-runs g c =
    none_is _ _ c.from_residual-in_err-span.ensures
    (all_near_apart c.args.r c.args.w c.loop-q.span c.args.p.now c.in-Some.q.now _ c.in-Some.later.now c.args.others.now c.in-Some.ensures.cases.0
    c.loop-q.invariant.met
    c.in_ok-near.near c.in_ok-near.ensures.runs c.in_err-span.ensures.ticks)

pub loop-q-preserved : goal.loop-q-preserved
loop-q-preserved g c =
    let more : length c.loop-q.rest.now ≡ length c.in-Some.later.now + 1 = next_line _ _ c.in-Some.q.now c.in-Some.ensures.cases.0 in
    record {
      in_reach = rest_in_reach _ _ _ c.in-Some.ensures.cases.0 c.loop-q.invariant.in_reach;
      met = all_near_more c.args.r c.args.w c.loop-q.span c.args.p.now c.in-Some.q.now _ c.in-Some.later.now c.args.others.now c.in-Some.ensures.cases.0
          c.loop-q.invariant.met
          c.in_ok-near.near c.in_ok-near.ensures.runs c.in_ok-span.span c.in_ok-span.ensures.ticks;
      cost = omega arith;
      least = omega arith;
    }
