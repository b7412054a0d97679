use Rattle.std.proofs.Common.{◌≡◌, ◌+◌, length, arith}
use Rattle.distance_crossing.proofs.Pairwise.{next_pairs, pair_count, pair_count-most, pairs_near_more, rest_in_reach}
use Rattle.distance_crossing.proofs.sphere.near_pairs.Goals as goal

pub returns-in_err-near-clause-cost : goal.returns-in_err-near-clause-cost
returns-in_err-near-clause-cost g c = record {
  least = omega arith;
  most = (let most = pair_count-most c.args.lines.now c.requires.lines.count in
      let more : pair_count c.loop-p.rest.now ≡ length c.in-Some.later.now + pair_count c.in-Some.later.now = next_pairs _ _ c.in-Some.p.now c.in-Some.ensures.cases.0 in
      omega arith);
}

pub returns-in_err-span-clause-cost : goal.returns-in_err-span-clause-cost
returns-in_err-span-clause-cost g c = record {
  least = omega arith;
  most = (let most = pair_count-most c.args.lines.now c.requires.lines.count in
      let more : pair_count c.loop-p.rest.now ≡ length c.in-Some.later.now + pair_count c.in-Some.later.now = next_pairs _ _ c.in-Some.p.now c.in-Some.ensures.cases.0 in
      omega arith);
}

pub loop-p-preserved : goal.loop-p-preserved
loop-p-preserved g c =
    let more : pair_count c.loop-p.rest.now ≡ length c.in-Some.later.now + pair_count c.in-Some.later.now = next_pairs _ _ c.in-Some.p.now c.in-Some.ensures.cases.0 in
    record {
      in_reach = rest_in_reach _ _ _ c.in-Some.ensures.cases.0 c.loop-p.invariant.in_reach;
      met = pairs_near_more c.args.r c.args.w c.loop-p.span c.in-Some.p.now _ c.in-Some.later.now c.args.lines.now c.in-Some.ensures.cases.0 c.loop-p.invariant.met
          c.in_ok-near.near c.in_ok-near.ensures.runs c.in_ok-span.span c.in_ok-span.ensures.ticks;
      cost = omega arith;
      least = omega arith;
    }

pub returns-clause-cost : goal.returns-clause-cost
returns-clause-cost g c = record {
  least = omega arith;
  most = (let most = pair_count-most c.args.lines.now c.requires.lines.count in omega arith);
}
