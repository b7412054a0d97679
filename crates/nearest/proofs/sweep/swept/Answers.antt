use Rattle.std.proofs.Common.{◌≡◌, ◌+◌, ◌<◌, nat_lt, option_to_list, arith}
use Rattle.nearest.specs.Depth.{count_to}
use Rattle.nearest.proofs.SweepLemmas.{come_between, swept_more, swept_past}
use Rattle.nearest.proofs.sweep.swept.Goals as goal

pub append-requires : goal.append-requires
append-requires c = record {
  past =
      swept_past (λ t. nat_lt (count_to c.args.starts.now t) (count_to c.args.ends.now t + c.args.k)) c.args.w.lo c.sweeping.at c.next_of-next.result
      (nat_lt c.sweeping.begun (c.sweeping.ended + c.args.k)) c.sweeping.runs c.stretch_where.result c.sweeping.invariant.ticks c.stretch_where.ensures;
}

pub come_by-begun-requires-in-sweeping-clause-come : goal.come_by-begun-requires-in-sweeping-clause-come
come_by-begun-requires-in-sweeping-clause-come c = λ j below.
    let more : c.sweeping.at < c.next_of.result = c.next_of.ensures.past c.sweeping.at c.sweeping.invariant.begun (omega arith) in
    let past : c.sweeping.at < c.next_of-next.result = c.next_of-next.ensures.past c.sweeping.at c.sweeping.invariant.ended more in
    let by = c.sweeping.invariant.begun.come j below in
    omega (arith, past, by)

pub come_by-ended-requires-in-sweeping-clause-come : goal.come_by-ended-requires-in-sweeping-clause-come
come_by-ended-requires-in-sweeping-clause-come c = λ j below.
    let more : c.sweeping.at < c.next_of.result = c.next_of.ensures.past c.sweeping.at c.sweeping.invariant.begun (omega arith) in
    let past : c.sweeping.at < c.next_of-next.result = c.next_of-next.ensures.past c.sweeping.at c.sweeping.invariant.ended more in
    let by = c.sweeping.invariant.ended.come j below in
    omega (arith, past, by)

pub sweeping-smaller : goal.sweeping-smaller
sweeping-smaller c =
    let more : c.sweeping.at < c.next_of.result = c.next_of.ensures.past c.sweeping.at c.sweeping.invariant.begun (omega arith) in
    let past : c.sweeping.at < c.next_of-next.result = c.next_of-next.ensures.past c.sweeping.at c.sweeping.invariant.ended more in
    omega (arith, past)

pub sweeping-preserved : goal.sweeping-preserved
sweeping-preserved c =
    let at = c.sweeping.at in
    let next = c.next_of-next.result in
    let starts = c.args.starts.now in
    let ends = c.args.ends.now in
    let k = c.args.k in
    let more : at < c.next_of.result = c.next_of.ensures.past at c.sweeping.invariant.begun (omega arith) in
    let past : at < next = c.next_of-next.ensures.past at c.sweeping.invariant.ended more in
    record {
      from = omega (arith, past, c.sweeping.invariant.from);
      until = omega (arith, c.next_of-next.ensures.bound, c.next_of.ensures.bound);
      begun = c.come_by-begun-in-sweeping.ensures;
      ended = c.come_by-ended-in-sweeping.ensures;
      ticks =
          swept_more (λ t. nat_lt (count_to starts t) (count_to ends t + k)) (nat_lt c.sweeping.begun (c.sweeping.ended + k)) c.args.w.lo at next
          c.sweeping.runs (option_to_list c.stretch_where.result) c.append.new.self c.sweeping.invariant.from past
          (λ t from before.
          let of_starts : count_to starts t ≡ c.sweeping.begun =
          come_between starts at t next c.sweeping.begun c.sweeping.invariant.begun from before
          (λ j after below. let far = c.next_of.ensures.none j after below in omega (arith, far, c.next_of-next.ensures.bound)) in
          let of_ends : count_to ends t ≡ c.sweeping.ended =
          come_between ends at t next c.sweeping.ended c.sweeping.invariant.ended from before c.next_of-next.ensures.none in
          λ i. nat_lt (of_starts i) (of_ends i + k))
          c.sweeping.invariant.ticks c.stretch_where.ensures c.in_ok-append.ensures.ticks;
    }
