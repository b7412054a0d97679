use Rattle.std.proofs.Common.{ℕ, ◌+◌, ◌&&◌, Bool, nat_le, nat_lt, option_to_list}
use Rattle.std.specs.Prelude.{not}
use Rattle.tick_set.specs.Runs.{spans_have}
use Rattle.tick_set.specs.Ticks.{within}
use Rattle.blur.proofs.AddedLemmas.{adds_as, adds_both, before_inside, before_other, both_sides, is_past, precede_more}
use Rattle.blur.proofs.runs.add_sides.Goals as goal

pub append-requires : goal.append-requires
append-requires c =
    let span = c.args.span in
    let inner = c.args.inner in
    record {
      past =
          is_past (λ u. within span.lo span.hi u && nat_lt u inner.lo) c.args.runs.now c.head_of-head.result c.head_of-head.ensures
          (before_inside span.lo span.hi c.args.runs.now (λ u. nat_lt u inner.lo) c.requires);
    }

pub append-requires-2 : goal.append-requires-2
append-requires-2 c =
    let span = c.args.span in
    let inner = c.args.inner in
    let first : ℕ → Bool = λ u. within span.lo span.hi u && nat_lt u inner.lo in
    let second : ℕ → Bool = λ u. within span.lo span.hi u && nat_le (inner.hi + 1) u in
    record {
      past =
          is_past second c.append.new.self c.tail_of-tail.result c.tail_of-tail.ensures
          (precede_more c.args.runs.now c.append.new.self first second
          (adds_as (spans_have (option_to_list c.head_of-head.result)) first c.args.runs.now c.append.new.self c.head_of-head.ensures c.in_ok-append.ensures.ticks)
          (before_inside span.lo span.hi c.args.runs.now (λ u. nat_le (inner.hi + 1) u) c.requires)
          (before_other span.lo span.hi inner.lo inner.hi inner.ordered));
    }

pub returns : goal.returns
returns c =
    let span = c.args.span in
    let inner = c.args.inner in
    let old = c.args.runs.now in
    let middle = c.append.new.self in
    let new = c.append-2.new.self in
    let first : ℕ → Bool = λ u. within span.lo span.hi u && nat_lt u inner.lo in
    let second : ℕ → Bool = λ u. within span.lo span.hi u && nat_le (inner.hi + 1) u in
    let test : ℕ → Bool = λ u. within span.lo span.hi u && not (within inner.lo inner.hi u) in
    adds_both test first second old middle new (both_sides span.lo span.hi inner.lo inner.hi inner.ordered)
    (adds_as (spans_have (option_to_list c.head_of-head.result)) first old middle c.head_of-head.ensures c.in_ok-append.ensures.ticks)
    (adds_as (spans_have (option_to_list c.tail_of-tail.result)) second middle new c.tail_of-tail.ensures c.in_ok-append-2.ensures.ticks)
