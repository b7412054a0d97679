use Rattle.std.proofs.Common.{ℕ, ◌+◌, ◌&&◌, ◌||◌, Bool, nat_le, nat_lt, option_to_list, refl}
use Rattle.std.specs.Prelude.{not}
use Rattle.tick_set.specs.Runs.{spans_have}
use Rattle.tick_set.specs.Ticks.{within}
use Rattle.blur.proofs.AddedLemmas.{adds_as, adds_both, all_three, before_common, before_inside, before_other, common_before, is_past, precede_more}
use Rattle.blur.proofs.runs.add_three.Goals as goal

pub append-requires : goal.append-requires
append-requires c =
    let span = c.args.span in
    let outer = c.args.outer in
    record {
      past =
          is_past (λ u. within span.lo span.hi u && nat_lt u outer.lo) c.args.runs.now c.head_of-head.result c.head_of-head.ensures
          (before_inside span.lo span.hi c.args.runs.now (λ u. nat_lt u outer.lo) c.requires);
    }

pub append-requires-2 : goal.append-requires-2
append-requires-2 c =
    let span = c.args.span in
    let outer = c.args.outer in
    let inner = c.args.inner in
    let first : ℕ → Bool = λ u. within span.lo span.hi u && nat_lt u outer.lo in
    let second : ℕ → Bool = λ u. within span.lo span.hi u && (within outer.lo outer.hi u && within inner.lo inner.hi u) in
    record {
      past =
          is_past second c.append.new.self c.common-middle.result c.common-middle.ensures
          (precede_more c.args.runs.now c.append.new.self first second
          (adds_as (spans_have (option_to_list c.head_of-head.result)) first c.args.runs.now c.append.new.self c.head_of-head.ensures c.in_ok-append.ensures.ticks)
          (before_inside span.lo span.hi c.args.runs.now (λ u. within outer.lo outer.hi u && within inner.lo inner.hi u) c.requires)
          (before_common span.lo span.hi outer.lo outer.hi inner.lo inner.hi));
    }

pub append-requires-3 : goal.append-requires-3
append-requires-3 c =
    let span = c.args.span in
    let outer = c.args.outer in
    let inner = c.args.inner in
    let first : ℕ → Bool = λ u. within span.lo span.hi u && nat_lt u outer.lo in
    let second : ℕ → Bool = λ u. within span.lo span.hi u && (within outer.lo outer.hi u && within inner.lo inner.hi u) in
    let third : ℕ → Bool = λ u. within span.lo span.hi u && nat_le (outer.hi + 1) u in
    record {
      past =
          is_past third c.append-2.new.self c.tail_of-tail.result c.tail_of-tail.ensures
          (precede_more c.append.new.self c.append-2.new.self second third
          (adds_as (spans_have (option_to_list c.common-middle.result)) second c.append.new.self c.append-2.new.self c.common-middle.ensures c.in_ok-append-2.ensures.ticks)
          (precede_more c.args.runs.now c.append.new.self first third
          (adds_as (spans_have (option_to_list c.head_of-head.result)) first c.args.runs.now c.append.new.self c.head_of-head.ensures c.in_ok-append.ensures.ticks)
          (before_inside span.lo span.hi c.args.runs.now (λ u. nat_le (outer.hi + 1) u) c.requires)
          (before_other span.lo span.hi outer.lo outer.hi outer.ordered))
          (common_before span.lo span.hi outer.lo outer.hi inner.lo inner.hi));
    }

pub returns : goal.returns
returns c =
    let span = c.args.span in
    let outer = c.args.outer in
    let inner = c.args.inner in
    let old = c.args.runs.now in
    let one = c.append.new.self in
    let two = c.append-2.new.self in
    let new = c.append-3.new.self in
    let first : ℕ → Bool = λ u. within span.lo span.hi u && nat_lt u outer.lo in
    let second : ℕ → Bool = λ u. within span.lo span.hi u && (within outer.lo outer.hi u && within inner.lo inner.hi u) in
    let third : ℕ → Bool = λ u. within span.lo span.hi u && nat_le (outer.hi + 1) u in
    let later : ℕ → Bool = λ u. second u || third u in
    let test : ℕ → Bool = λ u. within span.lo span.hi u && not (within outer.lo outer.hi u && not (within inner.lo inner.hi u)) in
    adds_both test first later old one new (all_three span.lo span.hi outer.lo outer.hi inner.lo inner.hi outer.ordered)
    (adds_as (spans_have (option_to_list c.head_of-head.result)) first old one c.head_of-head.ensures c.in_ok-append.ensures.ticks)
    (adds_both later second third one two new (λ t. refl)
    (adds_as (spans_have (option_to_list c.common-middle.result)) second one two c.common-middle.ensures c.in_ok-append-2.ensures.ticks)
    (adds_as (spans_have (option_to_list c.tail_of-tail.result)) third two new c.tail_of-tail.ensures c.in_ok-append-3.ensures.ticks))
