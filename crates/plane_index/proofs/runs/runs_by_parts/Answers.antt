use Rattle.std.proofs.Common.{None, option_to_list, ap, ◌∙◌, arith}
use Rattle.std.specs.Prelude.{slice_index_or}
use Rattle.std.specs.Option.{option_copied}
use Rattle.tick_set.specs.Runs.{spans_have}
use Rattle.plane_index.specs.Told.{lies_between, lies_in}
use Rattle.plane_index.proofs.RunLemmas.{more, none_yet, past}
use Rattle.plane_index.proofs.runs.runs_by_parts.Goals as goal

pub parts-init : goal.parts-init
parts-init c = record {
  from = omega arith;
  until = omega (arith, c.args.w.ordered);
  ticks = λ t. ap (λ runs. spans_have runs t) c.new-runs.ensures ∙ none_yet (lies_between c.args.timeline.now c.args.bounds.now.attribute c.args.bounds.now.lo c.args.bounds.now.hi) c.args.w.lo t;
}

pub append-requires : goal.append-requires
append-requires c =
    let common = c.common_from-common.result in
    let epoch = option_copied (slice_index_or common.epochs 0 None) in
    record {
      past =
          past (lies_between c.args.timeline.now c.args.bounds.now.attribute c.args.bounds.now.lo c.args.bounds.now.hi) (lies_in epoch c.args.bounds.now.attribute c.args.bounds.now.lo c.args.bounds.now.hi) c.args.w.lo c.parts.at
          common.span.lo common.span.hi c.parts.runs c.part_between.result c.common_from-common.ensures.part.begins c.parts.invariant.ticks c.part_between.ensures.ticks;
    }

pub parts-preserved : goal.parts-preserved
parts-preserved c =
    let common = c.common_from-common.result in
    let epoch = option_copied (slice_index_or common.epochs 0 None) in
    let begins = c.common_from-common.ensures.part.begins in
    record {
      from = omega (arith, begins, common.span.ordered, c.parts.invariant.from);
      until = omega (arith, c.common_from-common.ensures.part.within);
      ticks =
          more (lies_between c.args.timeline.now c.args.bounds.now.attribute c.args.bounds.now.lo c.args.bounds.now.hi) (lies_in epoch c.args.bounds.now.attribute c.args.bounds.now.lo c.args.bounds.now.hi) c.args.w.lo c.parts.at
          common.span.lo common.span.hi c.parts.runs (option_to_list c.part_between.result) c.append.new.self begins c.parts.invariant.from
          (omega (arith, begins, common.span.ordered))
          (λ t after up_to. ap (λ e. lies_in e c.args.bounds.now.attribute c.args.bounds.now.lo c.args.bounds.now.hi t) (c.common_from-common.ensures.epochs 0 t after up_to))
          c.parts.invariant.ticks c.part_between.ensures.ticks c.in_ok-append.ensures.ticks;
    }
