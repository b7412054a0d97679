use Rattle.std.proofs.Common.{is_some, option_to_list, ap, sym, ◌∙◌, arith}
use Rattle.std.specs.Option.{option_copied}
use Rattle.motion.specs.Timeline.{state_at}
use Rattle.atoms.specs.Presence.{is_as}
use Rattle.atoms.proofs.GatherLemmas.{before_run, gathered_more, gathered_past}
use Rattle.atoms.proofs.TickLemmas.{part_present}
use Rattle.atoms.proofs.present.runs_where.Goals as goal

pub joining-preserved : goal.joining-preserved
joining-preserved c =
    let span = c.common_from-common.result.span in
    let begins = c.common_from-common.ensures.part.begins in
    let found = part_present c.args.there c.args.timeline.now (option_copied c.epoch.result) span.lo span.hi (option_to_list c.span_where.result)
    (λ t from up_to. c.common_from-common.ensures.epochs 0 t from up_to ∙ ap option_copied (sym c.epoch.ensures)) c.span_where.ensures in
    record {
      from = omega (arith, begins, span.ordered);
      until = omega (arith, c.common_from-common.ensures.part.within);
      ticks = gathered_more (λ t. is_as c.args.there (is_some (state_at c.args.timeline.now t))) c.args.w.lo c.joining.at span.lo span.hi c.joining.runs (option_to_list c.span_where.result) c.append.new.self
          c.joining.invariant.from span.ordered begins c.joining.invariant.ticks found c.in_ok-append.ensures.ticks;
    }

pub append-requires : goal.append-requires
append-requires c =
    let span = c.common_from-common.result.span in
    let found = part_present c.args.there c.args.timeline.now (option_copied c.epoch.result) span.lo span.hi (option_to_list c.span_where.result)
    (λ t from up_to. c.common_from-common.ensures.epochs 0 t from up_to ∙ ap option_copied (sym c.epoch.ensures)) c.span_where.ensures in
    record {
      past = before_run c.joining.runs c.span_where.result
          (gathered_past (λ t. is_as c.args.there (is_some (state_at c.args.timeline.now t))) c.args.w.lo c.joining.at span.lo span.hi c.joining.runs (option_to_list c.span_where.result)
          c.common_from-common.ensures.part.begins c.joining.invariant.ticks found);
    }
