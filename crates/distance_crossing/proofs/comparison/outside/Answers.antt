use Rattle.std.proofs.Common.{not, ◌&&◌, sym, subst, List}
use Rattle.linear_crossing.specs.Zones.{spans_of}
use Rattle.tick_set.specs.Runs.{IsRuns, spans_have}
use Rattle.tick_set.specs.Ticks.{within}
use Rattle.tick_set.specs.declared.spans.Span.{Span}
use Rattle.distance_crossing.proofs.RunLists.{ahead_first, ahead_second, outside_runs}
use Rattle.distance_crossing.proofs.comparison.outside.Goals as goal

pub gap-first-requires-clause-ahead : goal.gap-first-requires-clause-ahead
gap-first-requires-clause-ahead c = ahead_first c.args.w.lo c.args.w.hi c.args.pair.first c.args.pair.second c.requires.inside

pub gap-second-requires-clause-ahead : goal.gap-second-requires-clause-ahead
gap-second-requires-clause-ahead c = ahead_second c.args.w.lo c.args.w.hi c.gap-first.result.1 c.args.pair.first c.args.pair.second c.requires.normal c.requires.inside c.gap-first.ensures.next

pub returns : goal.returns
returns c =
    let w = c.args.w in
    let P : List Span → Type 0 = λ spans. IsRuns (λ t. within w.lo w.hi t && not (spans_have (spans_of c.args.pair) t)) spans in
    record {
      runs = subst P (sym c.packed.ensures.spans)
          (outside_runs w.lo w.hi c.gap-first.result.1 c.gap-second.result.1 c.args.pair.first c.args.pair.second
          c.gap-first.result.0 c.gap-second.result.0 c.stretch.result c.requires.normal c.requires.inside
          c.gap-first.ensures.next c.gap-second.ensures.next c.gap-first.ensures.runs c.gap-second.ensures.runs c.stretch.ensures.ticks);
      packed = c.packed.ensures.packed;
    }
