-- what was written and what the spans that are left spell make the whole
use Rattle.std.proofs.Common.{◌≡◌, ◌++◌, length}
use Rattle.std.specs.List.{flat_map}
use Rattle.tick_set.specs.Runs.{pairs}
use Rattle.replica.specs.Rows.{span_text}
use Rattle.replica.specs.Text.{Begins}
use Rattle.replica.proofs.rows.push_spans.Given as goal

abbrev pub invariant-loop-span : goal.invariant-loop-span
invariant-loop-span l = record {
  whole : l.out.items ++ flat_map (span_text l.first) (pairs l.rest) ≡ l.fn.out.items ++ flat_map (span_text l.first) (pairs l.spans);
  begins : Begins l.fn.out.items l.out.items;
}

abbrev pub decreases-loop-span : goal.decreases-loop-span
decreases-loop-span l = length l.rest
