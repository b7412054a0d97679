use Rattle.std.proofs.Common.{arith}
use Rattle.std.proofs.lemmas.List.Folds.{list_any_more}
use Rattle.tick_set.specs.Runs.{spans_have}
use Rattle.tick_set.proofs.RunLemmas.{spans_have-append}
use Rattle.interval_set.proofs.set.spans_of_all.Goals as goal

pub loop-set-preserved : goal.loop-set-preserved
loop-set-preserved c = λ t.
    grind (
      arith,
      c.loop-set.invariant t,
      list_any_more (λ s. spans_have s.now t) c.args.sets.now c.loop-set.set-index c.set-item.result c.loop-set-test.true,
      c.in_ok-extend_from_slice.ensures.items,
      spans_have-append c.loop-set.all.items c.spans.result.now t,
      c.spans.ensures.value,
      c.set-item.is,
    )
