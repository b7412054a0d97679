use Rattle.std.proofs.Common.{◌≡◌, ℕ, Bool, arith}
use Rattle.courses.specs.Places.{place_at}
use Rattle.courses.specs.CommonParts.{place_in}
use Rattle.worlds.specs.Blurred.{distance_holds_by}
use Rattle.blur.specs.Asked.{comparison}
use Rattle.blur.proofs.PartLemmas.{gathered_before, gathered_more, place_along}
use Rattle.blur.proofs.parts.runs_by_parts.Goals as goal

pub add_distance_part-requires-clause-before : goal.add_distance_part-requires-clause-before
add_distance_part-requires-clause-before c =
    let holds = distance_holds_by (comparison c.args.blur.sure) c.args.blur.error c.args.compared.now.op c.args.compared.now.c in
    gathered_before (λ t. holds (place_at c.args.from.now t) (place_at c.args.to.now t)) c.args.w.lo c.joining.at c.common_from-common.result.span.lo c.joining.runs
    c.common_from-common.ensures.part.begins c.joining.invariant.ticks

pub joining-preserved : goal.joining-preserved
joining-preserved c =
    let common = c.common_from-common.result in
    let span = common.span in
    let begins : span.lo ≡ c.joining.at = c.common_from-common.ensures.part.begins in
    let from = c.args.from.now in
    let to = c.args.to.now in
    let holds = distance_holds_by (comparison c.args.blur.sure) c.args.blur.error c.args.compared.now.op c.args.compared.now.c in
    let test : ℕ → Bool = λ t. holds (place_at from t) (place_at to t) in
    let seen : ℕ → Bool = λ t. holds (place_in common 0 t) (place_in common 1 t) in
    record {
      from = omega (arith, begins, span.ordered, c.joining.invariant.from);
      until = omega (arith, c.common_from-common.ensures.part.within);
      ticks =
          gathered_more test seen c.args.w.lo c.joining.at span c.joining.runs c.add_distance_part.new.runs c.joining.invariant.from begins
          (λ t after up_to.
          λ i. holds (place_along from common 0 t (c.common_from-common.ensures.epochs 0 t after up_to) i) (place_along to common 1 t (c.common_from-common.ensures.epochs 1 t after up_to) i))
          c.joining.invariant.ticks c.in_ok-add_distance_part.ensures;
    }
