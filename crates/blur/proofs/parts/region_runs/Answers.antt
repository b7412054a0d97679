use Rattle.std.proofs.Common.{◌≡◌, ℕ, Bool, false, Option, ap, arith}
use Rattle.std.specs.Option.{option_map_or}
use Rattle.fixed_point.specs.declared.number.Point.{Point}
use Rattle.courses.specs.Places.{place_at}
use Rattle.courses.specs.CommonParts.{place_in}
use Rattle.blur.specs.Asked.{is_on_side}
use Rattle.blur.proofs.PartLemmas.{gathered_before, gathered_more, place_along}
use Rattle.blur.proofs.parts.region_runs.Goals as goal

pub add_region_part-requires-clause-before : goal.add_region_part-requires-clause-before
add_region_part-requires-clause-before c =
    let side = is_on_side c.args.side.inside c.args.blur.sure c.args.blur.error c.args.regions.now c.args.side.n in
    gathered_before (λ t. option_map_or side (place_at c.args.timeline.now t) false) c.args.w.lo c.joining.at c.common_from-common.result.span.lo c.joining.runs
    c.common_from-common.ensures.part.begins c.joining.invariant.ticks

pub joining-preserved : goal.joining-preserved
joining-preserved c =
    let common = c.common_from-common.result in
    let span = common.span in
    let begins : span.lo ≡ c.joining.at = c.common_from-common.ensures.part.begins in
    let timeline = c.args.timeline.now in
    let side = is_on_side c.args.side.inside c.args.blur.sure c.args.blur.error c.args.regions.now c.args.side.n in
    let test : ℕ → Bool = λ t. option_map_or side (place_at timeline t) false in
    let seen : ℕ → Bool = λ t. option_map_or side (place_in common 0 t) false in
    record {
      from = omega (arith, begins, span.ordered, c.joining.invariant.from);
      until = omega (arith, c.common_from-common.ensures.part.within);
      ticks =
          gathered_more test seen c.args.w.lo c.joining.at span c.joining.runs c.add_region_part.new.runs c.joining.invariant.from begins
          (λ t from up_to. ap (λ (o : Option Point). option_map_or side o false) (place_along timeline common 0 t (c.common_from-common.ensures.epochs 0 t from up_to)))
          c.joining.invariant.ticks c.in_ok-add_region_part.ensures;
    }
