use Rattle.std.proofs.Common.{◌≡◌, ◌-◌, ◌≤◌, sym, ap, subst, ◌∙◌, arith}
use Rattle.std.specs.Option.{option_map}
use Rattle.nearest.specs.Order.{separation_after}
use Rattle.nearest.specs.Sights.{TellsSquares}
use Rattle.nearest.specs.declared.squares.Separation.{Separation}
use Rattle.nearest.proofs.PartLemmas.{squares_along}
use Rattle.nearest.proofs.sight.sight_by_parts.Goals as goal

pub returns-in-Some : goal.returns-in-Some
returns-in-Some c =
    let common = c.common_from-common.result in
    let slice = c.args.slice in
    let from = c.args.from.now in
    let to = c.args.to.now in
    let begins : common.span.lo ≡ slice.lo = c.common_from-common.ensures.part.begins in
    let whole : slice.hi ≤ common.span.hi = omega arith in
    let tells : TellsSquares from to slice c.in-Some.separation = λ t begun up_to.
    let after : common.span.lo ≤ t = omega (arith, begins, begun) in
    let before : t ≤ common.span.hi = omega (arith, whole, up_to) in
    sym (squares_along from to common 1 t (c.common_from-common.ensures.epochs 0 t after before) (c.common_from-common.ensures.epochs 1 t after before))
    ∙ c.separation_in.ensures t after before
    ∙ (λ i. option_map (λ (s : Separation). separation_after s (t - begins i)) (c.in-Some.is i)) in
    record { tells = subst (TellsSquares from to slice) (sym c.of.ensures.separation) tells; bounds = c.of.ensures.bounds }

pub returns-in-None : goal.returns-in-None
returns-in-None c = λ t begun up_to.
    let common = c.common_from-common.result in
    let slice = c.args.slice in
    let from = c.args.from.now in
    let to = c.args.to.now in
    let begins : common.span.lo ≡ slice.lo = c.common_from-common.ensures.part.begins in
    let whole : slice.hi ≤ common.span.hi = omega arith in
    let after : common.span.lo ≤ t = omega (arith, begins, begun) in
    let before : t ≤ common.span.hi = omega (arith, whole, up_to) in
    sym (squares_along from to common 1 t (c.common_from-common.ensures.epochs 0 t after before) (c.common_from-common.ensures.epochs 1 t after before))
    ∙ c.separation_in.ensures t after before
    ∙ ap (option_map (λ (s : Separation). separation_after s (t - common.span.lo))) c.in-None.is
