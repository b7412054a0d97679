use Rattle.std.proofs.Common.{◌≡◌, ℤ, ◌-ℤ◌, ◌<ℤ◌, sym, subst, ◌∙◌, arith}
use Rattle.std.proofs.lemmas.Int.{ints}
use mir.Syntax.{w64}
use mir.Val.{to_z, of_z}
use Rattle.motion.specs.Dynamic.{value_at}
use Rattle.atoms.proofs.RouteLemmas.{past_above, past_below}
use Rattle.atoms.proofs.routes.keep_past.Goals as goal
use Rattle.exact.proofs.Integers.{below_from_int_test}

pub returns-then-is_past : goal.returns-then-is_past
returns-then-is_past c = λ is t from up_to.
    let gap : to_z w64 (of_z w64 c.apart.result) ≡ c.range-to_least.result.0 -ℤ c.range-least.result.1 = omega (arith, ints) in
    past_above c.args.c c.range-to_least.result.0 c.range-least.result.1 (value_at c.args.from.now t) (value_at c.args.to.now t)
    (c.range-least.ensures.at_most t from up_to) (c.range-to_least.ensures.at_least t from up_to)
    (subst (λ (z : ℤ). c.args.c <ℤ z) gap (below_from_int_test c.args.c (to_z w64 (of_z w64 c.apart.result)) (sym c.is_past.ensures ∙ c.if-is_past.true)))

pub returns : goal.returns
returns c = λ is t from up_to.
    let gap : to_z w64 (of_z w64 c.apart-2.result) ≡ c.range-least.result.0 -ℤ c.range-to_least.result.1 = omega (arith, ints) in
    past_below c.args.c c.range-least.result.0 c.range-to_least.result.1 (value_at c.args.from.now t) (value_at c.args.to.now t)
    (c.range-least.ensures.at_least t from up_to) (c.range-to_least.ensures.at_most t from up_to)
    (subst (λ (z : ℤ). c.args.c <ℤ z) gap (below_from_int_test c.args.c (to_z w64 (of_z w64 c.apart-2.result)) (sym c.is_past-2.ensures ∙ is)))
