use Rattle.std.proofs.Common.{◌+◌, ◌/◌, to_z, w64, arith}
use Rattle.std.proofs.lemmas.Int.{ints, to_z_pos}
use Rattle.exact.proofs.Sizes.{steps}
use Rattle.narrowing.proofs.ReachLemmas.{reaches_by}
use Rattle.narrowing.proofs.reaching.overhang.Goals as goal

pub returns-clause-most : goal.returns-clause-most
returns-clause-most c =
    reaches_by c.args.error c.args.before c.args.after c.turn-turn.result (to_z w64 (c.in_ok-most.field-0 / c.unsigned_abs.result)) (c.product.result + c.product-2.result)
    c.in_ok-most.field-0 c.unsigned_abs.result
    (omega (arith, ints, c.if-before-lt0.false)) (omega (arith, ints, c.if-after-gt0.false)) (omega (arith, ints, c.if-turn-le0.false))
    c.turn-turn.ensures (grind (arith, steps, c.product.ensures.value, c.product-2.ensures.value)) c.in_ok-most.ensures (grind (arith, steps, c.unsigned_abs.ensures.value)) (to_z_pos w64 _ (omega arith))
