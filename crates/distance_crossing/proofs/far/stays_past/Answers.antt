use Rattle.std.proofs.Common.{◌≡◌, pos, neg_ℤ, ◌+ℤ◌, ◌-ℤ◌, ◌*ℤ◌, arith}
use Rattle.std.proofs.lemmas.Int.{ints}
use mir.Syntax.{w64}
use mir.Val.{to_z, of_z}
use Rattle.exact.proofs.Sizes.{steps}
use Rattle.distance_crossing.proofs.FarLemmas.{above_is, below_is}
use Rattle.distance_crossing.proofs.far.stays_past.Goals as goal

pub returns-then-are_above : goal.returns-then-are_above
returns-then-are_above c =
    let x = c.args.to -ℤ c.args.from in
    let y = x +ℤ (c.args.to_step -ℤ c.args.from_step) *ℤ pos c.args.last in
    let limit : to_z w64 (of_z w64 c.raw-limit.result) ≡ c.args.c = omega (arith, ints) in
    let start : to_z w64 (of_z w64 c.apart-start.result) ≡ x = omega (arith, ints) in
    let end : to_z w64 (of_z w64 c.later-end.result) ≡ y = grind (arith, steps) in
    above_is c.args.c x y _ _ _ c.are_above.result limit start end c.if-are_above.true c.are_above.ensures

pub returns-else-are_above : goal.returns-else-are_above
returns-else-are_above c =
    let x = c.args.to -ℤ c.args.from in
    let y = x +ℤ (c.args.to_step -ℤ c.args.from_step) *ℤ pos c.args.last in
    let limit : to_z w64 (of_z w64 c.raw-limit.result) ≡ c.args.c = omega (arith, ints) in
    let start : to_z w64 (of_z w64 c.apart-start.result) ≡ x = omega (arith, ints) in
    let end : to_z w64 (of_z w64 c.later-end.result) ≡ y = grind (arith, steps) in
    let below : to_z w64 (of_z w64 (pos 0 -ℤ to_z w64 (of_z w64 c.raw-limit.result))) ≡ neg_ℤ c.args.c = omega (arith, ints) in
    below_is c.args.c x y _ _ _ _ c.are_above.result c.are_below.result limit below start end c.if-are_above.false c.are_above.ensures c.are_below.ensures
