use Rattle.std.proofs.Common.{arith}
use Rattle.exact.proofs.Sizes.{steps}
use mir.Syntax.{w128}
use mir.Val.{to_z, of_z}
use Rattle.exact.proofs.Convex.{FallsTo-drops, drops, least}
use Rattle.linear_crossing.specs.Relative.{squared_distance_at}
use Rattle.linear_crossing.proofs.Slope.{IsTurn, IsTurn-computed, drops_to_turn, rises_from_turn}
use Rattle.linear_crossing.proofs.quad.Quad.valley.Goals as goal

pub plus-speed-requires : goal.plus-speed-requires
plus-speed-requires c = grind (arith, steps)

pub times-requires-3 : goal.times-requires-3
times-requires-3 c = grind (arith, steps)

pub times-requires-4 : goal.times-requires-4
times-requires-4 c = grind (arith, steps)

pub plus-drift-requires : goal.plus-drift-requires
plus-drift-requires c = grind (arith, steps)

pub times-requires-5 : goal.times-requires-5
times-requires-5 c = grind (arith, steps)

pub plus-start-requires : goal.plus-start-requires
plus-start-requires c = grind (arith, steps)

pub overflow_mul-unsigned_abs : goal.overflow_mul-unsigned_abs
overflow_mul-unsigned_abs c = grind (arith, steps)

turn : (c : goal.After-first_reached) → IsTurn c.args.self.now c.args.last c.first_reached.result
turn c =
    IsTurn-computed c.args.self.now c.args.last c.first_reached.result _ c.plus-speed.result (to_z w128 (of_z w128 c.plus-start.result))
    (grind (arith, steps)) (grind (arith, steps)) (grind (arith, steps)) c.first_reached.ensures.bound c.first_reached.ensures.first

pub returns-clause-falls : goal.returns-clause-falls
returns-clause-falls c = drops_to_turn _ _ _ (turn c)

pub returns-clause-rises : goal.returns-clause-rises
returns-clause-rises c = rises_from_turn _ _ _ (turn c)

pub returns-clause-least : goal.returns-clause-least
returns-clause-least c =
    let f = squared_distance_at c.args.self.now in
    least f _ _ (FallsTo-drops f _ (drops_to_turn _ _ _ (turn c))) (rises_from_turn _ _ _ (turn c))

pub returns-clause-first : goal.returns-clause-first
returns-clause-first c = λ k l. drops (squared_distance_at c.args.self.now) _ (drops_to_turn _ _ _ (turn c)) k _ l (omega arith)
