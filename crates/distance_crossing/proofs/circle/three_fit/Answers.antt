use Rattle.std.proofs.Common.{arith}
use Rattle.exact.proofs.Sizes.{steps}
use Rattle.distance_crossing.proofs.Triangles.{squares_not_negative, size_at_p, size_at_q, size_at_s}
use Rattle.distance_crossing.proofs.circle.three_fit.Goals as goal

pub sides_fit-requires-clause-squares : goal.sides_fit-requires-clause-squares
sides_fit-requires-clause-squares c = record {
  a_least = (let h = squares_not_negative c.args.p.now c.args.q.now in grind (arith, steps));
  b_least = (let h = squares_not_negative c.args.q.now c.args.s.now in grind (arith, steps));
  c_least = (let h = squares_not_negative c.args.s.now c.args.p.now in grind (arith, steps));
}

pub sides_fit-requires-clause-a_and_b : goal.sides_fit-requires-clause-a_and_b
sides_fit-requires-clause-a_and_b c = let h = size_at_q c.args.p.now c.args.q.now c.args.s.now in grind (arith, steps)

pub sides_fit-requires-clause-b_and_c : goal.sides_fit-requires-clause-b_and_c
sides_fit-requires-clause-b_and_c c = let h = size_at_s c.args.p.now c.args.q.now c.args.s.now in grind (arith, steps)

pub sides_fit-requires-clause-c_and_a : goal.sides_fit-requires-clause-c_and_a
sides_fit-requires-clause-c_and_a c = let h = size_at_p c.args.p.now c.args.q.now c.args.s.now in grind (arith, steps)
