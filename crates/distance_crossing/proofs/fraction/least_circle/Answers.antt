use Rattle.std.proofs.Common.{arith}
use Rattle.std.proofs.lemmas.Int.{ints}
use Rattle.exact.proofs.Sizes.{steps}
use Rattle.distance_crossing.proofs.Triangles.{squares_not_negative, size_at_q}
use Rattle.distance_crossing.proofs.fraction.least_circle.Goals as goal

pub by_sides-requires : goal.by_sides-requires
by_sides-requires c =
    let a = squares_not_negative c.args.p.now c.args.q.now in
    let b = squares_not_negative c.args.q.now c.args.s.now in
    let d = squares_not_negative c.args.s.now c.args.p.now in
    let size = size_at_q c.args.p.now c.args.q.now c.args.s.now in
    record {
      squares = record {
        a_least = grind (arith, steps, a);
        b_least = grind (arith, steps, b);
        c_least = grind (arith, steps, d);
      };
      sizes = record {
        a_most = grind (arith, ints, steps, a);
        b_most = grind (arith, ints, steps, b);
        c_most = grind (arith, ints, steps, d);
      };
      a_and_b = grind (arith, steps, size);
    }
