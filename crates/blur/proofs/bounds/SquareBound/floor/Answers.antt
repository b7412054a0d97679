-- On each axis the size is at least the least one.
use Rattle.std.proofs.Common.{◌≡◌, pos, ◌+ℤ◌, ◌*ℤ◌, w64, to_z, of_z, arith}
use Rattle.std.specs.Int.{w128}
use Rattle.exact.proofs.Sizes.{steps}
use Rattle.blur.specs.Widened.{widened}
use Rattle.blur.proofs.FloorLemmas.{least_passed, squares_least}
use Rattle.blur.proofs.bounds.SquareBound.floor.Goals as goal

pub returns : goal.returns
returns c = λ k up_to.
    let b = c.args.self.now in
    let x : to_z w64 (of_z w64 b.x) ≡ b.x = grind (arith, steps) in
    let y : to_z w64 (of_z w64 b.y) ≡ b.y = grind (arith, steps) in
    let dx : to_z w64 (of_z w64 b.dx) ≡ b.dx = grind (arith, steps) in
    let dy : to_z w64 (of_z w64 b.dy) ≡ b.dy = grind (arith, steps) in
    let sum : to_z w128 (of_z w128 c.sum_of_squares.result) ≡ pos c.least_size-x.result *ℤ pos c.least_size-x.result +ℤ pos c.least_size-y.result *ℤ pos c.least_size-y.result = grind (arith, steps) in
    squares_least c.least_size-x.result c.least_size-y.result (widened b.more b.less (b.x +ℤ b.dx *ℤ pos k)) (widened b.more b.less (b.y +ℤ b.dy *ℤ pos k)) _ sum
    (least_passed c.least_size-x.result b.more b.less b.x b.dx _ _ k x dx (c.least_size-x.ensures.least k up_to))
    (least_passed c.least_size-y.result b.more b.less b.y b.dy _ _ k y dy (c.least_size-y.ensures.least k up_to))
