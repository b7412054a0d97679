use Rattle.std.proofs.Common.{arith}
use Rattle.std.proofs.lemmas.Int.{ints}
use Rattle.exact.proofs.Sizes.{steps}
use Rattle.linear_crossing.specs.Relative.{Relative}
use Rattle.nearest.proofs.SquareLemmas.{separated}
use Rattle.nearest.proofs.squares.Separation.between.Goals as goal

pub returns : goal.returns
returns c = λ k.
    let seen : Relative = record { x = c.apart-x.result; y = c.apart-y.result; dx = c.slope_apart-dx.result; dy = c.slope_apart-dy.result } in
    separated c.args.from.now c.args.to.now seen _ _ _ (omega (arith, ints)) (omega (arith, ints)) (omega (arith, ints)) (omega (arith, ints))
    (grind (arith, steps)) (grind (arith, steps)) (grind (arith, steps)) k
