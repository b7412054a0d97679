use Rattle.std.proofs.Common.{arith}
use Rattle.std.proofs.lemmas.Int.{ints}
use Rattle.blur.proofs.BoundLemmas.{squares_of}
use Rattle.blur.proofs.bounds.SquareBound.between.Goals as goal

pub returns : goal.returns
returns c = λ k.
    squares_of _ _ _ _ _ _ c.args.from.now c.args.to.now c.args.more c.args.less (omega (arith, ints)) (omega (arith, ints)) (omega (arith, ints)) (omega (arith, ints))
    (omega arith) (omega arith) k
