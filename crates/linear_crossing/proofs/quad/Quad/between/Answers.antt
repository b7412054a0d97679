use Rattle.std.proofs.Common.{arith}
use Rattle.std.proofs.lemmas.Int.{ints}
use Rattle.linear_crossing.proofs.Apart.{apart}
use Rattle.linear_crossing.proofs.quad.Quad.between.Goals as goal

pub returns : goal.returns
returns c = λ k. apart c.args.p.now c.args.q.now _ k (omega (arith, ints)) (omega (arith, ints)) (omega (arith, ints)) (omega (arith, ints))
