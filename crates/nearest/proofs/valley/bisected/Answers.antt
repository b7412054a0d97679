use Rattle.std.proofs.Common.{arith}
use Rattle.std.proofs.lemmas.Int.{ints}
use Rattle.nearest.proofs.SquareLemmas.{falls_by, rises_on}
use Rattle.nearest.proofs.valley.bisected.Goals as goal

pub halves-preserved-then-rise_at-lt0 : goal.halves-preserved-then-rise_at-lt0
halves-preserved-then-rise_at-lt0 c =
    record {
      order = omega arith;
      bound = omega arith;
      falls = λ constant. falls_by c.args.rise.now.quadratic c.args.rise.now.linear constant _ (omega (arith, ints, c.rise_at.ensures));
      rises = c.halves.invariant.rises;
    }

pub halves-preserved : goal.halves-preserved
halves-preserved c =
    record {
      order = omega arith;
      bound = omega arith;
      falls = c.halves.invariant.falls;
      rises = λ constant. rises_on c.args.rise.now.quadratic c.args.rise.now.linear constant _ c.args.last (omega (arith, ints, c.rise_at.ensures));
    }

pub returns : goal.returns
returns c = record {
  bound = grind arith;
  falls = c.halves.invariant.falls;
  rises = grind arith;
}
