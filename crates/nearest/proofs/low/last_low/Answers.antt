use Rattle.std.proofs.Common.{◌≡◌, ℕ, ◌+◌, ◌-◌, ◌<ℤ◌, subst, arith}
use Rattle.std.proofs.lemmas.Int.{ints}
use Rattle.nearest.specs.Order.{difference_after}
use Rattle.nearest.proofs.low.last_low.Goals as goal

pub returns-then-guess-last : goal.returns-then-guess-last
returns-then-guess-last c = record {
  begins = omega arith;
  bound = omega arith;
  low = omega (arith, ints, c.at.ensures);
  high_after = λ more. absurd (omega (arith, more));
}

pub returns-then-limit-at : goal.returns-then-limit-at
returns-then-limit-at c = record {
  begins = omega arith;
  bound = omega arith;
  low = omega (arith, ints, c.at.ensures);
  high_after = λ more. omega (arith, ints, c.at-then-at-limit.ensures);
}

pub returns-then-at-limit-2 : goal.returns-then-at-limit-2
returns-then-at-limit-2 c = record {
  begins = omega arith;
  bound = omega arith;
  low = omega (arith, ints, c.at-then-lowest-guess.ensures);
  high_after = λ more.
      let same : c.args.guess ≡ c.args.guess - 1 + 1 = omega arith in
      subst (λ (n : ℕ). c.args.limit <ℤ difference_after c.args.d.now n) same (omega (arith, ints, c.at.ensures));
}
