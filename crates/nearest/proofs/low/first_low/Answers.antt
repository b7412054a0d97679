use Rattle.std.proofs.Common.{◌≡◌, ℕ, ◌-◌, ◌<ℤ◌, subst, arith}
use Rattle.std.proofs.lemmas.Int.{ints}
use Rattle.nearest.specs.Order.{difference_after}
use Rattle.nearest.proofs.low.first_low.Goals as goal

pub returns-then-guess-eq0 : goal.returns-then-guess-eq0
returns-then-guess-eq0 c = record {
  bound = omega arith;
  low = omega (arith, ints, c.at.ensures);
  high_before = λ k is. absurd (omega (arith, is));
}

pub returns-then-limit-at : goal.returns-then-limit-at
returns-then-limit-at c = record {
  bound = omega arith;
  low = omega (arith, ints, c.at.ensures);
  high_before = λ k is.
      let same : c.args.guess - 1 ≡ k = omega (arith, is) in
      subst (λ (n : ℕ). c.args.limit <ℤ difference_after c.args.d.now n) same (omega (arith, ints, c.at-then-at-limit.ensures));
}

pub returns-then-at-limit-2 : goal.returns-then-at-limit-2
returns-then-at-limit-2 c = record {
  bound = omega arith;
  low = omega (arith, ints, c.at-then-guess-lowest.ensures);
  high_before = λ k is.
      let same : c.args.guess ≡ k = omega (arith, is) in
      subst (λ (n : ℕ). c.args.limit <ℤ difference_after c.args.d.now n) same (omega (arith, ints, c.at.ensures));
}
