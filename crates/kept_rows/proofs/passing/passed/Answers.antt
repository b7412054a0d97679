use Rattle.std.proofs.Common.{ℕ, ◌+◌, ◌*◌, ◌/◌, ◌<◌, ◌++◌, Bool, Option, ap, ◌∙◌, arith}
use Rattle.kept_rows.specs.Listing.{passing_of, lines_between, target_has}
use Rattle.kept_rows.specs.Rows.{row_has}
use Rattle.kept_rows.proofs.ListingLemmas.{lines-end, lines-more, target-after, target-below, target-upto, target-whole}
use Rattle.kept_rows.proofs.TurnLemmas.{passing-alike}
use Rattle.kept_rows.proofs.passing.passed.Goals as goal

pub targets-preserved : goal.targets-preserved
targets-preserved g c =
    let rows : ℕ → ℕ → Bool = row_has g.S.TickSet.member c.args.kept.now in
    let width : ℕ = c.args.targets.width in
    let count : ℕ = c.args.targets.count in
    let first : ℕ = c.in-Some.first in
    let target : ℕ = c.targets.target in
    let line : ℕ → Option (ℕ × Bool) = passing_of (target_has rows width) c.args.expiry c.args.before c.args.now in
    let below : first / width < count = target-below first width count c.args.targets.some c.in-Some.ensures.some.below in
    record {
      few = omega (arith, below);
      passings = ap (λ xs. xs ++ lines_between line (first / width + 1) count) c.in_ok-push_some.ensures
          ∙ lines-more line c.targets.passings.items _ target (first / width) count _
          (target-after target first width c.args.targets.some c.in-Some.ensures.some.least) below
          (λ k h l.
          passing-alike rows width c.args.expiry c.args.before c.args.now target first k c.in-Some.ensures.some.before h (target-upto k first width l))
          c.passing_at-passing.ensures c.targets.invariant.passings;
    }

pub returns : goal.returns
returns g c =
    let rows : ℕ → ℕ → Bool = row_has g.S.TickSet.member c.args.kept.now in
    let width : ℕ = c.args.targets.width in
    let count : ℕ = c.args.targets.count in
    let target : ℕ = c.targets.target in
    lines-end (passing_of (target_has rows width) c.args.expiry c.args.before c.args.now) c.targets.passings.items target count _ c.targets.invariant.few
    (λ k h l.
    passing-alike rows width c.args.expiry c.args.before c.args.now target (count * width) k c.in_default.ensures.none h (target-whole k width count l))
    c.targets.invariant.passings
