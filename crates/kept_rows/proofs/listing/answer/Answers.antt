use Rattle.std.proofs.Common.{ℕ, ◌+◌, ◌*◌, ◌/◌, ◌<◌, ◌++◌, Bool, Option, List, ap, ◌∙◌, arith}
use Rattle.kept_rows.specs.Listing.{line_of, lines_between, target_has}
use Rattle.kept_rows.specs.Rows.{row_has}
use Rattle.kept_rows.proofs.ListingLemmas.{line-none, lines-end, lines-more, target-after, target-below, target-upto, target-whole, times-none}
use Rattle.kept_rows.proofs.listing.answer.Goals as goal
use Rattle.exact.proofs.Naturals.{times_at_most}

pub line_at-requires-clause-before : goal.line_at-requires-clause-before
line_at-requires-clause-before g c = λ n t h k.
    let start = times_at_most c.targets.target (c.in-Some.first / c.args.targets.width) c.args.targets.width
    (target-after c.targets.target c.in-Some.first c.args.targets.width c.args.targets.some c.in-Some.ensures.some.least) in
    c.in-Some.ensures.some.before n t (omega (arith, start, h)) k

pub targets-preserved : goal.targets-preserved
targets-preserved g c =
    let rows : ℕ → ℕ → Bool = row_has g.S.TickSet.member c.args.kept.now in
    let width : ℕ = c.args.targets.width in
    let count : ℕ = c.args.targets.count in
    let first : ℕ = c.in-Some.first in
    let target : ℕ = c.targets.target in
    let line : ℕ → Option (ℕ × List (ℕ × ℕ)) = line_of (target_has rows width) c.args.window.lo c.args.window.hi in
    let below : first / width < count = target-below first width count c.args.targets.some c.in-Some.ensures.some.below in
    record {
      few = omega (arith, below);
      lines = ap (λ xs. xs ++ lines_between line (first / width + 1) count) c.in_ok-push_some.ensures
          ∙ lines-more line c.targets.lines.items _ target (first / width) count _
          (target-after target first width c.args.targets.some c.in-Some.ensures.some.least) below
          (λ k h l. line-none (target_has rows width) c.args.window.lo c.args.window.hi k (λ t. times-none rows width target k first t c.in-Some.ensures.some.before h (target-upto k first width l)))
          c.in_ok-line.ensures c.targets.invariant.lines;
    }

pub returns : goal.returns
returns g c =
    let rows : ℕ → ℕ → Bool = row_has g.S.TickSet.member c.args.kept.now in
    let width : ℕ = c.args.targets.width in
    let count : ℕ = c.args.targets.count in
    let target : ℕ = c.targets.target in
    lines-end (line_of (target_has rows width) c.args.window.lo c.args.window.hi) c.targets.lines.items target count _ c.targets.invariant.few
    (λ k h l. line-none (target_has rows width) c.args.window.lo c.args.window.hi k (λ t. times-none rows width target k (count * width) t c.in_default.ensures.none h (target-whole k width count l)))
    c.targets.invariant.lines
