use Rattle.std.proofs.Common.{◌≡◌, ◌+◌, ◌≤◌, unsigned_abs, ℤ, ap, subst, sym, ◌∙◌, Some, arith}
use Rattle.std.proofs.lemmas.Int.{ints}
use mir.Syntax.{w128}
use mir.Val.{to_z, of_z}
use Rattle.fixed_point.specs.declared.number.TheConstants.{FIX_LIMIT}
use Rattle.linear_crossing.specs.Zones.{line_at}
use Rattle.formula.specs.declared.value.Value.TheVariants as values
use Rattle.atoms.proofs.CourseLemmas.{counted_from}
use Rattle.atoms.specs.ValueRuns.{AreMaximalRuns}
use Rattle.atoms.proofs.values.append_each.Goals as goal

pub number-value-requires : goal.number-value-requires
number-value-requires c =
    let lo = c.args.span.lo in
    let tick = c.loop-tick.tick in
    let from : lo ≤ tick = omega arith in
    let passed : to_z w128 (of_z w128 c.after.result) ≡ c.after.result = omega (arith, ints) in
    subst (λ (x : ℤ). unsigned_abs x ≤ FIX_LIMIT) (counted_from c.args.trend.rise c.args.trend.start lo tick from ∙ sym c.after.ensures ∙ sym passed)
    (c.requires.in_range tick from (omega arith))

pub loop-tick-preserved : goal.loop-tick-preserved
loop-tick-preserved c = λ value from order are has.
    let lo = c.args.span.lo in
    let tick = c.loop-tick.tick in
    let begun : lo ≤ tick = omega arith in
    let passed : to_z w128 (of_z w128 c.after.result) ≡ c.after.result = omega (arith, ints) in
    c.in_ok-append_run.ensures value from (omega arith) (c.loop-tick.invariant value from order are has)
    (λ t a b.
    let same : t ≡ tick = omega arith in
    has t (omega arith) (omega arith)
    ∙ ap (λ (x : ℤ). Some (values.Num x))
    (ap (line_at c.args.trend.rise c.args.trend.start lo) same ∙ counted_from c.args.trend.rise c.args.trend.start lo tick begun ∙ sym c.after.ensures ∙ sym passed)
    ∙ ap Some (sym c.number-value.ensures))

pub returns : goal.returns
returns c = λ value from order are has.
    let all : c.loop-tick.tick ≡ c.args.span.hi + 1 = omega arith in
    subst (λ until. AreMaximalRuns value from until c.loop-tick.runs.items) all (c.loop-tick.invariant value from order are has)
