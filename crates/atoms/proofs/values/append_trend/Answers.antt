use Rattle.std.proofs.Common.{◌≡◌, pos, Some, ℤ, ap, sym, ◌∙◌, arith}
use Rattle.std.proofs.lemmas.Int.{ints}
use mir.Syntax.{w128}
use mir.Val.{to_z, of_z}
use Rattle.linear_crossing.specs.Zones.{line_at}
use Rattle.formula.specs.declared.value.Value.TheVariants as values
use Rattle.atoms.proofs.CourseLemmas.{no_rise, rests}
use Rattle.atoms.proofs.values.append_trend.Goals as goal
use Rattle.exact.proofs.Items.{on_ok}

pub returns-then-trend-eq0 : goal.returns-then-trend-eq0
returns-then-trend-eq0 c =
    let lo = c.args.span.lo in
    let start = c.args.trend.start in
    let none : c.args.trend.rise ≡ pos 0 = no_rise c.args.trend.rise (omega (arith, c.requires.small.rise)) c.if-trend-eq0.true in
    let passed : to_z w128 (of_z w128 start) ≡ start = omega (arith, ints, c.requires.small.start) in
    on_ok c.append_run.result _ _
    (λ told value from order are has. told value from order are
    (λ t a b. has t a b
    ∙ ap (λ (x : ℤ). Some (values.Num x)) (ap (λ (r : ℤ). line_at r start lo t) none ∙ rests start lo t)
    ∙ ap (λ (x : ℤ). Some (values.Num x)) (sym passed)
    ∙ ap Some (sym c.number.ensures)))
    c.append_run.ensures
