use Rattle.std.proofs.Common.{◌≡◌, ap, ◌∙◌, arith}
use Rattle.std.proofs.lemmas.Int.{ints}
use mir.Syntax.{w128}
use mir.Val.{to_z, of_z}
use Rattle.linear_crossing.specs.Zones.{line_at}
use Rattle.formula.specs.declared.value.Value.TheVariants as values
use Rattle.atoms.proofs.CourseLemmas.{moves}
use Rattle.atoms.proofs.terms.moving.Goals as goal

pub returns-clause-value : goal.returns-clause-value
returns-clause-value c = λ t from up_to.
    let rise : to_z w128 (of_z w128 c.from.result) ≡ c.slope_at.result = omega (arith, ints) in
    let start : to_z w128 (of_z w128 c.from-2.result) ≡ c.at.result = omega (arith, ints) in
    ap values.Num
    ((λ i. line_at ((rise ∙ c.slope_at.ensures) i) ((start ∙ c.at.ensures.value) i) c.args.span.lo t)
    ∙ moves c.args.vector.now c.args.span.lo c.args.span.hi t c.requires from up_to)
