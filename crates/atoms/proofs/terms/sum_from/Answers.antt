use Rattle.std.proofs.Common.{◌+◌, ap, sym, ◌∙◌}
use Rattle.meaning.specs.Value.{factor_value, plus}
use Rattle.atoms.specs.Courses.{value_along}
use Rattle.atoms.specs.Parts.{shown}
use Rattle.atoms.proofs.CourseLemmas.{sum_more}
use Rattle.atoms.proofs.terms.sum_from.Goals as goal

pub loop-factor-preserved : goal.loop-factor-preserved
loop-factor-preserved c = record {
  value = λ t from up_to.
      let lo = c.args.part.now.span.lo in
      let value = factor_value (shown c.args.part.now) c.args.env.now t in
      let k = c.loop-factor.factor-index in
      c.sum_of-sum.ensures.value lo t
      ∙ (λ i. plus (c.loop-factor.invariant.value t from up_to i) ((sym (c.course_of_factor.ensures.value t from up_to) ∙ ap value c.factor-item.is) i))
      ∙ sym (sum_more value (value_along c.args.first lo t) c.args.factors.now k c.factor-item.result c.loop-factor-test.true);
  small = c.sum_of-sum.ensures.small (c.loop-factor.factor-index + 1) c.loop-factor.invariant.small;
}
