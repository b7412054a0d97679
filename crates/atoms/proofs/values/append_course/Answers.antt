use Rattle.std.proofs.Common.{◌+◌, Option, ap, subst, ◌∙◌}
use Rattle.atoms.specs.declared.terms.Course.{Course}
use Rattle.atoms.specs.Courses.{value_along}
use Rattle.atoms.specs.ValueRuns.{HasValuesInRange}
use Rattle.atoms.proofs.values.append_course.Goals as goal
use Rattle.exact.proofs.Items.{on_ok}

pub append_values-requires-clause-in_range : goal.append_values-requires-clause-in_range
append_values-requires-clause-in_range c =
    let lo = c.args.span.lo in
    subst (λ (o : Option Course). HasValuesInRange (value_along o lo) lo (c.args.span.hi + 1)) c.in-Some.is c.requires.in_range

pub returns-in-Some : goal.returns-in-Some
returns-in-Some c =
    let lo = c.args.span.lo in
    on_ok c.append_values.result _ _
    (λ told value from order are has. told value from order are
    (λ t a b. has t a b ∙ ap (λ (o : Option Course). value_along o lo t) c.in-Some.is))
    c.append_values.ensures
