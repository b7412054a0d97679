use Rattle.std.proofs.Common.{Some, ap, ◌∙◌, arith}
use Rattle.linear_crossing.specs.Zones.{line_at}
use Rattle.atoms.specs.declared.terms.Course.{Course}
use Rattle.atoms.specs.Courses.{course_value}
use Rattle.atoms.proofs.values.append_values.Goals as goal
use Rattle.exact.proofs.Items.{on_ok}

pub append_trend-requires-clause-in_range : goal.append_trend-requires-clause-in_range
append_trend-requires-clause-in_range c = λ t from up_to.
    let lo = c.args.span.lo in
    let m = c.in-Number.trend in
    c.requires.in_range t from (omega arith) (line_at m.rise m.start lo t)
    (ap (λ (x : Course). Some (course_value lo t x)) c.in-Number.is)

pub returns-in-Number : goal.returns-in-Number
returns-in-Number c =
    let lo = c.args.span.lo in
    on_ok c.append_trend.result _ _
    (λ told value from order are has. told value from order are
    (λ t a b. has t a b ∙ ap (λ (x : Course). Some (course_value lo t x)) c.in-Number.is))
    c.append_trend.ensures

pub returns-in-Text : goal.returns-in-Text
returns-in-Text c =
    let lo = c.args.span.lo in
    on_ok c.append_run.result _ _
    (λ told value from order are has. told value from order are
    (λ t a b. has t a b ∙ ap (λ (x : Course). Some (course_value lo t x)) c.in-Text.is))
    c.append_run.ensures
