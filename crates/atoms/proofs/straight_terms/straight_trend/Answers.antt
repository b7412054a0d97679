use Rattle.std.proofs.Common.{ap, sym, ◌∙◌}
use Rattle.std.specs.Prelude.{Some}
use Rattle.courses.specs.Parts.{epochs_of_each}
use Rattle.meaning.specs.Value.{term_value}
use Rattle.atoms.specs.Courses.{course_value}
use Rattle.atoms.specs.Parts.{trace_by}
use Rattle.atoms.proofs.StraightLemmas.{number_of_one, value_of_one}
use Rattle.atoms.proofs.straight_terms.straight_trend.Goals as goal

pub returns-in-Number-clause-value : goal.returns-in-Number-clause-value
returns-in-Number-clause-value c =
    let w = c.args.traces.now.w in
    let q = c.args.term.now in
    let x = c.args.env.now in
    let trace = trace_by c.args.traces.now.variables.now (epochs_of_each c.args.traces.now.timelines.now) in
    number_of_one (term_value trace q x) w.lo w.hi c.signed.result c.in-Number.trend (c.in_ok-trend.was ∙ ap Some c.in-Number.is)
    (λ t from up_to.
    value_of_one trace q x t c.in_ok-factor.factor.now (course_value w.lo t c.in_ok-unit.unit) (sym c.items.ensures ∙ c.in_ok-factor.ensures)
    (c.in_ok-unit.ensures.value t from up_to)
    ∙ sym (c.signed.ensures.value w.lo t))
