use Rattle.std.proofs.Common.{◌≡◌, true, sym, subst, ◌∙◌, arith}
use Rattle.courses.specs.Parts.{epochs_of_each}
use Rattle.meaning.specs.Value.{term_value}
use Rattle.atoms.specs.Naming.{asks_term}
use Rattle.atoms.specs.Parts.{trace_by}
use Rattle.atoms.specs.ValueRuns.{AreMaximalRuns}
use Rattle.atoms.proofs.NamingLemmas.{term_asked}
use Rattle.atoms.proofs.TickLemmas.{part_value}
use Rattle.atoms.proofs.values.term_runs.Goals as goal

pub append_course-requires-clause-in_range : goal.append_course-requires-clause-in_range
append_course-requires-clause-in_range c = λ t from before n is.
    let part = c.part_from-part.result in
    let trace = trace_by c.args.traces.now.variables.now (epochs_of_each c.args.traces.now.timelines.now) in
    let begins = c.part_from-part.ensures.part.begins in
    c.requires.in_range t (omega (arith, begins, c.joining.invariant.from)) (omega (arith, c.part_from-part.ensures.part.within)) n
    (part_value c.args.term.now c.args.env.now trace part c.part_from-part.ensures.part.shown t from (omega arith) ∙ c.course_of.ensures.value t from (omega arith) ∙ is)

pub joining-preserved : goal.joining-preserved
joining-preserved c =
    let part = c.part_from-part.result in
    let trace = trace_by c.args.traces.now.variables.now (epochs_of_each c.args.traces.now.timelines.now) in
    let value = term_value trace c.args.term.now c.args.env.now in
    let begins = c.part_from-part.ensures.part.begins in
    record {
      from = omega (arith, begins, part.span.ordered, c.joining.invariant.from);
      until = omega (arith, c.part_from-part.ensures.part.within);
      begun = c.part_from-part.ensures.begun;
      runs =
          c.in_ok-append_course.ensures value c.args.traces.now.w.lo (omega (arith, begins, c.joining.invariant.from))
          (subst (λ at. AreMaximalRuns value c.args.traces.now.w.lo at c.joining.runs.items) (sym begins) c.joining.invariant.runs)
          (λ t a b. part_value c.args.term.now c.args.env.now trace part c.part_from-part.ensures.part.shown t a b ∙ c.course_of.ensures.value t a b);
    }

pub course_of-requires-clause-asked : goal.course_of-requires-clause-asked
course_of-requires-clause-asked c =
    subst (λ asked. asks_term asked c.args.term.now ≡ true) (sym c.part_from-part.ensures.part.as_asked) (term_asked c.args.term.now)
