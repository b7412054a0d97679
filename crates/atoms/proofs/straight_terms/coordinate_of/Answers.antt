use Rattle.courses.specs.Parts.{epochs_of_each}
use Rattle.atoms.specs.Parts.{trace_by}
use Rattle.atoms.proofs.StraightLemmas.{course_along}
use Rattle.atoms.proofs.straight_terms.coordinate_of.Goals as goal

pub returns-clause-value : goal.returns-clause-value
returns-clause-value c =
    let w = c.args.traces.now.w in
    let trace = trace_by c.args.traces.now.variables.now (epochs_of_each c.args.traces.now.timelines.now) in
    course_along c.coordinate_along.result (trace c.args.v) c.in_ok-line.line c.args.a w.lo w.hi c.in_ok-line.ensures.places c.coordinate_along.ensures.value
