use Rattle.interval_set.proofs.SpanLemmas.{none_by, late_by}
use Rattle.interval_set.proofs.cursor.first_by.Goals as goal
use Rattle.interval_set.proofs.cursor.first_by.Goals.{in_default-via-in-Some+else-s-upto, in_default-via-in_default}

pub returns-in_default-clause-none : goal.returns-in_default-clause-none
returns-in_default-clause-none c =
    elim c.in_default.branch [
      | in_default-via-in-Some+else-s-upto w ↦ late_by c.args.spans.now w.in-Some.later.now w.in-Some.s.now c.args.upto c.requires w.in-Some.ensures.cases.0 w.if-s-upto.false
      | in_default-via-in_default w ↦ none_by c.args.spans.now c.args.upto w.in_default.ensures.cases
    ]
