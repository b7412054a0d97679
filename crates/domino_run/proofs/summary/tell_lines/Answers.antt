use Rattle.std.proofs.Common.{◌≡◌, length, ap, arith}
use Rattle.std.specs.Prelude.{fold}
use Rattle.outside.specs.Shelf.{texts_of}
use Rattle.line_meaning.specs.Step.{base}
use Rattle.domino_run.specs.Summary.{LineTally, counted_line}
use Rattle.domino_run.proofs.SummaryLemmas.{counts_on, looks_on, looks_stop, told_is}
use Rattle.domino_run.proofs.summary.tell_lines.Goals as goal

pub returns-clause-text : goal.returns-clause-text
returns-clause-text g c =
    told_is _ _ _ _ (base c.args.workload.now.session (texts_of c.args.workload.now.shelf)) _ c.lines.workload.lines _ c.args.workload.now.lines
    c.in_ok-next_line.field-0 c.in_ok-text.ensures c.lines.invariant.0
    c.in_ok-next_line.ensures.ok c.if-branch.false

pub lines-init : goal.lines-init
lines-init g c =
    let none : c.new-tally.result.lines ≡ 0 = ap (λ (t : LineTally). t.lines) c.new-tally.ensures in (
      λ i. fold counted_line (base c.args.workload.now.session (texts_of c.args.workload.now.shelf), c.new-tally.ensures i) c.args.workload.now.lines,
      omega (arith, none),
      omega arith,
    )
