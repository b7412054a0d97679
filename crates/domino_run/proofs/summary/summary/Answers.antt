use Rattle.std.proofs.Common.{◌≡◌, length, ap, ◌∙◌, arith, sym, ◌≤◌, refl}
use Rattle.std.proofs.lemmas.Result.{IfOk-weaker}
use Rattle.outside.specs.Shelf.{texts_of}
use Rattle.line_meaning.specs.Step.{base}
use Rattle.generator.specs.declared.plan.TheConstants.{LINES}
use Rattle.generator.specs.Lines.{lines_of}
use Rattle.domino_run.specs.Looks.{looks_of_lines}
use Rattle.domino_run.specs.Summary.{first_state}
use Rattle.domino_run.proofs.SummaryLemmas.{summary_is}
use Rattle.domino_run.proofs.summary.summary.Goals as goal

pub tell_lines-requires : goal.tell_lines-requires
tell_lines-requires g c =
    let many : length c.new-lines.result ≡ LINES = ap length c.new-lines.ensures ∙ c.as_many_lines_by_each_number.ensures.lines c.args.number in
    omega (arith, many)

pub returns-clause-text : goal.returns-clause-text
returns-clause-text g c =
    IfOk-weaker c.tell_lines.result _ _
    (λ text told. summary_is text.items (base c.new-session.result (texts_of c.new-shelf.result)) c.args.number c.new-lines.result
    (λ i. base (c.new-session.ensures i) (texts_of (c.new-shelf.ensures i))) c.new-lines.ensures told)
    c.tell_lines.ensures.text

pub returns-clause-looks : goal.returns-clause-looks
returns-clause-looks g c =
    let same : looks_of_lines (base c.new-session.result (texts_of c.new-shelf.result)) c.new-lines.result
    ≡ looks_of_lines first_state.0 (lines_of c.args.number)
    = (λ i. looks_of_lines (base (c.new-session.ensures i) (texts_of (c.new-shelf.ensures i))) (c.new-lines.ensures i)) in
    let most = c.tell_lines.ensures.looks in
    omega (arith, same, most)
