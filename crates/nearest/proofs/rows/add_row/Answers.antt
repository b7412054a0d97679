use Rattle.std.proofs.Common.{◌≡◌, List, true, false, length, sym, ap, subst, ◌∙◌}
use Rattle.std.specs.Prelude.{◌==◌}
use Rattle.tick_set.specs.Runs.{IsNormal, spans_have}
use Rattle.tick_set.specs.declared.spans.Span.{Span}
use Rattle.nearest.specs.Rows.{told_near}
use Rattle.nearest.specs.declared.rows.NearRow.{NearRow}
use Rattle.nearest.proofs.RowLemmas.{row_added, row_left_out}
use Rattle.nearest.proofs.rows.add_row.Goals as goal

pub returns-in_ok-push : goal.returns-in_ok-push
returns-in_ok-push c = λ test w are.
    let ticks : List Span = c.from_runs-ticks.result in
    let copied : ticks ≡ c.args.runs.now = cc (c.from_runs-ticks.ensures, c.in_ok-spans.ensures.items) in
    let row : NearRow = record { id = c.args.id; ticks = ticks } in
    let some : (length ticks == 0) ≡ false = ap (λ spans. length spans == 0) copied ∙ sym c.is_empty.ensures ∙ c.if-not-is_empty.true in
    ap told_near c.in_ok-push.ensures.items
    ∙ row_added c.args.rows.now.items row test w (subst IsNormal (sym copied) c.requires) (λ t. ap (λ spans. spans_have spans t) copied ∙ are t) some

pub returns-else-not-is_empty : goal.returns-else-not-is_empty
returns-else-not-is_empty c = λ test w are.
    let none : (length c.args.runs.now == 0) ≡ true = sym c.is_empty.ensures ∙ c.if-not-is_empty.false in
    row_left_out c.args.rows.now.items c.args.id c.args.runs.now test w c.requires are none
