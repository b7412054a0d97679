use Rattle.std.proofs.Common.{◌≡◌, ℕ, ◌+◌, ◌++◌, Bool, List, length, subst, ap, ◌∙◌}
use Rattle.std.specs.Prelude.{OnOk}
use Rattle.std.specs.List.{list_all}
use Rattle.formula.specs.Tree.{resolved_view}
use Rattle.meaning.specs.Answer.{Row, answer_where}
use Rattle.meaning.specs.Binding.{holds_by}
use Rattle.object_store.specs.Contents.{catalog_of}
use Rattle.worlds.specs.Blurred.{blurred}
use Rattle.line_meaning.specs.Reply.{rows_text}
use Rattle.database.specs.Keeping.{world_of_database}
use Rattle.database.specs.Rows.{has_objects}
use Rattle.database.proofs.RowLemmas.{answer_has_objects}
use Rattle.database.proofs.blurred.push_blurred.Goals as goal

pub push_rows-requires : goal.push_rows-requires
push_rows-requires g c =
    let d = c.args.database.now in
    let w = world_of_database d in
    let q = resolved_view c.args.resolved.now.query.now in
    let e = d.clock + c.args.resolved.now.asked.now.span in
    ap (list_all (has_objects (length (catalog_of d.store).objects))) (c.rows.ensures ∙ c.in_ok-answer.ensures.rows)
    ∙ answer_has_objects w q (holds_by (blurred c.blur_of.result.sure c.blur_of.result.error w) w q e) d.clock e

pub returns-clause-ok : goal.returns-clause-ok
returns-clause-ok g c =
    let d = c.args.database.now in
    let w = world_of_database d in
    let q = resolved_view c.args.resolved.now.query.now in
    let asked = c.args.resolved.now.asked.now in
    let e = d.clock + asked.span in
    let writes : List Row → Type 0 = λ rows.
    OnOk c.push_rows.result (c.push_rows.new.out.items ≡ c.args.out.now.items ++ rows_text (catalog_of d.store) d.clock rows) in
    let rows : Bool → ℕ → List Row = λ sure error. answer_where w q (holds_by (blurred sure error w) w q e) d.clock e in
    subst (λ (n : ℕ). writes (rows asked.sure n)) c.blur_of.ensures.error
    (subst (λ (b : Bool). writes (rows b c.blur_of.result.error)) c.blur_of.ensures.sure
    (subst writes (c.rows.ensures ∙ c.in_ok-answer.ensures.rows) c.push_rows.ensures.ok))
