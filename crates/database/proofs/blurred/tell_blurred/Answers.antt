use Rattle.std.proofs.Common.{refl, ap, ◌∙◌, ◌+◌, ◌++◌}
use Rattle.std.specs.Prelude.{unsigned_abs}
use Rattle.std.proofs.lemmas.Result.{err_from_is_err_and}
use Rattle.ftl_parser.specs.Tree.{query_view}
use Rattle.meaning.specs.Answer.{answer_where}
use Rattle.meaning.specs.Binding.{holds_by}
use Rattle.object_store.specs.Contents.{catalog_of}
use Rattle.worlds.specs.Blurred.{blurred}
use Rattle.line_meaning.specs.Reply.{rows_text}
use Rattle.database.specs.Keeping.{world_of_database}
use Rattle.database.proofs.BlurredLemmas.{right_as_told, stopped_as_told}
use Rattle.database.proofs.blurred.tell_blurred.Goals as goal

pub returns-clause-answered : goal.returns-clause-answered
returns-clause-answered g c =
    let d = c.args.database.now in
    let w = world_of_database d in
    let asked = c.args.asked.now in
    let e = d.clock + asked.span in (
      right_as_told w d.clock asked.span (query_view asked.query.now) (c.in_ok-query.ensures.right refl),
      c.in_ok-push_blurred.ensures.ok
          ∙ ap (λ q. c.args.out.now.items ++ rows_text (catalog_of d.store) d.clock
          (answer_where w q (holds_by (blurred asked.sure (unsigned_abs asked.error) w) w q e) d.clock e))
          c.in_ok-query.ensures.query,
    )

pub returns-in_err-query-clause-answered : goal.returns-in_err-query-clause-answered
returns-in_err-query-clause-answered g c =
    let d = c.args.database.now in
    let asked = c.args.asked.now in
    let p = err_from_is_err_and c.from_residual.result c.from_residual.ensures.1 in
    rw (p.1, p.2)
    (stopped_as_told (world_of_database d) d.clock asked.span (query_view asked.query.now) _ c.in_err-query.ensures.cause)

pub returns-in_err-push_blurred-clause-answered : goal.returns-in_err-push_blurred-clause-answered
returns-in_err-push_blurred-clause-answered g c =
    let d = c.args.database.now in
    let asked = c.args.asked.now in
    let p = err_from_is_err_and c.from_residual-in_err-push_blurred.result c.from_residual-in_err-push_blurred.ensures.1 in
    rw (p.1, p.2)
    (right_as_told (world_of_database d) d.clock asked.span (query_view asked.query.now) (c.in_ok-query.ensures.right refl))
