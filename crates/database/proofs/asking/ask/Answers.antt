use Rattle.std.proofs.Common.{refl, ap, ◌∙◌, ◌+◌, ◌++◌}
use Rattle.std.proofs.lemmas.Result.{err_from_is_err_and}
use Rattle.meaning.specs.Answer.{answer}
use Rattle.object_store.specs.Contents.{catalog_of}
use Rattle.ftl_parser.specs.Tree.{query_view}
use Rattle.line_meaning.specs.Reply.{rows_text}
use Rattle.database.specs.Keeping.{world_of_database}
use Rattle.database.proofs.AskLemmas.{right_as_asked, stopped_as_asked}
use Rattle.database.proofs.asking.ask.Goals as goal

pub returns-clause-asked : goal.returns-clause-asked
returns-clause-asked g c =
    let d = c.args.database.now in (
      right_as_asked (world_of_database d) d.clock c.args.asked.now.span (query_view c.args.asked.now.query.now) (c.in_ok-query.ensures.right refl),
      c.in_ok-push_answer.ensures.ok
          ∙ ap (λ q. c.args.out.now.items ++ rows_text (catalog_of d.store) d.clock (answer (world_of_database d) q d.clock (d.clock + c.args.asked.now.span)))
          c.in_ok-query.ensures.query,
    )

pub returns-in_err-query-clause-asked : goal.returns-in_err-query-clause-asked
returns-in_err-query-clause-asked g c =
    let d = c.args.database.now in
    let p = err_from_is_err_and c.from_residual.result c.from_residual.ensures.1 in
    rw (p.1, p.2)
    (stopped_as_asked (world_of_database d) d.clock c.args.asked.now.span (query_view c.args.asked.now.query.now) _ c.in_err-query.ensures.cause)

pub returns-in_err-push_answer-clause-asked : goal.returns-in_err-push_answer-clause-asked
returns-in_err-push_answer-clause-asked g c =
    let d = c.args.database.now in
    let p = err_from_is_err_and c.from_residual-in_err-push_answer.result c.from_residual-in_err-push_answer.ensures.1 in
    rw (p.1, p.2)
    (right_as_asked (world_of_database d) d.clock c.args.asked.now.span (query_view c.args.asked.now.query.now) (c.in_ok-query.ensures.right refl))
