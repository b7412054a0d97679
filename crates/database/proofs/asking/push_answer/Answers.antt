use Rattle.std.proofs.Common.{◌+◌, length, ap, ◌∙◌}
use Rattle.std.specs.List.{list_all}
use Rattle.formula.specs.Tree.{resolved_view}
use Rattle.meaning.specs.Binding.{holds_full}
use Rattle.object_store.specs.Contents.{catalog_of}
use Rattle.database.specs.Keeping.{world_of_database}
use Rattle.database.specs.Rows.{has_objects}
use Rattle.database.proofs.RowLemmas.{answer_has_objects}
use Rattle.database.proofs.asking.push_answer.Goals as goal

pub push_rows-requires : goal.push_rows-requires
push_rows-requires g c =
    let d = c.args.database.now in
    let q = resolved_view c.args.resolved.now.query.now in
    ap (list_all (has_objects (length (catalog_of d.store).objects))) (c.rows.ensures ∙ c.in_ok-answer.ensures.rows)
    ∙ answer_has_objects (world_of_database d) q (holds_full (world_of_database d) q (d.clock + c.args.resolved.now.span)) d.clock (d.clock + c.args.resolved.now.span)
