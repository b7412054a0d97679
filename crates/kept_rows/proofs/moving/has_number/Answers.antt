use Rattle.std.proofs.Common.{rules, ◌∙◌}
use Rattle.std.proofs.lemmas.List.Sorted.{answers_always}
use Rattle.kept_rows.specs.declared.change.Change.{Change}
use Rattle.kept_rows.proofs.SearchLemmas.{search_is_in}
use Rattle.kept_rows.proofs.moving.has_number.Goals as goal

pub returns : goal.returns
returns g c =
    c.is_ok.ensures.value
    ∙ search_is_in 0 4294967296 c.args.group.now c.args.number c.binary_search_by_key.result c.requires c.binary_search_by_key.ensures.bound
    (c.binary_search_by_key.ensures.position (λ (x : Change g.row.S.Denot). x.number) (answers_always _ _ _ (λ f a r h called. search rules)))
