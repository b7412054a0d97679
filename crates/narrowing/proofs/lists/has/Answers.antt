use Rattle.std.proofs.Common.{sym, ◌∙◌}
use Rattle.narrowing.proofs.ListLemmas.{search_is_has}
use Rattle.narrowing.proofs.lists.has.Goals as goal

pub returns-then-stands_in_turn : goal.returns-then-stands_in_turn
returns-then-stands_in_turn c = sym (c.stands_in_turn.ensures c.if-stands_in_turn.true)

pub returns : goal.returns
returns c =
    c.is_ok.ensures.value
    ∙ search_is_has c.args.ids.now c.args.id c.binary_search.result c.requires c.binary_search.ensures.position
