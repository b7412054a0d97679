use Rattle.std.proofs.Common.{ap, ◌∙◌}
use Rattle.relation.specs.Key.{has_id}
use Rattle.narrowing.proofs.ListLemmas.{has-append}
use Rattle.narrowing.proofs.lists.merged.Goals as goal

pub returns-clause-all : goal.returns-clause-all
returns-clause-all c = λ id.
    c.in_order.ensures.all id
    ∙ ap (λ ids. has_id ids id) c.in_ok-extend_from_slice.ensures.items
    ∙ has-append c.args.ids.items c.args.others.now id
