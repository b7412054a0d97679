use Rattle.relation.proofs.SearchLemmas.{next_number, no_next_number}
use Rattle.relation.proofs.search.next_in.Goals as goal

pub returns-then-at-ids : goal.returns-then-at-ids
returns-then-at-ids c = λ up.
    let found = c.below_in-at.ensures in
    next_number c.args.ids.now up c.args.from c.below_in-at.result found.bound (found.before up) (found.after up) c.if-at-ids.true

pub returns-else-at-ids : goal.returns-else-at-ids
returns-else-at-ids c = λ up.
    let found = c.below_in-at.ensures in
    no_next_number c.args.ids.now up c.args.from c.below_in-at.result found.bound (found.before up) (found.after up) c.if-at-ids.false
