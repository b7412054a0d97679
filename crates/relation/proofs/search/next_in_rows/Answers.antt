use Rattle.std.proofs.Common.{ℕ, Some, subst, sym}
use Rattle.relation.specs.Group.{IsNextIn, id_at, ids_at}
use Rattle.relation.proofs.SearchLemmas.{next_none, next_some}
use Rattle.relation.proofs.search.next_in_rows.Goals as goal

pub returns-then-at-rows : goal.returns-then-at-rows
returns-then-at-rows g c = λ rises.
    let found = c.below-at.ensures in
    subst (λ (z : ℕ). IsNextIn (ids_at c.args.place c.args.rows.now) c.args.from (Some z)) (sym c.id_at.ensures)
    (next_some (id_at c.args.place) c.args.rows.now c.args.from c.below-at.result c.index-rows-at.result rises
    (record { in_range = found.bound; before = found.before rises; after = found.after rises }) c.if-at-rows.true c.index-rows-at.is)

pub returns-else-at-rows : goal.returns-else-at-rows
returns-else-at-rows g c = λ rises.
    let found = c.below-at.ensures in
    next_none (id_at c.args.place) c.args.rows.now c.args.from c.below-at.result
    (record { in_range = found.bound; before = found.before rises; after = found.after rises }) c.if-at-rows.false
