use Rattle.std.proofs.Common.{◌+◌, arith}
use Rattle.std.proofs.lemmas.List.{take_rest}
use Rattle.relation.specs.Group.{id_at}
use Rattle.relation.proofs.SearchLemmas.{group_found, rises_drop}
use Rattle.relation.proofs.search.group.Goals as goal

pub returns : goal.returns
returns g c = λ rises.
    let rest = take_rest c.args.rows.now c.below.result in
    let rises' = rises_drop (id_at c.args.place) c.args.rows.now c.below.result rises in
    group_found c.args.place c.args.id c.from.result (c.from-2.result + 1) c.below.result c.below-2.result c.args.rows.now _ rest c.from.ensures (omega (arith, c.from-2.ensures))
    (record { in_range = c.below.ensures.bound; before = c.below.ensures.before rises; after = c.below.ensures.after rises })
    (record { in_range = c.below-2.ensures.bound; before = c.below-2.ensures.before (rw rest rises'); after = c.below-2.ensures.after (rw rest rises') })
