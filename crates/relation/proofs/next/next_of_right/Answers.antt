use Rattle.std.proofs.Common.{◌∙◌, sym}
use Rattle.relation.specs.Group.{ids_at}
use Rattle.relation.proofs.WalkLemmas.{next_if_true}
use Rattle.relation.proofs.next.next_of_right.Goals as goal

pub returns-then-offers : goal.returns-then-offers
returns-then-offers g c = λ domains lo hi right.
    let q = c.args.right.now in
    let offered = sym c.offers.ensures ∙ c.if-offers.true in
    next_if_true _ (ids_at q.place q.rows.now) c.args.ids.now c.args.from c.next.result offered (c.next.ensures domains lo hi c.args.var right offered)
