use Rattle.std.proofs.Common.{◌∙◌, ◌++◌, sym}
use Rattle.std.proofs.lemmas.Bool.{and_from}
use Rattle.relation.specs.Group.{ids_at}
use Rattle.relation.proofs.WalkLemmas.{next_if_true}
use Rattle.relation.proofs.next.next_of_either.Goals as goal

pub returns-then-offers-2 : goal.returns-then-offers-2
returns-then-offers-2 g c = λ domains lo hi left right.
    let p = c.args.left.now in
    let q = c.args.right.now in
    let first = sym c.offers.ensures ∙ c.if-offers.true in
    let second = sym c.offers-then-offers.ensures ∙ c.if-offers-2.true in
    let lefts = ids_at p.place p.rows.now in
    let rights = ids_at q.place q.rows.now in
    next_if_true _ (lefts ++ rights) c.args.ids.now c.args.from c.least.result (and_from _ _ first second)
    (c.least.ensures lefts rights c.args.from (c.next.ensures domains lo hi c.args.var left first) (c.next-then-offers-2.ensures domains lo hi c.args.var right second))
