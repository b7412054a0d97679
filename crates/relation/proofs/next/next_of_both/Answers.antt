use Rattle.std.proofs.Common.{◌∙◌, if◌then◌else◌, sym}
use Rattle.std.proofs.lemmas.Bool.{and_parts}
use Rattle.relation.specs.Group.{ids_at}
use Rattle.relation.specs.Part.{offers}
use Rattle.relation.proofs.WalkLemmas.{next_if_false, next_if_true}
use Rattle.relation.proofs.next.next_of_both.Goals as goal

pub returns-then-goes_left : goal.returns-then-goes_left
returns-then-goes_left g c = λ domains lo hi left right.
    let p = c.args.left.now in
    let q = c.args.right.now in
    let chosen = sym c.goes_left.ensures ∙ c.if-goes_left.true in
    next_if_true _ (ids_at p.place p.rows.now) (if offers c.args.var q then ids_at q.place q.rows.now else c.args.ids.now) c.args.from c.next.result chosen
    (c.next.ensures domains lo hi c.args.var left (and_parts _ _ chosen).0)

pub returns-else-goes_left : goal.returns-else-goes_left
returns-else-goes_left g c = λ domains lo hi left right.
    let p = c.args.left.now in
    let q = c.args.right.now in
    let chosen = sym c.goes_left.ensures ∙ c.if-goes_left.false in
    next_if_false _ (ids_at p.place p.rows.now) (if offers c.args.var q then ids_at q.place q.rows.now else c.args.ids.now) c.args.from c.next_of_right.result chosen
    (c.next_of_right.ensures domains lo hi right)
