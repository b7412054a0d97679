use Rattle.std.proofs.Common.{subst, sym}
use Rattle.relation.specs.declared.operation.Operation.{Operation}
use Rattle.relation.specs.Group.{IsNextIn}
use Rattle.relation.specs.Walk.{visited}
use Rattle.relation.proofs.next.next_visited.Goals as goal

pub returns-in-Meet : goal.returns-in-Meet
returns-in-Meet g c = λ domains lo hi left right.
    subst (λ (o : Operation). IsNextIn (visited o c.args.var c.args.ids.now c.args.left.now c.args.right.now) c.args.from c.next_of_both.result) (sym c.in-Meet.is)
    (c.next_of_both.ensures domains lo hi left right)

pub returns-in-Union : goal.returns-in-Union
returns-in-Union g c = λ domains lo hi left right.
    subst (λ (o : Operation). IsNextIn (visited o c.args.var c.args.ids.now c.args.left.now c.args.right.now) c.args.from c.next_of_either.result) (sym c.in-Union.is)
    (c.next_of_either.ensures domains lo hi left right)

pub returns-in-Until : goal.returns-in-Until
returns-in-Until g c = λ domains lo hi left right.
    subst (λ (o : Operation). IsNextIn (visited o c.args.var c.args.ids.now c.args.left.now c.args.right.now) c.args.from c.next_of_right.result) (sym c.in-Until.is)
    (c.next_of_right.ensures domains lo hi right)
