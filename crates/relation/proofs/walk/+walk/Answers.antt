use Rattle.std.proofs.Common.{ℕ, List, length, ◌∙◌, ap, subst, arith}
use Rattle.relation.specs.Key.{ids_of_variable}
use Rattle.relation.specs.Walk.{CanWalk, HasWalked}
use Rattle.relation.proofs.WalkLemmas.{can_go_on, walking_all, walking_more, walking_none}
use Rattle.relation.proofs.walk.+walk.Goals as goal

pub objects-init : goal.objects-init
objects-init g t c =
    let member = g.S.TickSet.member in
    let can = subst (λ (vs : List ℕ). CanWalk member c.args.made.now c.args.key vs c.args.parts.now.left c.args.parts.now.right) c.in-Some.ensures.cases.0 c.requires in
    walking_none member c.args.operation c.args.key c.in-Some.var.now c.in-Some.later.now c.args.parts.now.left c.args.parts.now.right c.args.made.now can

pub fixed-left-requires : goal.fixed-left-requires
fixed-left-requires g t c = c.requires.left_room

pub fixed-right-requires : goal.fixed-right-requires
fixed-right-requires g t c = c.requires.right_room

pub walk-requires : goal.walk-requires
walk-requires g t c κs within =
    let member = g.S.TickSet.member in
    let made = c.args.made.now in
    let left = c.args.parts.now.left in
    let right = c.args.parts.now.right in
    let can = subst (λ (vs : List ℕ). CanWalk member made c.args.key vs left right) c.in-Some.ensures.cases.0 c.requires in
    let domain = c.of.ensures.value ∙ ap (λ (d : List (List ℕ)). ids_of_variable d c.in-Some.var.now) c.domains-domains.ensures in
    let next = c.in-Some-next_visited.ensures made.domains made.lo made.hi can.left can.right in
    let longer = ap length c.in-Some.ensures.cases.0 in (
      omega (arith, c.decreases, longer),
      (
        within,
        rw c.push.ensures (can_go_on member c.args.operation c.args.key c.in-Some.var.now c.in-Some.later.now left right made can c.of.result.now domain c.objects.made c.objects.from
            c.in-Some-next_visited.id c.objects.invariant next c.fixed-left.result c.fixed-right.result
            (c.fixed-left.ensures.fixed made.domains made.lo made.hi can.left) (c.fixed-right.ensures.fixed made.domains made.lo made.hi can.right)
            c.fixed-left.ensures.vars c.fixed-right.ensures.vars c.fixed-left.ensures.room c.fixed-right.ensures.room),
      ),
    )

pub objects-preserved : goal.objects-preserved
objects-preserved g t c =
    let member = g.S.TickSet.member in
    let made = c.args.made.now in
    let left = c.args.parts.now.left in
    let right = c.args.parts.now.right in
    let can = subst (λ (vs : List ℕ). CanWalk member made c.args.key vs left right) c.in-Some.ensures.cases.0 c.requires in
    let domain = c.of.ensures.value ∙ ap (λ (d : List (List ℕ)). ids_of_variable d c.in-Some.var.now) c.domains-domains.ensures in
    let next = c.in-Some-next_visited.ensures made.domains made.lo made.hi can.left can.right in
    rw c.from-from.ensures (walking_more member c.args.operation c.args.key c.in-Some.var.now c.in-Some.later.now left right made can c.of.result.now domain c.objects.made c.objects.from
    c.in-Some-next_visited.id c.objects.invariant next c.fixed-left.result c.fixed-right.result
    (c.fixed-left.ensures.fixed made.domains made.lo made.hi can.left) (c.fixed-right.ensures.fixed made.domains made.lo made.hi can.right) c.walk.new.made
    (subst (λ (k : List ℕ). HasWalked member c.args.operation k c.in-Some.later.now c.fixed-left.result c.fixed-right.result c.objects.made c.walk.new.made) c.push.ensures c.in_ok-walk.ensures))

pub returns : goal.returns
returns g t c =
    let member = g.S.TickSet.member in
    let made = c.args.made.now in
    let left = c.args.parts.now.left in
    let right = c.args.parts.now.right in
    let can = subst (λ (vs : List ℕ). CanWalk member made c.args.key vs left right) c.in-Some.ensures.cases.0 c.requires in
    let domain = c.of.ensures.value ∙ ap (λ (d : List (List ℕ)). ids_of_variable d c.in-Some.var.now) c.domains-domains.ensures in
    rw c.in-Some.ensures.cases.0 (walking_all member c.args.operation c.args.key c.in-Some.var.now c.in-Some.later.now left right made can c.of.result.now domain c.objects.made c.objects.from c.objects.invariant
    (c.in_default-next_visited.ensures made.domains made.lo made.hi can.left can.right))

pub objects-smaller : goal.objects-smaller
objects-smaller g t c =
    let member = g.S.TickSet.member in
    let made = c.args.made.now in
    let left = c.args.parts.now.left in
    let right = c.args.parts.now.right in
    let can = subst (λ (vs : List ℕ). CanWalk member made c.args.key vs left right) c.in-Some.ensures.cases.0 c.requires in
    let next = c.in-Some-next_visited.ensures made.domains made.lo made.hi can.left can.right in
    let fits = c.from-from.ensures in
    omega (arith, next.0, fits)
