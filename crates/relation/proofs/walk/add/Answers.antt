use Rattle.std.proofs.Common.{◌≡◌, ℕ, List, [], true, refl, ◌∙◌, subst}
use Rattle.std.proofs.lemmas.List.{append-nil}
use Rattle.relation.specs.Key.{key_in}
use Rattle.relation.specs.Operations.{combined_between}
use Rattle.relation.proofs.WalkLemmas.{walked_leaf}
use Rattle.relation.proofs.walk.add.Goals as goal

pub put-requires-clause-inside : goal.put-requires-clause-inside
put-requires-clause-inside g c =
    subst (λ (k : List ℕ). key_in c.args.made.now.domains c.args.made.now.vars k ≡ true) (append-nil c.args.key) (c.requires.fits [] refl)

pub returns : goal.returns
returns g c =
    let member = g.S.TickSet.member in
    walked_leaf member c.args.operation c.args.key c.args.parts.now.left c.args.parts.now.right c.args.made.now c.put.new.self c.empty-nothing.result c.in_ok-set.set c.window.result.lo c.window.result.hi
    c.requires c.empty-nothing.ensures c.window.ensures.0 c.window.ensures.1
    (λ t. c.in_ok-set.ensures.ticks t ∙ (λ i. combined_between c.args.operation c.window.result.lo c.window.result.hi (member (c.set_or-left.ensures i)) (member (c.set_or-right.ensures i)) t))
    c.in_ok-put.ensures.head c.in_ok-put.ensures.ticks c.in_ok-put.ensures.keys
