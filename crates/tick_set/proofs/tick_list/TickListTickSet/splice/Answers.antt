use Rattle.std.proofs.Common.{subst, arith}
use Rattle.tick_set.specs.TickList.{IsAscending}
use Rattle.tick_set.proofs.TickListLemmas.{spliced}
use Rattle.tick_set.proofs.tick_list.TickListTickSet.splice.Goals as goal

pub returns : goal.returns
returns c =
    spliced c.args.self.now c.args.later.now c.push_part.new.self c.push_part-2.new.self c.args.at (subst IsAscending c.later.view_is c.later.invariant)
    (λ u. grind (arith, c.in_ok-push_part.ensures u, c.deref.ensures.value, c.self.view_is, c.in_ok-made.ensures))
    (λ u. grind (arith, c.in_ok-push_part-2.ensures u, c.deref-2.ensures.value, c.later.view_is))
