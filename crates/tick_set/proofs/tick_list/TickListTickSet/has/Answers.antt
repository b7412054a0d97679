use Rattle.std.proofs.Common.{◌∙◌, ap, subst}
use Rattle.tick_set.specs.TickList.{has, IsAscending}
use Rattle.tick_set.proofs.TickListLemmas.{search_is_has, has_in_range}
use Rattle.tick_set.proofs.tick_list.TickListTickSet.has.Goals as goal

pub returns-clause-has : goal.returns-clause-has
returns-clause-has c =
    let ascending : IsAscending c.deref.result.now = rw c.deref.ensures.value c.self.invariant in
    c.is_ok.ensures.value
    ∙ search_is_has c.deref.result.now c.args.t c.binary_search.result ascending c.binary_search.ensures.position
    ∙ ap (λ ticks. has ticks c.args.t) (c.deref.ensures.value ∙ c.self.view_is)

pub returns-clause-in_range : goal.returns-clause-in_range
returns-clause-in_range c = λ u e. has_in_range _ 0 u (subst IsAscending c.self.view_is c.self.invariant) e
