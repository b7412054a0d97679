use Rattle.std.proofs.Common.{sym, ap, subst, ◌∙◌}
use Rattle.plane_index.specs.Index.{index_of, is_fresh, IsIndexOf}
use Rattle.plane_index.proofs.IndexLemmas.{none_fresh, of_any}
use Rattle.plane_index.proofs.index.PlaneIndex.new.Goals as goal

pub returns-clause-stale : goal.returns-clause-stale
returns-clause-stale c =
    let states = c.in_ok-states.states in
    λ k. ap (λ ids. is_fresh (index_of states.grid ids c.new-3.result.items states.states) k) c.new-2.ensures.items
    ∙ none_fresh states.grid c.new-3.result.items states.states k

pub returns-clause-right : goal.returns-clause-right
returns-clause-right c =
    let states = c.in_ok-states.states in
    λ s. subst (λ ids. IsIndexOf s (index_of states.grid ids c.new-3.result.items states.states)) (sym c.new-2.ensures.items)
    (of_any s states.grid c.new-3.result.items states.states)
