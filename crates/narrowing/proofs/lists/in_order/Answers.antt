use Rattle.std.proofs.Common.{ap, sym, subst, ◌∙◌, eqb}
use Rattle.std.specs.List.Sorted.{IsStrictlyIncreasing}
use Rattle.std.proofs.lemmas.List.Filters.{dedup_is}
use Rattle.std.proofs.lemmas.Map.Keys.{IsStrictlyIncreasing-dedup}
use Rattle.relation.specs.Key.{has_id}
use Rattle.narrowing.proofs.ListLemmas.{has-dedup, has-permutation}
use Rattle.narrowing.proofs.lists.in_order.Goals as goal

pub returns-clause-ascending : goal.returns-clause-ascending
returns-clause-ascending c =
    subst IsStrictlyIncreasing
    (sym (dedup_is eqb c.sort_unstable.new.self.items c.dedup.new.self.items c.dedup.ensures.filtered))
    (IsStrictlyIncreasing-dedup c.sort_unstable.new.self.items c.sort_unstable.ensures.sorted)

pub returns-clause-all : goal.returns-clause-all
returns-clause-all c = λ id.
    ap (λ ids. has_id ids id) (dedup_is eqb c.sort_unstable.new.self.items c.dedup.new.self.items c.dedup.ensures.filtered)
    ∙ has-dedup c.sort_unstable.new.self.items id
    ∙ sym (has-permutation c.args.ids.items c.sort_unstable.new.self.items id c.sort_unstable.ensures.permutation)
