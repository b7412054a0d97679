use Rattle.std.proofs.Common.{ℕ, List, subst}
use Rattle.std.specs.List.Sorted.{IsStrictlyIncreasing}
use Rattle.relation.specs.Key.{ids_of_variable}
use Rattle.relation.proofs.OrderLemmas.{key_has_tick, rows_in_order}
use Rattle.relation.proofs.ChangeLemmas.{has_at-none, row_own}
use Rattle.relation.proofs.table.Relation.rows_stand_in_order.Goals as goal

pub returns-clause-keys : goal.returns-clause-keys
returns-clause-keys g c =
    rows_in_order g.S.TickSet.member c.args.self.now.domains c.args.self.now.vars c.args.self.now.lo c.args.self.now.hi c.args.self.now.rows c.rows.ensures.ordered.rows
    (subst (λ (d : List (List ℕ)). (var : ℕ) → IsStrictlyIncreasing (ids_of_variable d var)) c.domains.ensures c.len.ensures.ascending)

pub returns-clause-ticks : goal.returns-clause-ticks
returns-clause-ticks g c = λ i d l t.
    row_own g.S.TickSet.member c.args.self.now.domains c.args.self.now.vars c.args.self.now.lo c.args.self.now.hi c.args.self.now.rows i d c.rows.ensures.ordered.rows l t

pub returns-clause-some : goal.returns-clause-some
returns-clause-some g c = λ key h none.
    key_has_tick g.S.TickSet.member c.args.self.now.domains c.args.self.now.vars c.args.self.now.lo c.args.self.now.hi c.args.self.now.rows key c.rows.ensures.ordered.rows h none

pub returns-clause-none : goal.returns-clause-none
returns-clause-none g c = λ key h t. has_at-none g.S.TickSet.member c.args.self.now.rows key h t
