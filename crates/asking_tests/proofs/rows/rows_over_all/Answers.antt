-- The keys ascend, and the rows are over the variables in their order.
use Rattle.std.proofs.Common.{ap, ◌∙◌}
use Rattle.std.specs.List.{list_all}
use Rattle.tick_set.specs.Ticks.{between}
use Rattle.relation.specs.Key.{key_below}
use Rattle.asking_tests.proofs.rows.rows_over_all.Goals as goal

pub put-requires-2-clause-above : goal.put-requires-2-clause-above
put-requires-2-clause-above c =
    c.put.ensures.keys (λ k. key_below k c.key-2.result)
    (ap (λ r. list_all (λ x. key_below x.key c.key-2.result) r.rows) c.empty-rows.ensures)
    (λ i. key_below (c.key.ensures i) (c.key-2.ensures i))

pub put-requires-3-clause-above : goal.put-requires-3-clause-above
put-requires-3-clause-above c =
    c.put-2.ensures.keys (λ k. key_below k c.key-3.result)
    (c.put.ensures.keys (λ k. key_below k c.key-3.result)
    (ap (λ r. list_all (λ x. key_below x.key c.key-3.result) r.rows) c.empty-rows.ensures)
    (λ i. key_below (c.key.ensures i) (c.key-3.ensures i)))
    (λ i. key_below (c.key-2.ensures i) (c.key-3.ensures i))

pub returns : goal.returns
unfolding between
returns c =
    c.put-3.ensures.head.vars
    ∙ c.put-2.ensures.head.vars
    ∙ c.put.ensures.head.vars
    ∙ ap (λ r. r.vars) c.empty-rows.ensures
