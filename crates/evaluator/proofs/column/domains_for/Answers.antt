use Rattle.std.proofs.Common.{◌≡◌, ℕ, ◌<◌, length, arith, ◌∙◌, subst, sym}
use Rattle.std.specs.List.{filter}
use Rattle.relation.specs.Order.{has_row, keys_over}
use Rattle.evaluator.specs.inner.Column.{ids_left}
use Rattle.evaluator.proofs.ColumnLemmas.{left_domains}
use Rattle.evaluator.proofs.column.domains_for.Goals as goal

pub returns : goal.returns
returns g c =
    let rows = c.args.rows.now in
    let all : c.vars.var ≡ length c.args.d.now = omega (arith, c.vars-test.false, c.vars.auto.var-end, c.len-count.ensures.count, c.len-count.ensures.few) in
    left_domains rows c.args.d.now c.len-count.ensures.ascending
    (c.rows_stand_in_order.ensures.keys ∙ (λ i. filter (has_row rows.rows) (keys_over (c.requires i) rows.vars)))
    _ (c.vars.invariant.many ∙ all)
    (λ v l. c.vars.invariant.ids v (subst (λ (n : ℕ). v < n) (sym all) l) ∙ (λ i. ids_left rows.vars rows.rows (c.requires i) v))
