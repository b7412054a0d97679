use Rattle.std.proofs.Common.{rules, ◌≡◌, ◌∷◌, [], ℕ, true, List, subst, sym, ◌∙◌}
use Rattle.std.specs.List.Sorted.{IsStrictlyIncreasing}
use Rattle.std.specs.Str.{bytes_eq}
use Rattle.std.proofs.lemmas.Slice.Eq.{bytes_eq-Decides}
use Rattle.evaluator.specs.inner.Column.{first_ids}
use Rattle.evaluator.proofs.ColumnLemmas.{ids_ascend}
use Rattle.evaluator.proofs.column.push_left.Goals as goal

pub push-requires-then-eq-clause-ascending : goal.push-requires-then-eq-clause-ascending
push-requires-then-eq-clause-ascending g c =
    let test : bytes_eq c.args.rows.now.vars (c.args.var ∷ []) ≡ true = search rules in
    let up : IsStrictlyIncreasing (first_ids c.args.rows.now.rows) =
    ids_ascend c.args.rows.now c.args.var (subst (λ (ids : List ℕ). IsStrictlyIncreasing ids) c.requires.whole c.requires.ascending)
    c.rows_stand_in_order.ensures.keys ((bytes_eq-Decides c.args.rows.now.vars (c.args.var ∷ [])).0 test) in
    subst (λ (ids : List ℕ). IsStrictlyIncreasing ids) (sym (c.deref.ensures.value ∙ c.in_ok-own.ensures)) up
