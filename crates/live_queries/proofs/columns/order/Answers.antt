use Rattle.std.proofs.Common.{ℕ, List, ◌++◌, length, ◌∙◌, rules}
use Rattle.std.specs.Prelude.{not, nat_lt, ◌&&◌, ◌==◌}
use Rattle.std.specs.List.{filter, list_any}
use Rattle.std.proofs.lemmas.Fn.{filter_same}
use Rattle.live_queries.proofs.columns.order.Goals as goal

pub returns : goal.returns
returns c =
    let test : List ℕ → List ℕ → ℕ → _ = λ targets classes v. nat_lt v (length classes) && not (list_any (λ u. u == v) targets) in
    c.in_ok-extend_from_slice.ensures.items
    ∙ (λ i. (c.in_ok-order.ensures.items ∙ c.items-targets.ensures) i
    ++ (c.deref.ensures.value
    ∙ filter_same _ (test c.items-targets.result.now c.items.result.now) _ (λ x b f' k. search rules) _ _ c.retain.ensures.filtered
    ∙ (λ j. filter (test (c.items-targets.ensures j) (c.items.ensures j)) (c.in_ok-others.ensures.items j))) i)
