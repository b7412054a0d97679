-- What is so of the columns of a query that is registered.
use Rattle.std.proofs.Common.{◌≡◌, ℕ, ◌<◌, true, List, [], ◌∷◌, length, map, refl, sym, ap, ◌∙◌}
use Rattle.history.specs.Catalog.{Catalog, capacity_of, ids_of}
use Rattle.formula.specs.Resolved.{IsResolved}
use Rattle.formula.specs.Tree.{ResolvedQuery}
use Rattle.live_queries.specs.Columns.{AreColumnsOf, AreCounted, Column, HaveCapacitiesOf, HaveObjectsOf, columns_have, order_of}
use Rattle.live_queries.proofs.OrderLemmas.{among, columns_are, order_has}
use Rattle.std.specs.Prelude.{slice_index}

module _ (catalog : Catalog) (classes : List ℕ) where
  pub variables_are : (vs : List ℕ) (cs : List Column) → AreColumnsOf catalog classes vs cs → map (λ c. c.variable) cs ≡ vs
  variables_are [] [] are = refl
  variables_are [] (c ∷ cs) are = absurd are
  variables_are (v ∷ vs) [] are = absurd are
  variables_are (v ∷ vs) (c ∷ cs) are = λ i. are.0.variable i ∷ variables_are vs cs are.1 i

  pub are_counted : (vs : List ℕ) (cs : List Column) → AreColumnsOf catalog classes vs cs → AreCounted cs
  are_counted [] [] are = tt
  are_counted [] (c ∷ cs) are = absurd are
  are_counted (v ∷ vs) [] are = absurd are
  are_counted (v ∷ vs) (c ∷ cs) are = (are.0.counted, are_counted vs cs are.1)

  pub have_objects : (vs : List ℕ) (cs : List Column) → AreColumnsOf catalog classes vs cs → HaveObjectsOf catalog classes cs
  have_objects [] [] are = tt
  have_objects [] (c ∷ cs) are = absurd are
  have_objects (v ∷ vs) [] are = absurd are
  have_objects (v ∷ vs) (c ∷ cs) are =
      (are.0.objects ∙ ap (λ u. ids_of catalog (slice_index classes u)) (sym are.0.variable), have_objects vs cs are.1)

  pub have_capacities : (vs : List ℕ) (cs : List Column) → AreColumnsOf catalog classes vs cs → HaveCapacitiesOf catalog classes cs
  have_capacities [] [] are = tt
  have_capacities [] (c ∷ cs) are = absurd are
  have_capacities (v ∷ vs) [] are = absurd are
  have_capacities (v ∷ vs) (c ∷ cs) are =
      (are.0.capacity ∙ ap (λ u. capacity_of catalog.classes (slice_index classes u)) (sym are.0.variable), have_capacities vs cs are.1)

-- each variable of the query has a column
pub has_column : (q : ResolvedQuery) (cs : List Column) → IsResolved q → map (λ c. c.variable) cs ≡ order_of q →
    (v : ℕ) → v < length q.classes → columns_have cs v ≡ true
has_column q cs is order v below = columns_are cs v ∙ ap (λ (vs : List ℕ). among vs v) order ∙ order_has q is v below
