-- The store of a session, and domains of its objects.
use Rattle.std.specs.Prelude.{◌≡◌, ℕ, ◌<◌, true, List, length, slice_index}
use Rattle.history.specs.Catalog.{Catalog, empty_catalog, ids_of as ids_of_class}
use Rattle.history.specs.History.{history}
use Rattle.history.specs.Write.{Write}
use Rattle.formula.specs.Tree.{ResolvedQuery}
use Rattle.meaning.specs.Accepted.{are_accepted}
use Rattle.object_store.specs.Contents.{Contents, history_of}
use Rattle.relation.specs.Key.{has_id, ids_of_variable}

-- a store tells what some writes do that a session accepts
pub record IsOfAcceptedWrites (s : Contents) : Type 0 where
  pub writes : List Write
  pub accepted : are_accepted empty_catalog 0 writes ≡ true
  pub told : history_of s ≡ history writes

-- a list of objects for each variable of a query, each of the variable's class
pub record AreOfItsClasses (c : Catalog) (q : ResolvedQuery) (domains : List (List ℕ)) : Type 0 where
  pub many : length domains ≡ length q.classes
  pub each : (v id : ℕ) → v < length q.classes → has_id (ids_of_variable domains v) id ≡ true
      → has_id (ids_of_class c (slice_index q.classes v)) id ≡ true
