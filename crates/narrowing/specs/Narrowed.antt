-- Fewer objects that suffice for a query.
use Rattle.std.specs.Prelude.{◌≡◌, ℕ, ◌<◌, ◌≤◌, ◌⊎◌, true, false, List, length, slice_index}
use Rattle.std.specs.List.Sorted.{IsStrictlyIncreasing}
use Rattle.geometry.specs.Region.{Region}
use Rattle.history.specs.Catalog.{ids_of as ids_of_class}
use Rattle.formula.specs.Tree.{ResolvedQuery}
use Rattle.object_store.specs.Contents.{Contents, catalog_of}
use Rattle.relation.specs.Frames.{IsIn, IsWider, domain_size}
use Rattle.relation.specs.Key.{has_id, ids_of_variable}
use Rattle.narrowing.specs.declared.scene.Scene.{Scene}
use Rattle.narrowing.specs.Needed.{CannotHold, CannotHoldIn, Fails, told}

-- a list of objects for each variable of a query, each of the variable's class
pub record AreOfClasses (s : Contents) (q : ResolvedQuery) (domains : List (List ℕ)) : Type 0 where
  pub many : length domains ≡ length q.classes
  pub each : (v id : ℕ) → v < length q.classes → has_id (ids_of_variable domains v) id ≡ true
      → has_id (ids_of_class (catalog_of s) (slice_index q.classes v)) id ≡ true

-- Some of the objects of domains: an assignment that gives a variable another one of them has the formula at no tick of
-- lo to e.
pub record Suffice (s : Contents) (regions : List Region) (q : ResolvedQuery) (lo e : ℕ) (domains some : List (List ℕ)) : Type 0 where
  pub wider : IsWider some domains
  pub fewer : (v : ℕ) → domain_size some v ≤ domain_size domains v
  pub sound : (b : ℕ → ℕ) → IsIn domains b → IsIn some b ⊎ Fails (told s regions b) lo e q.formula

-- The same where each position may be off by the error, whatever is told that is possible.
pub record SufficeWithin (error : ℕ) (s : Contents) (regions : List Region) (q : ResolvedQuery) (lo e : ℕ) (domains some : List (List ℕ)) : Type 0 where
  pub wider : IsWider some domains
  pub fewer : (v : ℕ) → domain_size some v ≤ domain_size domains v
  pub sound : (b : ℕ → ℕ) → IsIn domains b → IsIn some b ⊎ CannotHold error s regions b lo e q.formula

-- Some ids of a variable's domain, ascending: with another one of these the formula cannot hold.
pub record IsShare (a : Scene) (q : ResolvedQuery) (v : ℕ) (ids : List ℕ) : Type 0 where
  pub ascending : IsStrictlyIncreasing ids
  pub among : (id : ℕ) → has_id ids id ≡ true → has_id (ids_of_variable a.domains.now v) id ≡ true
  pub fewer : length ids ≤ domain_size a.domains.now v
  pub sound : (b : ℕ → ℕ) → IsIn a.domains.now b → has_id ids (b v) ≡ false → CannotHoldIn a b q.formula

-- the same of the first variables as `SufficeWithin` says of all
pub record SufficeSoFar (a : Scene) (q : ResolvedQuery) (some : List (List ℕ)) : Type 0 where
  pub upto : length some ≤ length a.domains.now
  pub among : (v : ℕ) → v < length some → (id : ℕ) → has_id (ids_of_variable some v) id ≡ true → has_id (ids_of_variable a.domains.now v) id ≡ true
  pub fewer : (v : ℕ) → v < length some → domain_size some v ≤ domain_size a.domains.now v
  pub sound : (b : ℕ → ℕ) → IsIn a.domains.now b → IsIn some b ⊎ CannotHoldIn a b q.formula
