-- The objects without which a formula holds nowhere.
use Rattle.std.specs.Prelude.{◌≡◌, ℕ, ◌≤◌, Bool, true, false, not, ◌&&◌, ◌||◌, Option, None, Some, List}
use Rattle.std.specs.List.Sorted.{IsStrictlyIncreasing}
use Rattle.geometry.specs.Region.{Region}
use Rattle.formula.specs.declared.tree.RAtom.{RAtom}
use Rattle.formula.specs.declared.value.Env.{Env}
use Rattle.formula.specs.Tree.{ResolvedTree}
use Rattle.meaning.specs.Satisfaction.{Interpretation, plain, sat}
use Rattle.meaning.specs.Trace.{trace_of}
use Rattle.object_store.specs.Contents.{Contents, history_of, ids_in}
use Rattle.relation.specs.Frames.{IsIn}
use Rattle.relation.specs.Key.{has_id}
use Rattle.worlds.specs.Blurred.{possibly_holds}
use Rattle.narrowing.specs.declared.scene.Scene.{Scene}

-- whatever values are bound, the formula holds at no tick of lo to e, after which nothing counts
abbrev pub Fails : Interpretation → ℕ → ℕ → ResolvedTree → Type 0
Fails j lo e f = (x : Env) (t : ℕ) → lo ≤ t → t ≤ e → sat j f x e t ≡ false

-- what a store and regions tell where an assignment gives each variable an object
abbrev pub told : Contents → List Region → (ℕ → ℕ) → Interpretation
told s regions b = plain regions (trace_of (history_of s) b)

-- What is told of these objects holds of an atom only where that is possible, where each position may be off by the error.
abbrev pub TellsPossible : ℕ → Contents → List Region → (ℕ → ℕ) → Interpretation → Type 0
TellsPossible error s regions b j =
    (a : RAtom) (x : Env) (t : ℕ) → j.atom a x t ≡ true → possibly_holds error regions (trace_of (history_of s) b) b a x t ≡ true

-- whatever is told so, the formula holds at no tick of lo to e
abbrev pub CannotHold : ℕ → Contents → List Region → (ℕ → ℕ) → ℕ → ℕ → ResolvedTree → Type 0
CannotHold error s regions b lo e f = (j : Interpretation) → TellsPossible error s regions b j → Fails j lo e f

-- whatever is told so of a scene, the formula holds at no tick of its window
abbrev pub CannotHoldIn : Scene → (ℕ → ℕ) → ResolvedTree → Type 0
CannotHoldIn a b f = CannotHold a.error a.store.now a.regions.now b a.w.lo a.w.hi f

-- Ids, ascending. Where a variable has another object of the class, and each one an object of its domain, the formula
-- cannot hold.
pub record AreNeeded (a : Scene) (class v : ℕ) (f : ResolvedTree) (ids : List ℕ) : Type 0 where
  pub ascending : IsStrictlyIncreasing ids
  pub fails : (b : ℕ → ℕ) → IsIn a.domains.now b → has_id (ids_in a.store.now.objects class) (b v) ≡ true → has_id ids (b v) ≡ false
      → CannotHoldIn a b f

-- whether a list, if there is one, doesn't have an id
abbrev pub lacks : Option (List ℕ) → ℕ → Bool
lacks None id = false
lacks (Some ids) id = not (has_id ids id)

-- Ids, ascending: one that isn't among them isn't in one of two lists.
pub record IsOfEither (left right : Option (List ℕ)) (ids : List ℕ) : Type 0 where
  pub ascending : IsStrictlyIncreasing ids
  pub lacking : (id : ℕ) → has_id ids id ≡ false → (lacks left id || lacks right id) ≡ true

-- Ids, ascending: one that isn't among them is in neither of two lists.
pub record IsOfBoth (left right : Option (List ℕ)) (ids : List ℕ) : Type 0 where
  pub ascending : IsStrictlyIncreasing ids
  pub lacking : (id : ℕ) → has_id ids id ≡ false → (lacks left id && lacks right id) ≡ true
