-- Objects with which a formula holds nowhere.
use Rattle.std.specs.Prelude.{◌≡◌, ℕ, true, false, List}
use Rattle.formula.specs.Tree.{ResolvedTree}
use Rattle.relation.specs.Frames.{IsIn}
use Rattle.relation.specs.Key.{has_id}
use Rattle.narrowing.specs.declared.scene.Scene.{Scene}
use Rattle.narrowing.specs.Needed.{CannotHoldIn}

-- with the object of an id for a variable, and objects of their domains for all, the formula cannot hold
abbrev pub FailsWith : Scene → (v : ℕ) → ResolvedTree → ℕ → Type 0
FailsWith a v f id = (b : ℕ → ℕ) → IsIn a.domains.now b → b v ≡ id → CannotHoldIn a b f

-- the same whatever objects of their domains the variables have
abbrev pub CanHoldNowhere : Scene → ResolvedTree → Type 0
CanHoldNowhere a f = (b : ℕ → ℕ) → IsIn a.domains.now b → CannotHoldIn a b f

-- the ids of a list that aren't among the rest are lost
abbrev pub AreLost : (ℕ → Type 0) → List ℕ → List ℕ → Type 0
AreLost Lost ids rest = (id : ℕ) → has_id ids id ≡ true → has_id rest id ≡ false → Lost id
