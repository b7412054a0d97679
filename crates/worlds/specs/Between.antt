-- What holds surely, in the worlds where objects are off by at most an error, and possibly.
use Rattle.std.specs.Prelude.{◌≡◌, ℕ, Bool, true, false, List, []}
use Rattle.formula_shape.specs.Sizes.{has_not}
use Rattle.formula.specs.declared.value.Env.{Env}
use Rattle.formula.specs.Tree.{ResolvedTree}
use Rattle.history.specs.World.{World}
use Rattle.meaning.specs.Satisfaction.{plain, sat}
use Rattle.meaning.specs.Trace.{trace_of}
use Rattle.worlds.specs.Blurred.{blurred}
use Rattle.worlds.specs.Moved.{Move, in_world, is_world}

-- what surely holds of a formula without NOT, holds in every world
abbrev pub HoldsInEach : Type 0
HoldsInEach =
    (error : ℕ) (moves : List Move) → is_world error moves ≡ true → (f : ResolvedTree) → has_not f ≡ false
    → (w : World) (b : ℕ → ℕ) (x : Env) (e t : ℕ)
    → sat (blurred true error w b) f x e t ≡ true → sat (in_world moves w b) f x e t ≡ true

-- what holds of such a formula in some world, possibly holds
abbrev pub HoldsIfInSome : Type 0
HoldsIfInSome =
    (error : ℕ) (moves : List Move) → is_world error moves ≡ true → (f : ResolvedTree) → has_not f ≡ false
    → (w : World) (b : ℕ → ℕ) (x : Env) (e t : ℕ)
    → sat (in_world moves w b) f x e t ≡ true → sat (blurred false error w b) f x e t ≡ true

-- where nothing is off, all is as it is told
abbrev pub IsPlainUnmoved : Type 0
IsPlainUnmoved =
    (f : ResolvedTree) (w : World) (b : ℕ → ℕ) (x : Env) (e t : ℕ)
    → sat (in_world [] w b) f x e t ≡ sat (plain w.regions (trace_of w.history b)) f x e t

-- so what is told lies between the two
pub record LiesBetween : Type 0 where
  pub surely : (error : ℕ) (f : ResolvedTree) → has_not f ≡ false → (w : World) (b : ℕ → ℕ) (x : Env) (e t : ℕ)
      → sat (blurred true error w b) f x e t ≡ true → sat (plain w.regions (trace_of w.history b)) f x e t ≡ true
  pub possibly : (error : ℕ) (f : ResolvedTree) → has_not f ≡ false → (w : World) (b : ℕ → ℕ) (x : Env) (e t : ℕ)
      → sat (plain w.regions (trace_of w.history b)) f x e t ≡ true → sat (blurred false error w b) f x e t ≡ true

-- by an error of 0, what is told is what surely holds and what possibly does
abbrev pub IsPlainWithoutError : Type 0
IsPlainWithoutError =
    (sure : Bool) (f : ResolvedTree) (w : World) (b : ℕ → ℕ) (x : Env) (e t : ℕ)
    → sat (blurred sure 0 w b) f x e t ≡ sat (plain w.regions (trace_of w.history b)) f x e t
