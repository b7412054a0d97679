-- The shape of a formula's tree, whatever its atoms are and whatever an assignment binds. It has no pointers.
use Rattle.std.specs.Prelude.{ℕ, Bool}
use Rattle.fixed_point.specs.declared.variants.BoundForm.{BoundForm}
use Rattle.fixed_point.specs.declared.variants.UntilForm.{UntilForm}

-- a formula with atoms A, in which an assignment binds a B for the formula after it
pub data Shape (A B : Type 0) : Type 0 where
  Truth : Bool → Shape A B
  Atom : A → Shape A B
  Not : Shape A B → Shape A B
  And : Shape A B → Shape A B → Shape A B
  Or : Shape A B → Shape A B → Shape A B
  Next : Shape A B → Shape A B
  Eventually : Shape A B → Shape A B
  Always : Shape A B → Shape A B
  Bounded : BoundForm → ℕ → Shape A B → Shape A B
  Until : UntilForm → ℕ → Shape A B → Shape A B → Shape A B
  Assign : B → Shape A B → Shape A B

-- what a fold makes of each kind of node; `later` is of the operators on one formula but NOT
pub record Cases (A B R : Type 0) : Type 0 where
  pub truth : Bool → R
  pub atom : A → R
  pub negation : R → R
  pub later : R → R
  pub binary : R → R → R
  pub assignment : B → R → R

abbrev pub fold_shape : {A B R : Type 0} → Cases A B R → Shape A B → R
fold_shape c (Truth b) = c.truth b
fold_shape c (Atom a) = c.atom a
fold_shape c (Not f) = c.negation (fold_shape c f)
fold_shape c (And f g) = c.binary (fold_shape c f) (fold_shape c g)
fold_shape c (Or f g) = c.binary (fold_shape c f) (fold_shape c g)
fold_shape c (Next f) = c.later (fold_shape c f)
fold_shape c (Eventually f) = c.later (fold_shape c f)
fold_shape c (Always f) = c.later (fold_shape c f)
fold_shape c (Bounded form ticks f) = c.later (fold_shape c f)
fold_shape c (Until form ticks f g) = c.binary (fold_shape c f) (fold_shape c g)
fold_shape c (Assign b f) = c.assignment b (fold_shape c f)

-- P of each atom and Q of what each assignment binds
abbrev pub fold_types : {A B : Type 0} → (A → Type 0) → (B → Type 0) → Shape A B → Type 0
fold_types P Q (Truth b) = Unit {0}
fold_types P Q (Atom a) = P a
fold_types P Q (Not f) = fold_types P Q f
fold_types P Q (And f g) = fold_types P Q f × fold_types P Q g
fold_types P Q (Or f g) = fold_types P Q f × fold_types P Q g
fold_types P Q (Next f) = fold_types P Q f
fold_types P Q (Eventually f) = fold_types P Q f
fold_types P Q (Always f) = fold_types P Q f
fold_types P Q (Bounded form ticks f) = fold_types P Q f
fold_types P Q (Until form ticks f g) = fold_types P Q f × fold_types P Q g
fold_types P Q (Assign b f) = Q b × fold_types P Q f
