-- The tree of a query by number, without where its parts lie in memory. Its names are resolved to numbers, as the R before
-- the names of its types says. Atoms and terms are as declared: numbers are their thousandths, texts their bytes.
use Rattle.std.specs.Prelude.{ℕ, List}
use Rattle.formula_shape.specs.Shape.{Shape}
use Rattle.formula.specs.declared.tree.RAtom.{RAtom}
use Rattle.formula.specs.declared.tree.RTerm.{RTerm}
use Rattle.formula.specs.declared.tree.RQuery.{RQuery}
use Rattle.formula.specs.declared.tree.RFormula.{RFormula}
use Rattle.formula.specs.declared.tree.RFormula.TheVariants as formulas

-- a formula; an assignment binds the value of a term, at its depth
abbrev pub ResolvedTree : Type 0
ResolvedTree = Shape RAtom (ℕ × RTerm)

-- a query
pub record ResolvedQuery : Type 0 where
  pub targets : List ℕ
  pub classes : List ℕ
  pub formula : ResolvedTree

-- the tree of a formula of the program
abbrev pub formula_view : RFormula → ResolvedTree
formula_view (formulas.Truth b) = Shape.Truth b
formula_view (formulas.Atom a) = Shape.Atom a
formula_view (formulas.Not' p f) = Shape.Not (formula_view f)
formula_view (formulas.And' p f q g) = Shape.And (formula_view f) (formula_view g)
formula_view (formulas.Or' p f q g) = Shape.Or (formula_view f) (formula_view g)
formula_view (formulas.Next' p f) = Shape.Next (formula_view f)
formula_view (formulas.Eventually' p f) = Shape.Eventually (formula_view f)
formula_view (formulas.Always' p f) = Shape.Always (formula_view f)
formula_view (formulas.Bounded' form ticks p f) = Shape.Bounded form ticks (formula_view f)
formula_view (formulas.Until' form ticks p f q g) = Shape.Until form ticks (formula_view f) (formula_view g)
formula_view (formulas.Assign' depth term p f) = Shape.Assign (depth, term) (formula_view f)

-- the tree of a query of the program
abbrev pub resolved_view : RQuery → ResolvedQuery
resolved_view q = record { targets = q.targets; classes = q.classes; formula = formula_view q.formula }
