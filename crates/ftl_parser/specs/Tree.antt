-- The tree of a query, without where its parts lie in memory. What holds no formula is as declared: names and texts are their bytes, numbers their thousandths.
use Rattle.std.specs.Prelude.{ℕ, List}
use Rattle.formula_shape.specs.Shape.{Shape}
use Rattle.ftl_parser.specs.declared.tree.Atom.{Atom}
use Rattle.ftl_parser.specs.declared.tree.Term.{Term}
use Rattle.ftl_parser.specs.declared.tree.FromPart.{FromPart}
use Rattle.ftl_parser.specs.declared.tree.Query.{Query}
use Rattle.ftl_parser.specs.declared.tree.Formula.{Formula}
use Rattle.ftl_parser.specs.declared.tree.Formula.TheVariants as formulas

-- a formula; an assignment binds the value of a term to a name
abbrev pub Tree : Type 0
Tree = Shape Atom (List ℕ × Term)

-- a query
pub record QueryTree : Type 0 where
  pub targets : List (List ℕ)
  pub from : List FromPart
  pub formula : Tree

-- the tree of a formula of the program
abbrev pub view : Formula → Tree
view (formulas.Truth b) = Shape.Truth b
view (formulas.Atom a) = Shape.Atom a
view (formulas.Not' p f) = Shape.Not (view f)
view (formulas.And' p f q g) = Shape.And (view f) (view g)
view (formulas.Or' p f q g) = Shape.Or (view f) (view g)
view (formulas.Next' p f) = Shape.Next (view f)
view (formulas.Eventually' p f) = Shape.Eventually (view f)
view (formulas.Always' p f) = Shape.Always (view f)
view (formulas.Bounded' form ticks p f) = Shape.Bounded form ticks (view f)
view (formulas.Until' form ticks p f q g) = Shape.Until form ticks (view f) (view g)
view (formulas.Assign' name term p f) = Shape.Assign (name, term) (view f)

-- the tree of a query of the program
abbrev pub query_view : Query → QueryTree
query_view q = record { targets = q.targets; from = q.from; formula = view q.formula }
