-- A query with numbers for its names. What isn't there stands for 0, so that each query has one; it is right where the query
-- has no fault.
use Rattle.std.specs.Prelude.{ℕ, unwrap_or, List, length, map}
use Rattle.geometry.specs.Region.{Region}
use Rattle.history.specs.Catalog.{ClassInfo, class_number}
use Rattle.formula_shape.specs.Shape as shapes
use Rattle.formula.specs.Tree.{ResolvedQuery, ResolvedTree}
use Rattle.formula.specs.declared.tree.RAtom.{RAtom}
use Rattle.formula.specs.declared.tree.RAtom.TheVariants as ratoms
use Rattle.ftl_parser.specs.declared.tree.Atom as atom_type
use Rattle.ftl_parser.specs.declared.tree.Atom.TheVariants as atoms
use Rattle.ftl_parser.specs.Tree.{QueryTree, Tree}
use Rattle.ftl_typer.specs.Scope.{NameScope, resolved_term, scope_of, variable_number, with_assigned}

abbrev pub region_place : NameScope → List ℕ → ℕ
region_place s name = unwrap_or (s.region name) 0

abbrev pub resolved_atom : NameScope → atom_type.Atom → RAtom
resolved_atom s (atoms.Compare t op u) = ratoms.Compare (resolved_term s t) op (resolved_term s u)
resolved_atom s (atoms.Inside o region) = ratoms.Inside (variable_number s o) (region_place s region)
resolved_atom s (atoms.Outside o region) = ratoms.Outside (variable_number s o) (region_place s region)
resolved_atom s (atoms.Dist o n op c) = ratoms.Dist (variable_number s o) (variable_number s n) op c
resolved_atom s (atoms.Sphere r names) = ratoms.Sphere r (map (variable_number s) names)

-- an assignment has as its depth the number of those around it
abbrev pub resolved_formula : NameScope → Tree → ResolvedTree
resolved_formula s (shapes.Truth b) = shapes.Truth b
resolved_formula s (shapes.Atom a) = shapes.Atom (resolved_atom s a)
resolved_formula s (shapes.Not f) = shapes.Not (resolved_formula s f)
resolved_formula s (shapes.And f g) = shapes.And (resolved_formula s f) (resolved_formula s g)
resolved_formula s (shapes.Or f g) = shapes.Or (resolved_formula s f) (resolved_formula s g)
resolved_formula s (shapes.Next f) = shapes.Next (resolved_formula s f)
resolved_formula s (shapes.Eventually f) = shapes.Eventually (resolved_formula s f)
resolved_formula s (shapes.Always f) = shapes.Always (resolved_formula s f)
resolved_formula s (shapes.Bounded form ticks f) = shapes.Bounded form ticks (resolved_formula s f)
resolved_formula s (shapes.Until form ticks f g) = shapes.Until form ticks (resolved_formula s f) (resolved_formula s g)
resolved_formula s (shapes.Assign (name, t) f) =
    shapes.Assign (length s.values, resolved_term s t) (resolved_formula (with_assigned s name t) f)

abbrev pub class_place : List ClassInfo → List ℕ → ℕ
class_place classes name = unwrap_or (class_number classes name) 0

abbrev pub resolved : List ClassInfo → List Region → QueryTree → ResolvedQuery
resolved classes regions q =
    let s = scope_of classes regions q.from in
    record {
      targets = map (variable_number s) q.targets;
      classes = map (λ part. class_place classes part.class) q.from;
      formula = resolved_formula s q.formula;
    }
