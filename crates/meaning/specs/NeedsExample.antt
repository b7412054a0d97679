-- What formulas need, worked out by hand.
use Rattle.std.specs.Prelude.{◌≡◌, ℕ, Bool, true, false, nat_le, Option, None, Some, List, [], ◌∷◌, length}
use Rattle.case_table.specs.declared.compare.Op.TheVariants.{Ge, Le}
use Rattle.fixed_point.specs.declared.variants.BoundForm.TheVariants as bounds
use Rattle.fixed_point.specs.declared.variants.UntilForm.TheVariants as untils
use Rattle.formula_shape.specs.Shape as shapes
use Rattle.formula.specs.declared.tree.RAtom.{RAtom}
use Rattle.formula.specs.declared.tree.RAtom.TheVariants as atoms
use Rattle.formula.specs.Tree.{ResolvedTree}
use Rattle.meaning.specs.ExampleParts.{alone, dynamic, time, whole_units}
use Rattle.meaning.specs.Needs.{needs_of}

-- a variable in a region, and two variables that are near
abbrev pub inside_atom : ℕ → RAtom
inside_atom v = atoms.Inside v 0

abbrev pub near_atom : RAtom
near_atom = atoms.Dist 0 1 Le (whole_units 5)

-- atoms of places
abbrev pub is_of_places : RAtom → Bool
is_of_places (atoms.Compare q op r) = false
is_of_places (atoms.Inside v n) = true
is_of_places (atoms.Outside v n) = false
is_of_places (atoms.Dist v u op c) = true
is_of_places (atoms.Sphere r vs) = false

-- what a formula needs of places, where the shorter list is better
abbrev pub places : ResolvedTree → Option (List RAtom)
places = needs_of is_of_places (λ left right. nat_le (length left) (length right))

abbrev pub in_region : ℕ → ResolvedTree
in_region v = shapes.Atom (inside_atom v)

-- INSIDE(o,P) OR INSIDE(n,P)
abbrev pub either_inside : ResolvedTree
either_inside = shapes.Or (in_region 0) (in_region 1)

pub record NeedPlaces : Type 0 where
  pub of_an_atom : places (in_region 0) ≡ Some (inside_atom 0 ∷ [])
  pub of_another_atom : places (time Ge 3) ≡ None
  pub of_either_side : places (shapes.And (time Ge 3) (in_region 0)) ≡ Some (inside_atom 0 ∷ [])
  pub of_the_shorter_side : places (shapes.And either_inside (shapes.Atom near_atom)) ≡ Some (near_atom ∷ [])
  pub of_both_sides : places either_inside ≡ Some (inside_atom 0 ∷ inside_atom 1 ∷ [])
  pub of_one_side_alone : places (shapes.Or (in_region 0) (time Ge 3)) ≡ None
  pub of_no_negation : places (shapes.Not (in_region 0)) ≡ None
  pub of_a_goal : places (shapes.Until untils.After 3 (in_region 0) (shapes.Atom near_atom)) ≡ Some (near_atom ∷ [])
  pub of_a_guard : places (shapes.Until untils.Plain 0 (in_region 0) (shapes.Truth true)) ≡ None
  pub of_a_part :
      places (shapes.Assign (0, alone (dynamic 0)) (shapes.Bounded bounds.Always 7 (shapes.Next (in_region 0))))
      ≡ Some (inside_atom 0 ∷ [])
  pub of_nothing_that_holds : places (shapes.Or (shapes.Truth false) (in_region 0)) ≡ Some (inside_atom 0 ∷ [])
