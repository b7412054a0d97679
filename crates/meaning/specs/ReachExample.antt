-- How far ahead formulas see, worked out by hand.
use Rattle.std.specs.Prelude.{◌≡◌, true, None, Some, [], ◌∷◌}
use Rattle.case_table.specs.declared.compare.Op.TheVariants.{Ge, Le}
use Rattle.fixed_point.specs.declared.variants.BoundForm.TheVariants as bounds
use Rattle.fixed_point.specs.declared.variants.UntilForm.TheVariants as untils
use Rattle.formula_shape.specs.Shape as shapes
use Rattle.formula.specs.declared.tree.RAtom.TheVariants as atoms
use Rattle.formula.specs.Reach.{counted, reach}
use Rattle.formula.specs.Tree.{ResolvedTree}
use Rattle.meaning.specs.ExampleParts.{alone, dynamic, time, whole_units}
use Rattle.meaning.specs.PlaceExample.{inside}

-- EVENTUALLY_WITHIN 5 and ALWAYS_FOR 3
abbrev pub within_five : ResolvedTree → ResolvedTree
within_five f = shapes.Bounded bounds.Within 5 f

abbrev pub for_three : ResolvedTree → ResolvedTree
for_three f = shapes.Bounded bounds.Always 3 f

pub record SeesAhead : Type 0 where
  pub comparison : reach (time Ge 3) ≡ Some 0
  pub region : reach inside ≡ Some 0
  pub no_region : reach (shapes.Atom (atoms.Outside 0 0)) ≡ Some 0
  pub distance : reach (shapes.Atom (atoms.Dist 0 1 Le (whole_units 5))) ≡ Some 0
  pub circle : reach (shapes.Atom (atoms.Sphere (whole_units 5) (0 ∷ 1 ∷ []))) ≡ Some 0
  pub constant : reach (shapes.Truth true) ≡ Some 0
  pub negation : reach (shapes.Not (shapes.Next inside)) ≡ Some 1
  pub next : reach (shapes.Next inside) ≡ Some 1
  pub next_but_one : reach (shapes.Next (shapes.Next inside)) ≡ Some 2
  pub eventually_within : reach (within_five inside) ≡ Some 5
  pub always_for : reach (for_three inside) ≡ Some 3
  pub until_within : reach (shapes.Until untils.Within 7 inside (time Ge 3)) ≡ Some 7
  pub nested : reach (within_five (for_three (shapes.Next inside))) ≡ Some 9
  pub until_of_parts : reach (shapes.Until untils.Within 7 (shapes.Next inside) (for_three inside)) ≡ Some 10
  pub greater_of_two : reach (shapes.And (within_five inside) (for_three inside)) ≡ Some 5
  pub either_of_two : reach (shapes.Or (shapes.Next inside) (for_three inside)) ≡ Some 3
  pub assignment : reach (shapes.Assign (0, alone (dynamic 0)) (within_five inside)) ≡ Some 5
  pub eventually : reach (shapes.Eventually inside) ≡ None
  pub always : reach (shapes.Always inside) ≡ None
  pub until : reach (shapes.Until untils.Plain 0 inside inside) ≡ None
  pub eventually_after : reach (shapes.Bounded bounds.After 2 inside) ≡ None
  pub until_after : reach (shapes.Until untils.After 2 inside inside) ≡ None
  pub none_of_two : reach (shapes.And (shapes.Always inside) (for_three inside)) ≡ None
  pub none_within : reach (within_five (shapes.Eventually inside)) ≡ None
  pub past_the_largest_number : counted (reach (shapes.Bounded bounds.Within 4294967295 (shapes.Next inside))) ≡ Some 4294967295
