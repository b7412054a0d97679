-- What fits the classes of its variables and what doesn't, worked out by hand.
use Rattle.std.specs.Prelude.{◌≡◌, ℕ, ℤ, pos, Bool, true, false, Option, None, Some, [], ◌∷◌, codes}
use Rattle.case_table.specs.declared.compare.Op.{Op}
use Rattle.case_table.specs.declared.compare.Op.TheVariants.{Eq, Le, Lt}
use Rattle.fixed_point.specs.declared.variants.SubName.TheVariants as subs
use Rattle.motion.specs.declared.cell.AttrKind.TheVariants as kinds
use Rattle.history.specs.Catalog.{Catalog, catalog}
use Rattle.history.specs.Write.{Class}
use Rattle.formula_shape.specs.Shape as shapes
use Rattle.formula.specs.declared.tree.RAtom.{RAtom}
use Rattle.formula.specs.declared.tree.RAtom.TheVariants as atoms
use Rattle.formula.specs.declared.tree.RTerm.{RTerm}
use Rattle.formula.specs.declared.tree.RUnit.{RUnit}
use Rattle.formula.specs.declared.tree.RUnit.TheVariants as units
use Rattle.formula.specs.Example.{minus_factor, plus_factor}
use Rattle.formula.specs.Tree.{ResolvedTree}
use Rattle.formula.specs.declared.value.ValueKind.{ValueKind}
use Rattle.formula.specs.declared.value.ValueKind.TheVariants.{Number, Text}
use Rattle.meaning.specs.ExampleParts.{alone, attribute, compare, literal_term, whole_units}
use Rattle.meaning.specs.Fits.{atom_fits, formula_fits, no_kinds, term_kind}

-- cars with a plate and a number of seats, after x and y, and depots without attributes
abbrev pub two_classes : Catalog
two_classes =
    catalog
    (Class (codes "car") 9 true (attribute (codes "plate") kinds.Text ∷ attribute (codes "seats") kinds.Num ∷ [])
    ∷ Class (codes "depot") 9 false []
    ∷ [])

-- of a query FROM car o,depot n, where there is one region
abbrev pub kind : RTerm → Option ValueKind
kind q = term_kind two_classes (0 ∷ 1 ∷ []) no_kinds q

abbrev pub atom_is_right : RAtom → Bool
atom_is_right a = atom_fits two_classes (0 ∷ 1 ∷ []) 1 no_kinds a

abbrev pub formula_is_right : ResolvedTree → Bool
formula_is_right f = formula_fits two_classes (0 ∷ 1 ∷ []) 1 no_kinds f

abbrev pub attribute_value : ℕ → ℕ → ℤ → RTerm
attribute_value v a size = alone (units.Attr v a size)

abbrev pub text_unit : RUnit
text_unit = units.Text (codes "AB")

abbrev pub bound : RTerm
bound = alone (units.Var 0 (pos 0))

-- [v <- o.plate] v op a term
abbrev pub bound_plate : Op → RTerm → ResolvedTree
bound_plate op q = shapes.Assign (0, attribute_value 0 2 (pos 0)) (compare bound op q)

pub record FitsTheClasses : Type 0 where
  pub of_a_point : kind (attribute_value 0 1 (pos 1001000000000000)) ≡ Some Number
  pub of_a_number : kind (attribute_value 0 3 (pos 1000000000000)) ≡ Some Number
  pub of_a_text : kind (attribute_value 0 2 (pos 0)) ≡ Some Text
  pub with_another_bound : kind (attribute_value 0 3 (pos 1001000000000000)) ≡ None
  pub no_such_attribute : kind (attribute_value 0 4 (pos 0)) ≡ None
  pub of_another_class : kind (attribute_value 1 0 (pos 1001000000000000)) ≡ None
  pub no_such_variable : kind (attribute_value 2 0 (pos 1001000000000000)) ≡ None
  pub slope_of_a_point : kind (alone (units.Sub 0 0 subs.Function)) ≡ Some Number
  pub slope_of_a_number : kind (alone (units.Sub 0 3 subs.Function)) ≡ None
  pub text_with_a_sign : kind (record { factors = minus_factor text_unit ∷ [] }) ≡ None
  pub text_in_a_sum : kind (record { factors = plus_factor text_unit ∷ plus_factor units.Time ∷ [] }) ≡ None
  pub nothing_is_bound : kind bound ≡ None
  pub text_is_bound : formula_is_right (bound_plate Eq (alone text_unit)) ≡ true
  pub text_is_not_below : formula_is_right (bound_plate Lt (alone text_unit)) ≡ false
  pub text_is_no_number : formula_is_right (bound_plate Eq (literal_term 1)) ≡ false
  pub bound_for_its_part_alone :
      formula_is_right (shapes.And (bound_plate Eq (alone text_unit)) (compare bound Eq (alone text_unit))) ≡ false
  pub point_inside : atom_is_right (atoms.Inside 0 0) ≡ true
  pub no_such_region : atom_is_right (atoms.Outside 0 1) ≡ false
  pub no_point_inside : atom_is_right (atoms.Inside 1 0) ≡ false
  pub distance_of_a_point_to_itself : atom_is_right (atoms.Dist 0 0 Le (whole_units 1)) ≡ true
  pub distance_to_no_point : atom_is_right (atoms.Dist 0 1 Le (whole_units 1)) ≡ false
  pub circle_of_no_point : atom_is_right (atoms.Sphere (whole_units 1) (0 ∷ 1 ∷ [])) ≡ false
