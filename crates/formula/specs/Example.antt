-- A small formula by number, and what it has, worked out by hand.
use Rattle.std.specs.Prelude.{◌≡◌, ℕ, ◌+◌, ◌*◌, ℤ, pos, negsuc, true, false, List, [], ◌∷◌, Some, None, codes}
use Rattle.case_table.specs.declared.compare.Op.TheVariants as ops
use Rattle.fixed_point.specs.declared.variants.SubName.TheVariants as subs
use Rattle.fixed_point.specs.declared.variants.UntilForm.TheVariants as untils
use Rattle.formula_shape.specs.Shape.{Shape}
use Rattle.formula_shape.specs.Sizes.{nodes, depth, nesting, has_not}
use Rattle.formula.specs.declared.tree.RAtom.TheVariants as atoms
use Rattle.formula.specs.declared.tree.RSigned.{RSigned}
use Rattle.formula.specs.declared.tree.RTerm.{RTerm}
use Rattle.formula.specs.declared.tree.RUnit.{RUnit}
use Rattle.formula.specs.declared.tree.RUnit.TheVariants as units
use Rattle.formula.specs.Bounds.{term_bound}
use Rattle.formula.specs.Resolved.{are_distinct, is_atom, is_formula, is_term, no_scope, with_bound}
use Rattle.formula.specs.Tree.{ResolvedTree}
use Rattle.formula.specs.Variables.{has_variable, variables_of}

abbrev pub plus_factor : RUnit → RSigned
plus_factor unit = record { minus = false; times = None; unit = unit }

abbrev pub minus_factor : RUnit → RSigned
minus_factor unit = record { minus = true; times = None; unit = unit }

abbrev pub times_factor : ℕ → RUnit → RSigned
times_factor k unit = record { minus = false; times = Some k; unit = unit }

-- the first attribute of variable 1, whose values are within a million units
abbrev pub far : RTerm
far = record { factors = plus_factor (units.Attr 1 0 (pos 1000000000)) ∷ [] }

-- twice what was bound, less the value of a dynamic attribute of variable 2
abbrev pub left : RTerm
left = record { factors = times_factor 2 (units.Var 0 (pos 1000000000)) ∷ minus_factor (units.Sub 2 1 subs.Value) ∷ [] }

-- TIME - 3
abbrev pub right : RTerm
right = record { factors = plus_factor units.Time ∷ minus_factor (units.Literal (pos 3000)) ∷ [] }

-- INSIDE(0,7) UNTIL_WITHIN 5 [0 <- far] (left <= right AND NOT WITHIN_SPHERE(1,0,3,0))
abbrev pub sample : ResolvedTree
sample =
    let circle = Shape.Atom (atoms.Sphere (pos 1000) (0 ∷ 3 ∷ 0 ∷ [])) in
    Shape.Until untils.Within 5
    (Shape.Atom (atoms.Inside 0 7))
    (Shape.Assign (0, far) (Shape.And (Shape.Atom (atoms.Compare left ops.Le right)) (Shape.Not circle)))

pub record HasVariables : Type 0 where
  pub all : variables_of sample ≡ 0 ∷ 1 ∷ 2 ∷ 3 ∷ []
  pub no_more : has_variable 4 sample ≡ false
  pub of_an_assignment : variables_of (Shape.Assign (0, far) (Shape.Truth true)) ≡ 1 ∷ []
  pub of_the_right_term : variables_of (Shape.Atom (atoms.Compare right ops.Eq left)) ≡ 2 ∷ []
  pub ascending : variables_of (Shape.Next (Shape.Atom (atoms.Dist 3 1 ops.Lt (pos 5)))) ≡ 1 ∷ 3 ∷ []
  pub of_an_outside : variables_of (Shape.Atom (atoms.Outside 2 0)) ≡ 2 ∷ []
  pub of_a_term_without : variables_of (Shape.Atom (atoms.Compare right ops.Eq right)) ≡ []

pub record HasBounds : Type 0 where
  pub attribute : term_bound far ≡ 1000000000
  pub multiplied : term_bound left ≡ 2 * 1000000000 + 1001000000000000
  pub subtracted : term_bound right ≡ 1000000003000
  pub text : term_bound (record { factors = plus_factor (units.Text (codes "AB")) ∷ [] }) ≡ 0
  pub negative : term_bound (record { factors = plus_factor (units.Literal (negsuc 4)) ∷ [] }) ≡ 5
  pub times_nothing :
      term_bound (record { factors = times_factor 0 units.Time ∷ plus_factor (units.Sub 0 0 subs.Function) ∷ [] }) ≡ 1000000
  pub update_time : term_bound (record { factors = times_factor 3 (units.Sub 0 0 subs.UpdateTime) ∷ [] }) ≡ 3000000000000

pub record HasSizes : Type 0 where
  pub nodes_are : nodes sample ≡ 7
  pub depth_is : depth sample ≡ 5
  pub nesting_is : nesting sample ≡ 1
  pub not_is_there : has_not sample ≡ true

abbrev pub one_comparison : ResolvedTree
one_comparison = Shape.Atom (atoms.Compare left ops.Le right)

abbrev pub circle_of : ℤ → List ℕ → ResolvedTree
circle_of radius vs = Shape.Atom (atoms.Sphere radius vs)

-- so many times the largest tick, and so many thousandths
abbrev pub clock_times : ℕ → ℕ → RTerm
clock_times k n = record { factors = times_factor k units.Time ∷ plus_factor (units.Literal (pos n)) ∷ [] }

pub record IsRightByNumber : Type 0 where
  pub sample_is : is_formula 4 0 no_scope sample ≡ true
  pub a_variable_past_the_last : is_formula 3 0 no_scope sample ≡ false
  pub at_another_depth : is_formula 4 1 no_scope sample ≡ false
  pub out_of_scope : is_formula 4 0 no_scope one_comparison ≡ false
  pub atom_alone : is_atom 4 (with_bound no_scope 0 1000000000) (atoms.Compare left ops.Le right) ≡ true
  pub with_another_bound : is_formula 4 0 no_scope (Shape.Assign (0, right) one_comparison) ≡ false
  pub a_third_assignment :
      is_formula 1 0 no_scope
      (Shape.Assign (0, right) (Shape.Assign (1, right) (Shape.Assign (2, right) (Shape.Truth true)))) ≡ false
  pub without_factors : is_term 1 no_scope (record { factors = [] }) ≡ false
  pub largest_bound : is_term 1 no_scope (clock_times 1000000 0) ≡ true
  pub past_the_largest_bound : is_term 1 no_scope (clock_times 1000000 1) ≡ false
  pub past_the_largest_multiplier : is_term 1 no_scope (clock_times 1000001 0) ≡ false
  pub largest_radius : is_formula 1 0 no_scope (circle_of (pos 1000000) (0 ∷ [])) ≡ true
  pub past_the_largest_radius : is_formula 1 0 no_scope (circle_of (pos 1000001) (0 ∷ [])) ≡ false
  pub negative_radius : is_formula 1 0 no_scope (circle_of (negsuc 0) (0 ∷ [])) ≡ false
  pub circle_of_none : is_formula 1 0 no_scope (circle_of (pos 1000) []) ≡ false
  pub plain_until_with_ticks :
      is_formula 1 0 no_scope (Shape.Until untils.Plain 1 (Shape.Truth true) (Shape.Truth true)) ≡ false
  pub differ : are_distinct (2 ∷ 0 ∷ []) ≡ true
  pub agree : are_distinct (2 ∷ 0 ∷ 2 ∷ []) ≡ false
