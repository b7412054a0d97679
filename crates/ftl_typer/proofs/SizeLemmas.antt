-- How many names and terms are written in a formula whose sizes are within their limits, and the sizes of a query that is
-- within all of them.
use Rattle.std.proofs.Common.{◌≡◌, ℕ, ◌*◌, ◌≤◌, Bool, true, false, List, [], ◌∷◌, length, None, suc, ℤ, refl, ap, ◌∙◌, arith, length-append}
use Rattle.std.specs.List.{AllByRecursion, flat_map}
use Rattle.exact.specs.First.{first_that_holds}
use Rattle.exact.proofs.Naturals.{at_most_from_not_below}
use Rattle.formula_shape.specs.Shape as shapes
use Rattle.formula_shape.specs.Sizes.{nodes, depth, nesting}
use Rattle.ftl_parser.specs.declared.fault.Size.{Size}
use Rattle.formula_shape.specs.declared.limits.TheConstants.{DEPTH_LIMIT, FACTOR_LIMIT, NESTING_LIMIT, NODE_LIMIT, OBJECT_LIMIT}
use Rattle.ftl_parser.specs.declared.tree.Atom as atom_type
use Rattle.ftl_parser.specs.declared.tree.Atom.TheVariants as atoms
use Rattle.ftl_parser.specs.declared.tree.Signed.{Signed}
use Rattle.ftl_parser.specs.declared.tree.Unit as unit_type
use Rattle.ftl_parser.specs.declared.tree.Unit.TheVariants as units
use Rattle.ftl_parser.specs.Lawful.{IsLawful}
use Rattle.ftl_parser.specs.Order.{atom_names, atom_terms, factors_list, formula_names, formula_terms, names_alone, term_names, unit_names}
use Rattle.ftl_parser.specs.Sizes.{atom_factors, atom_objects, factors, first_too_large, objects, passed}
use Rattle.ftl_parser.specs.Tree.{QueryTree, Tree}

unit_few : (u : unit_type.Unit) → length (unit_names u) ≤ 2
unit_few (units.Literal n) = omega arith
unit_few (units.Text text) = omega arith
unit_few (units.Alone name) = omega arith
unit_few (units.Attr o a) = omega arith
unit_few (units.Sub o a part) = omega arith
unit_few units.Time = omega arith

factors_few : (fs : List Signed) → length (factors_list names_alone fs) ≤ 2 * length fs
factors_few [] = omega arith
factors_few (f ∷ fs) =
    omega (arith, length-append (unit_names f.unit) (factors_list names_alone fs), unit_few f.unit, factors_few fs)

pub circle_names : (names : List (List ℕ)) → length (flat_map names_alone.name names) ≡ length names
circle_names [] = refl
circle_names (name ∷ names) = ap suc (circle_names names)

-- a circle has the names of its objects
pub sphere_names : (a : atom_type.Atom) (r : ℤ) (names : List (List ℕ)) → a ≡ atoms.Sphere r names →
    length (atom_names a) ≡ length names
sphere_names a r names is = ap (λ (b : atom_type.Atom). length (atom_names b)) is ∙ circle_names names

atom_few : (a : atom_type.Atom) → atom_factors a ≤ FACTOR_LIMIT → atom_objects a ≤ OBJECT_LIMIT → length (atom_names a) ≤ 64
atom_few (atoms.Compare t op u) few circle =
    omega (arith, length-append (term_names t) (term_names u), factors_few t.factors, factors_few u.factors, few)
atom_few (atoms.Inside o region) few circle = omega arith
atom_few (atoms.Outside o region) few circle = omega arith
atom_few (atoms.Dist o n op c) few circle = omega arith
atom_few (atoms.Sphere r names) few circle = omega (arith, circle_names names, circle)

pub names_few : (f : Tree) → factors f ≤ FACTOR_LIMIT → objects f ≤ OBJECT_LIMIT → length (formula_names f) ≤ 64 * nodes f
names_few (shapes.Truth b) few circle = omega arith
names_few (shapes.Atom a) few circle = omega (arith, atom_few a few circle)
names_few (shapes.Not f) few circle = omega (arith, names_few f few circle)
names_few (shapes.And f g) few circle =
    omega (arith, length-append (formula_names f) (formula_names g), names_few f (omega arith) (omega arith), names_few g (omega arith) (omega arith))
names_few (shapes.Or f g) few circle =
    omega (arith, length-append (formula_names f) (formula_names g), names_few f (omega arith) (omega arith), names_few g (omega arith) (omega arith))
names_few (shapes.Next f) few circle = omega (arith, names_few f few circle)
names_few (shapes.Eventually f) few circle = omega (arith, names_few f few circle)
names_few (shapes.Always f) few circle = omega (arith, names_few f few circle)
names_few (shapes.Bounded form ticks f) few circle = omega (arith, names_few f few circle)
names_few (shapes.Until form ticks f g) few circle =
    omega (arith, length-append (formula_names f) (formula_names g), names_few f (omega arith) (omega arith), names_few g (omega arith) (omega arith))
names_few (shapes.Assign (name, t) f) few circle =
    omega (arith, length-append (name ∷ term_names t) (formula_names f), factors_few t.factors, names_few f (omega arith) (omega arith))

atom_terms_few : (a : atom_type.Atom) → length (atom_terms a) ≤ 2
atom_terms_few (atoms.Compare t op u) = omega arith
atom_terms_few (atoms.Inside o region) = omega arith
atom_terms_few (atoms.Outside o region) = omega arith
atom_terms_few (atoms.Dist o n op c) = omega arith
atom_terms_few (atoms.Sphere r names) = omega arith

pub terms_few : (f : Tree) → length (formula_terms f) ≤ 2 * nodes f
terms_few (shapes.Truth b) = omega arith
terms_few (shapes.Atom a) = omega (arith, atom_terms_few a)
terms_few (shapes.Not f) = omega (arith, terms_few f)
terms_few (shapes.And f g) = omega (arith, length-append (formula_terms f) (formula_terms g), terms_few f, terms_few g)
terms_few (shapes.Or f g) = omega (arith, length-append (formula_terms f) (formula_terms g), terms_few f, terms_few g)
terms_few (shapes.Next f) = omega (arith, terms_few f)
terms_few (shapes.Eventually f) = omega (arith, terms_few f)
terms_few (shapes.Always f) = omega (arith, terms_few f)
terms_few (shapes.Bounded form ticks f) = omega (arith, terms_few f)
terms_few (shapes.Until form ticks f g) = omega (arith, length-append (formula_terms f) (formula_terms g), terms_few f, terms_few g)
terms_few (shapes.Assign (name, t) f) = omega (arith, terms_few f)

-- no condition of a list holds: the first doesn't, and none of the later ones
none_holds : (size : Size) (b : Bool) (later : List (Size × Bool)) → first_that_holds ((size, b) ∷ later) ≡ None →
    (b ≡ false) × (first_that_holds later ≡ None)
none_holds size true later h = let none : ⊥ = cc in absurd none
none_holds size false later h = (refl, h)

none_hold : (tests : List (Size × Bool)) → first_that_holds tests ≡ None → AllByRecursion (λ (test : Size × Bool). test.1 ≡ false) tests
none_hold [] h = tt
none_hold (test ∷ tests) h = let parts = none_holds test.0 test.1 tests h in (parts.0, none_hold tests parts.1)

pub record IsSmall (q : QueryTree) : Type 0 where
  pub few_variables : length q.from ≤ OBJECT_LIMIT
  pub few_objects : objects q.formula ≤ OBJECT_LIMIT
  pub few_nested : nesting q.formula ≤ NESTING_LIMIT
  pub few_nodes : nodes q.formula ≤ NODE_LIMIT
  pub low : depth q.formula ≤ DEPTH_LIMIT
  pub few_factors : factors q.formula ≤ FACTOR_LIMIT

-- a query of which no size passes its limit
pub small_query : (q : QueryTree) → first_too_large false q ≡ None → IsSmall q
small_query q h =
    let none = none_hold (passed false q) h in
    record {
      few_variables = at_most_from_not_below OBJECT_LIMIT (length q.from) none.0;
      few_objects = at_most_from_not_below OBJECT_LIMIT (objects q.formula) none.1.0;
      few_nested = at_most_from_not_below NESTING_LIMIT (nesting q.formula) none.1.1.0;
      few_nodes = at_most_from_not_below NODE_LIMIT (nodes q.formula) none.1.1.1.0;
      low = at_most_from_not_below DEPTH_LIMIT (depth q.formula) none.1.1.1.1.0;
      few_factors = at_most_from_not_below FACTOR_LIMIT (factors q.formula) none.1.1.1.1.1.1.0;
    }

-- ---- queries that are to be resolved

pub lawful_sizes : (q : QueryTree) → IsLawful q → IsSmall q
lawful_sizes q lawful = small_query q lawful.small

pub few_names : (q : QueryTree) → IsLawful q → length (formula_names q.formula) ≤ 64 * NODE_LIMIT
few_names q lawful =
    let small = lawful_sizes q lawful in omega (arith, names_few q.formula small.few_factors small.few_objects, small.few_nodes)

pub few_terms : (q : QueryTree) → IsLawful q → length (formula_terms q.formula) ≤ 2 * NODE_LIMIT
few_terms q lawful = let small = lawful_sizes q lawful in omega (arith, terms_few q.formula, small.few_nodes)
