-- Read bounds, worked out by hand.
use Rattle.std.specs.Prelude.{◌≡◌, ℕ, ◌+◌, ◌*◌, List, [], ◌∷◌, codes}
use Rattle.case_table.specs.declared.compare.Op.TheVariants.{Ge, Le}
use Rattle.history.specs.Catalog.{Catalog, catalog}
use Rattle.history.specs.Write.{Insert}
use Rattle.formula_shape.specs.Shape as shapes
use Rattle.formula.specs.declared.tree.RAtom.TheVariants as atoms
use Rattle.formula.specs.declared.tree.RUnit.TheVariants as units
use Rattle.formula.specs.declared.kind.QueryKind.TheVariants.{Keep, Watch}
use Rattle.formula.specs.Tree.{ResolvedTree}
use Rattle.meaning.specs.ExampleParts.{alone, car_class, compare, dynamic, literal_term, pairs_query, whole_units}
use Rattle.meaning.specs.Reads.{change_reads, query_reads, reads, write_reads}
use Rattle.meaning.specs.Registered.{RegisteredQuery}
use Rattle.meaning.specs.PastExample.{cars_nearby}
use Rattle.motion.specs.Cells.{nowhere}

-- each variable has three objects
abbrev pub three : ℕ → ℕ
three v = 3

abbrev pub inside_formula : ℕ → ResolvedTree
inside_formula v = shapes.Atom (atoms.Inside v 0)

-- [v <- o.x] DIST(o,n) <= 1
abbrev pub bound_distance : ResolvedTree
bound_distance = shapes.Assign (0, alone (dynamic 0)) (shapes.Atom (atoms.Dist 0 1 Le (whole_units 1)))

-- three cars
abbrev pub three_cars : Catalog
three_cars =
    catalog
    (car_class
    ∷ Insert 0 (codes "car") (codes "a") nowhere []
    ∷ Insert 0 (codes "car") (codes "b") nowhere []
    ∷ Insert 0 (codes "car") (codes "c") nowhere []
    ∷ [])

-- a watched query of these up to tick 9, and a kept one up to tick 4
abbrev pub two_queries : List RegisteredQuery
two_queries =
    record { kind = Watch; query = cars_nearby; entry = 0; expiry = 9 }
    ∷ record { kind = Keep; query = cars_nearby; entry = 0; expiry = 4 }
    ∷ []

pub record TakesReads : Type 0 where
  pub of_one : reads three 10 (inside_formula 0) ≡ 3
  pub of_two : reads three 10 (shapes.Atom (atoms.Dist 0 1 Le (whole_units 1))) ≡ 18
  pub of_one_twice : reads three 10 (shapes.Atom (atoms.Sphere (whole_units 1) (0 ∷ 0 ∷ []))) ≡ 3
  pub of_the_clock : reads three 10 (compare (alone units.Time) Ge (literal_term 4)) ≡ 0
  pub of_parts : query_reads three 10 (pairs_query (shapes.And (inside_formula 0) (inside_formula 1))) ≡ 12
  pub of_an_assignment : reads three 10 bound_distance ≡ 3 * (1 + 10 * 6)
  pub of_a_change : change_reads three_cars cars_nearby 10 0 ≡ 20
  pub of_another_class : change_reads three_cars cars_nearby 10 1 ≡ 0
  pub of_a_write : write_reads three_cars two_queries 4 0 ≡ 40
  pub past_an_expiry : write_reads three_cars two_queries 5 0 ≡ 20
