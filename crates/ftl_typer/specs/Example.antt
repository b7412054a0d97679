-- Queries with their first fault and its place, worked out by hand.
use Rattle.std.specs.Prelude.{◌≡◌, ℕ, pos, true, false, Option, None, Some, List, [], ◌∷◌, codes}
use Rattle.case_table.specs.declared.compare.Op.{Op}
use Rattle.case_table.specs.declared.compare.Op.TheVariants.{Eq, Le, Ne}
use Rattle.fixed_point.specs.declared.variants.SubName.TheVariants as subs
use Rattle.motion.specs.declared.cell.AttrKind.TheVariants as kinds
use Rattle.geometry.specs.Region.{Region}
use Rattle.history.specs.Catalog.{ClassInfo, catalog}
use Rattle.history.specs.Write.{Class}
use Rattle.formula_shape.specs.Shape as shapes
use Rattle.formula.specs.declared.tree.RAtom.TheVariants as ratoms
use Rattle.formula.specs.declared.tree.RTerm.{RTerm}
use Rattle.formula.specs.declared.tree.RUnit.{RUnit}
use Rattle.formula.specs.declared.tree.RUnit.TheVariants as runits
use Rattle.ftl_parser.specs.declared.tree.Atom.TheVariants as atoms
use Rattle.ftl_parser.specs.declared.tree.FromPart.{FromPart}
use Rattle.ftl_parser.specs.declared.tree.Signed.{Signed}
use Rattle.ftl_parser.specs.declared.tree.Term.{Term}
use Rattle.ftl_parser.specs.declared.tree.Unit as unit_type
use Rattle.ftl_parser.specs.declared.tree.Unit.TheVariants as units
use Rattle.ftl_parser.specs.Tree.{QueryTree, Tree}
use Rattle.ftl_parser.specs.Grammar.{from_part, term_of}
use Rattle.ftl_typer.specs.declared.fault.TypeFault.{TypeFault}
use Rattle.ftl_typer.specs.declared.fault.TypeFault.TheVariants.{UnknownName, NameTaken, WrongKind, TermRange}
use Rattle.ftl_typer.specs.Faults.{faults}
use Rattle.ftl_typer.specs.First.{first_fault}
use Rattle.ftl_typer.specs.Resolved.{resolved}

-- cars, which are points with fuel, a plate and a temperature; posts, which are no points and have a height
abbrev pub car_and_post_classes : List ClassInfo
car_and_post_classes =
    (catalog
    (Class (codes "car") 9 true
    (record { name = codes "fuel"; kind = kinds.Num }
    ∷ record { name = codes "plate"; kind = kinds.Text }
    ∷ record { name = codes "temp"; kind = kinds.Dyn }
    ∷ [])
    ∷ Class (codes "post") 9 false (record { name = codes "h"; kind = kinds.Num } ∷ [])
    ∷ [])).classes

abbrev pub one_region : List Region
one_region = record { name = codes "P"; points = [] } ∷ []

-- ---- parts of queries

abbrev pub plus_unit : unit_type.Unit → Signed
plus_unit unit = record { minus = false; times = None; unit = unit }

abbrev pub minus_unit : unit_type.Unit → Signed
minus_unit unit = record { minus = true; times = None; unit = unit }

abbrev pub times_unit : ℕ → unit_type.Unit → Signed
times_unit k unit = record { minus = false; times = Some k; unit = unit }

abbrev pub unit_term : unit_type.Unit → Term
unit_term unit = term_of (plus_unit unit ∷ [])

abbrev pub of_o : List ℕ → unit_type.Unit
of_o a = units.Attr (codes "o") a

abbrev pub number_term : ℕ → Term
number_term n = unit_term (units.Literal (pos n))

abbrev pub text_term : List ℕ → Term
text_term t = unit_term (units.Text t)

abbrev pub named_value : List ℕ → Term
named_value v = unit_term (units.Alone v)

abbrev pub comparison_of : Term → Op → Term → Tree
comparison_of t op u = shapes.Atom (atoms.Compare t op u)

abbrev pub bind : List ℕ → Term → Tree → Tree
bind v t f = shapes.Assign (v, t) f

abbrev pub query_from : List FromPart → List (List ℕ) → Tree → QueryTree
query_from parts targets f = record { targets = targets; from = parts; formula = f }

-- RETRIEVE o FROM car o WHERE f: three names stand before the formula
abbrev pub cars_query : Tree → QueryTree
cars_query f = query_from (from_part (codes "car") (codes "o") ∷ []) (codes "o" ∷ []) f

-- RETRIEVE o FROM car o,post n WHERE f: five names stand before it
abbrev pub of_both : Tree → QueryTree
of_both f = query_from (from_part (codes "car") (codes "o") ∷ from_part (codes "post") (codes "n") ∷ []) (codes "o" ∷ []) f

abbrev pub fault_found : QueryTree → Option TypeFault
fault_found q = first_fault (faults car_and_post_classes one_region q)

abbrev pub fault_in : Tree → Option TypeFault
fault_in f = fault_found (cars_query f)

-- o.x so many times, and so many thousandths
abbrev pub x_times : ℕ → Term
x_times k = term_of (times_unit k (of_o (codes "x")) ∷ [])

abbrev pub clock_times_less : ℕ → ℕ → Term
clock_times_less k n = term_of (times_unit k units.Time ∷ minus_unit (units.Literal (pos n)) ∷ [])

pub record KnowsNames : Type 0 where
  pub all_known : fault_in (comparison_of (unit_term (of_o (codes "fuel"))) Le (number_term 4)) ≡ None
  pub unknown_class : fault_found (query_from (from_part (codes "bus") (codes "o") ∷ []) (codes "o" ∷ []) (shapes.Truth true)) ≡ Some (UnknownName 1)
  pub unknown_target : fault_found (query_from (from_part (codes "car") (codes "o") ∷ []) (codes "n" ∷ []) (shapes.Truth true)) ≡ Some (UnknownName 0)
  pub unknown_alone : fault_in (comparison_of (named_value (codes "v")) Le (number_term 3)) ≡ Some (UnknownName 3)
  pub unknown_attribute : fault_in (comparison_of (unit_term (of_o (codes "zz"))) Le (number_term 3)) ≡ Some (UnknownName 4)
  pub unknown_before_a_point : fault_in (comparison_of (unit_term (units.Attr (codes "n") (codes "x"))) Le (number_term 3)) ≡ Some (UnknownName 3)
  pub unknown_region : fault_in (shapes.Atom (atoms.Outside (codes "o") (codes "R"))) ≡ Some (UnknownName 4)
  pub unknown_in_a_circle : fault_in (shapes.Atom (atoms.Sphere (pos 1000) (codes "o" ∷ codes "m" ∷ codes "n" ∷ []))) ≡ Some (UnknownName 4)
  -- [o <- 1] o.zz <= 3
  pub unknown_before_taken : fault_in (bind (codes "o") (number_term 1000) (comparison_of (unit_term (of_o (codes "zz"))) Le (number_term 3))) ≡ Some (UnknownName 5)
  -- FROM car o,post o: o.h is looked up in car
  pub of_the_first_variable :
      fault_found (query_from (from_part (codes "car") (codes "o") ∷ from_part (codes "post") (codes "o") ∷ []) (codes "o" ∷ [])
      (comparison_of (unit_term (of_o (codes "h"))) Le (number_term 1)))
      ≡ Some (UnknownName 6)
  -- [v <- v] TRUE
  pub not_in_its_own_term : fault_in (bind (codes "v") (named_value (codes "v")) (shapes.Truth true)) ≡ Some (UnknownName 4)
  -- [v <- 1] v = 1 AND v = 2
  pub not_beside_its_formula :
      fault_in (shapes.And (bind (codes "v") (number_term 1000) (comparison_of (named_value (codes "v")) Eq (number_term 1000))) (comparison_of (named_value (codes "v")) Eq (number_term 2000)))
      ≡ Some (UnknownName 5)

pub record KnowsTakenNames : Type 0 where
  pub target_twice : fault_found (query_from (from_part (codes "car") (codes "o") ∷ []) (codes "o" ∷ codes "o" ∷ []) (shapes.Truth true)) ≡ Some (NameTaken 1)
  pub variable_twice :
      fault_found (query_from (from_part (codes "car") (codes "o") ∷ from_part (codes "post") (codes "o") ∷ []) (codes "o" ∷ [])
      (comparison_of (unit_term (of_o (codes "fuel"))) Le (number_term 1)))
      ≡ Some (NameTaken 4)
  -- [o <- 1] o.x <= 3
  pub assigned_variable : fault_in (bind (codes "o") (number_term 1000) (comparison_of (unit_term (of_o (codes "x"))) Le (number_term 3))) ≡ Some (NameTaken 3)
  pub assigned_twice : fault_in (bind (codes "v") (number_term 1) (bind (codes "v") (number_term 2) (shapes.Truth true))) ≡ Some (NameTaken 4)
  pub beside_each_other : fault_in (shapes.Or (bind (codes "v") (number_term 1) (shapes.Truth true)) (bind (codes "v") (number_term 2) (shapes.Truth true))) ≡ None

pub record KnowsKinds : Type 0 where
  pub variable_alone : fault_in (comparison_of (named_value (codes "o")) Le (number_term 3)) ≡ Some (WrongKind 3)
  pub texts : fault_in (comparison_of (unit_term (of_o (codes "plate"))) Ne (text_term (codes "AB"))) ≡ None
  pub texts_by_order : fault_in (comparison_of (unit_term (of_o (codes "plate"))) Le (text_term (codes "AB"))) ≡ Some (WrongKind 3)
  -- o.fuel <= o.fuel + o.plate: both terms are at fault, the first place counts
  pub number_with_text :
      fault_in (comparison_of (unit_term (of_o (codes "fuel"))) Le (term_of (plus_unit (of_o (codes "fuel")) ∷ plus_unit (of_o (codes "plate")) ∷ [])))
      ≡ Some (WrongKind 3)
  -- o.plate = 2 * o.plate
  pub text_with_a_multiplier : fault_in (comparison_of (unit_term (of_o (codes "plate"))) Eq (term_of (times_unit 2 (of_o (codes "plate")) ∷ []))) ≡ Some (WrongKind 5)
  pub text_with_a_sign : fault_in (bind (codes "v") (term_of (minus_unit (of_o (codes "plate")) ∷ [])) (shapes.Truth true)) ≡ Some (WrongKind 4)
  pub part_of_a_number : fault_in (comparison_of (unit_term (units.Sub (codes "o") (codes "fuel") subs.Value)) Le (number_term 1)) ≡ Some (WrongKind 4)
  -- [v <- o.plate] v = 1
  pub text_is_bound : fault_in (bind (codes "v") (unit_term (of_o (codes "plate"))) (comparison_of (named_value (codes "v")) Eq (number_term 1))) ≡ Some (WrongKind 6)
  pub value_is_no_object : fault_in (bind (codes "v") (number_term 1) (shapes.Atom (atoms.Inside (codes "v") (codes "P")))) ≡ Some (WrongKind 4)
  pub no_point : fault_found (of_both (shapes.Atom (atoms.Dist (codes "o") (codes "n") Le (pos 1)))) ≡ Some (WrongKind 6)

pub record KnowsRanges : Type 0 where
  pub within : fault_in (comparison_of (x_times 999) Le (number_term 5)) ≡ None
  pub past : fault_in (comparison_of (x_times 1000) Le (number_term 5)) ≡ Some (TermRange 0)
  pub on_the_right : fault_in (comparison_of (number_term 5) Le (x_times 1000)) ≡ Some (TermRange 1)
  pub largest : fault_in (comparison_of (clock_times_less 1000000 0) Le (number_term 0)) ≡ None
  pub one_past : fault_in (comparison_of (clock_times_less 1000000 1) Le (number_term 0)) ≡ Some (TermRange 0)
  -- [v <- 2 * TIME] k * v <= 0
  pub largest_bound_value :
      fault_in (bind (codes "v") (term_of (times_unit 2 units.Time ∷ [])) (comparison_of (term_of (times_unit 500000 (units.Alone (codes "v")) ∷ [])) Le (number_term 0))) ≡ None
  pub past_a_bound_value :
      fault_in (bind (codes "v") (term_of (times_unit 2 units.Time ∷ [])) (comparison_of (term_of (times_unit 500001 (units.Alone (codes "v")) ∷ [])) Le (number_term 0)))
      ≡ Some (TermRange 1)
  -- 1000 * o.x <= 5 AND o = 1: the least kind comes first
  pub behind_other_kinds : fault_in (shapes.And (comparison_of (x_times 1000) Le (number_term 5)) (comparison_of (named_value (codes "o")) Eq (number_term 1))) ≡ Some (WrongKind 5)

abbrev pub by_number : RUnit → RTerm
by_number unit = record { factors = record { minus = false; times = None; unit = unit } ∷ [] }

-- RETRIEVE n FROM car o,post n WHERE [v <- n.h] (v <= o.temp AND INSIDE(o,P))
pub record IsResolvedByHand : Type 0 where
  pub result_is :
      resolved car_and_post_classes one_region
      (query_from (from_part (codes "car") (codes "o") ∷ from_part (codes "post") (codes "n") ∷ []) (codes "n" ∷ [])
      (bind (codes "v") (unit_term (units.Attr (codes "n") (codes "h")))
      (shapes.And (comparison_of (named_value (codes "v")) Le (unit_term (of_o (codes "temp")))) (shapes.Atom (atoms.Inside (codes "o") (codes "P"))))))
      ≡ record {
        targets = 1 ∷ [];
        classes = 0 ∷ 1 ∷ [];
        formula =
            shapes.Assign (0, by_number (runits.Attr 1 0 (pos 1000000000000)))
            (shapes.And
            (shapes.Atom (ratoms.Compare (by_number (runits.Var 0 (pos 1000000000000))) Le (by_number (runits.Attr 0 4 (pos 1001000000000000)))))
            (shapes.Atom (ratoms.Inside 0 0)));
      }
