-- What the worked examples are made of.
use Rattle.std.specs.Prelude.{ℕ, ◌*◌, ℤ, pos, negsuc, true, None, Some, List, [], ◌∷◌, codes}
use Rattle.case_table.specs.declared.compare.Op.{Op}
use Rattle.fixed_point.specs.declared.number.Point.{Point}
use Rattle.geometry.specs.Region.{Region}
use Rattle.motion.specs.Function.{Function, level}
use Rattle.motion.specs.declared.cell.AttrKind.{AttrKind}
use Rattle.motion.specs.declared.cell.Given.{Given}
use Rattle.motion.specs.declared.cell.NamedSet.{NamedSet}
use Rattle.motion.specs.declared.cell.Place.{Place}
use Rattle.history.specs.Write.{Attribute, Write, Class, Insert}
use Rattle.history.specs.World.{World, world_of}
use Rattle.formula_shape.specs.Shape as shapes
use Rattle.formula.specs.declared.tree.RAtom.TheVariants as atoms
use Rattle.formula.specs.declared.tree.RTerm.{RTerm}
use Rattle.formula.specs.declared.tree.RUnit.{RUnit}
use Rattle.formula.specs.declared.tree.RUnit.TheVariants as units
use Rattle.formula.specs.Example.{plus_factor}
use Rattle.formula.specs.Tree.{ResolvedQuery, ResolvedTree}
use Rattle.meaning.specs.Answer.{Row}

-- a number of whole units in thousandths
abbrev pub whole_units : ℕ → ℤ
whole_units n = pos (1000 * n)

abbrev pub at_point : ℕ → ℕ → Point
at_point x y = record { x = whole_units x; y = whole_units y }

-- one leg of so many units a tick
abbrev pub speed : ℕ → Function
speed n = record { firsts = []; last = whole_units n }

-- an attribute of a class, and what is written to it
abbrev pub attribute : List ℕ → AttrKind → Attribute
attribute name kind = record { name = name; kind = kind }

abbrev pub named_setting : List ℕ → Given → NamedSet
named_setting name given = record { name = name; given = given }

abbrev pub standing_at : ℕ → ℕ → Place
standing_at x y = record { at = Some (at_point x y); moving = None }

-- along x
abbrev pub moving_along : Function → Place
moving_along f = record { at = None; moving = Some (f, level) }

abbrev pub car_class : Write
car_class = Class (codes "car") 100 true []

abbrev pub post_class : Write
post_class = Class (codes "post") 10 true []

abbrev pub car : Place → Write
car place = Insert 0 (codes "car") (codes "a") place []

-- 10 to 20 along x, and 5 units to each side
abbrev pub square_region : Region
square_region = record {
  name = codes "P";
  points =
      record { x = pos 10000; y = negsuc 4999 }
      ∷ record { x = pos 20000; y = negsuc 4999 }
      ∷ at_point 20 5
      ∷ at_point 10 5
      ∷ [];
}

abbrev pub world_with_square : List Write → World
world_with_square writes = world_of writes (square_region ∷ [])

abbrev pub alone : RUnit → RTerm
alone unit = record { factors = plus_factor unit ∷ [] }

-- a dynamic attribute of the first variable, and a text of it
abbrev pub dynamic : ℕ → RUnit
dynamic a = units.Attr 0 a (pos 1001000000000000)

abbrev pub text_attribute : ℕ → RTerm
text_attribute a = alone (units.Attr 0 a (pos 0))

abbrev pub literal_term : ℕ → RTerm
literal_term n = alone (units.Literal (whole_units n))

abbrev pub compare : RTerm → Op → RTerm → ResolvedTree
compare q op r = shapes.Atom (atoms.Compare q op r)

-- TIME op a number
abbrev pub time : Op → ℕ → ResolvedTree
time op n = compare (alone units.Time) op (literal_term n)

-- RETRIEVE o FROM car o WHERE f
abbrev pub car_query : ResolvedTree → ResolvedQuery
car_query f = record { targets = 0 ∷ []; classes = 0 ∷ []; formula = f }

-- RETRIEVE o,n FROM car o,car n WHERE f
abbrev pub pairs_query : ResolvedTree → ResolvedQuery
pairs_query f = record { targets = 0 ∷ 1 ∷ []; classes = 0 ∷ 0 ∷ []; formula = f }

-- the first object alone, with these runs
abbrev pub first_has : List (ℕ × ℕ) → List Row
first_has runs = record { key = 0 ∷ []; runs = runs } ∷ []
