-- Small texts, worked out by hand.
use Rattle.std.specs.Prelude.{◌≡◌, ℕ, pos, negsuc, true, false, Option, None, Some, List, [], ◌∷◌, codes}
use Rattle.motion.specs.Function.{Function, level}
use Rattle.motion.specs.declared.cell.AttrKind.TheVariants as kinds
use Rattle.motion.specs.declared.cell.Given.{Given}
use Rattle.motion.specs.declared.cell.Given.TheVariants as givens
use Rattle.motion.specs.declared.cell.NamedSet.{NamedSet}
use Rattle.motion.specs.Cells.{nowhere}
use Rattle.history.specs.Catalog.{coordinates}
use Rattle.history.specs.Write.{Attribute, Write, Class, Insert, Remove}
use Rattle.history.specs.History.{history}
use Rattle.object_rows.specs.declared.rows.ObjectRow.{ObjectRow}
use Rattle.object_rows.specs.Exported.{exported}
use Rattle.object_rows.specs.Fields.{one_leg}
use Rattle.object_rows.specs.Rows.{rows_in}

abbrev pub tank : List Attribute
tank =
    record { name = codes "fuel"; kind = kinds.Dyn }
    ∷ record { name = codes "plate"; kind = kinds.Text }
    ∷ record { name = codes "seats"; kind = kinds.Num } ∷ []

abbrev pub cars_in : List ℕ → Option (List ObjectRow)
cars_in text = rows_in coordinates text

abbrev pub tanks_in : List ℕ → Option (List ObjectRow)
tanks_in text = rows_in tank text

abbrev pub set : List ℕ → Given → NamedSet
set name given = record { name = name; given = given }

abbrev pub object : List ℕ → List NamedSet → ObjectRow
object name sets = record { name = name; sets = sets }

-- what texts hold
pub record ReadsTexts : Type 0 where
  pub cars : cars_in (codes "name,x,x.rate\na,0,1\nb,10,0\n") ≡ Some (
      object (codes "a") (set (codes "x") (givens.Both (pos 0) (one_leg (pos 1000))) ∷ [])
      ∷ object (codes "b") (set (codes "x") (givens.Both (pos 10000) level) ∷ []) ∷ [])
  -- the rate first, and another attribute between the two columns
  pub order : tanks_in (codes "name,fuel.rate,seats,fuel\r\na,-0.5,2,7") ≡ Some (
      object (codes "a") (set (codes "fuel") (givens.Both (pos 7000) (one_leg (negsuc 499))) ∷ set (codes "seats") (givens.Num (pos 2000)) ∷ []) ∷ [])
  pub rate_alone : cars_in (codes "name,y.rate\na,1\n") ≡ Some (object (codes "a") (set (codes "y") (givens.Rate (one_leg (pos 1000))) ∷ []) ∷ [])
  pub empty_text : tanks_in (codes "name,plate\na,\nb,\"A,B\"\n") ≡ Some (
      object (codes "a") (set (codes "plate") (givens.Text []) ∷ [])
      ∷ object (codes "b") (set (codes "plate") (givens.Text (codes "A,B")) ∷ []) ∷ [])
  pub names_alone : cars_in (codes "name\na\na\n") ≡ Some (object (codes "a") [] ∷ object (codes "a") [] ∷ [])
  pub no_row : cars_in (codes "name,x") ≡ Some []

-- texts that aren't of the format
pub record RefusesTexts : Type 0 where
  pub nothing : cars_in [] ≡ None
  pub no_name : cars_in (codes "x,name\n1,a\n") ≡ None
  pub no_such_column : cars_in (codes "name,z\na,1\n") ≡ None
  pub no_rate : tanks_in (codes "name,seats.rate\na,1\n") ≡ None
  pub doubled : cars_in (codes "name,x,x\na,1,1\n") ≡ None
  pub no_number : cars_in (codes "name,x\na,z\n") ≡ None
  pub empty_number : cars_in (codes "name,x\na,\n") ≡ None
  pub steep : cars_in (codes "name,x.rate\na,1000.001\n") ≡ None
  pub reserved : cars_in (codes "name,x\ntick,1\n") ≡ None
  pub no_word : cars_in (codes "name,x\n1a,1\n") ≡ None
  pub tab : tanks_in (codes "name,plate\na,\t\n") ≡ None
  pub fewer : cars_in (codes "name,x,y\na,1\n") ≡ None
  pub more : cars_in (codes "name,x\na,1,2\n") ≡ None

-- ---- Exported texts

abbrev pub steady : ℕ → Function
steady slope = one_leg (pos slope)

-- two cars that move, and one that is removed
abbrev pub car_writes : List Write
car_writes =
    Class (codes "car") 9 true []
    ∷ Insert 0 (codes "car") (codes "a") nowhere (set (codes "x") (givens.Rate (steady 1000)) ∷ [])
    ∷ Insert 0 (codes "car") (codes "c") nowhere []
    ∷ Insert 1 (codes "car") (codes "b") nowhere (set (codes "x") (givens.Num (pos 10000)) ∷ [])
    ∷ Remove 2 (codes "c")
    ∷ []

abbrev pub tank_writes : List Write
tank_writes =
    Class (codes "tank") 9 false tank
    ∷ Insert 0 (codes "tank") (codes "t") nowhere (
    set (codes "fuel") (givens.Both (pos 7500) (one_leg (negsuc 499)))
    ∷ set (codes "plate") (givens.Text (codes "A,B")) ∷ [])
    ∷ []

pub record ExportsObjects : Type 0 where
  pub cars : exported (history car_writes) 3 0 ≡ codes "name,x,x.rate,y,y.rate\na,3,1,0,0\nb,10,0,0,0\n"
  pub before : exported (history car_writes) 1 0 ≡ codes "name,x,x.rate,y,y.rate\na,1,1,0,0\nc,0,0,0,0\nb,10,0,0,0\n"
  pub tanks : exported (history tank_writes) 15 0 ≡ codes "name,fuel,fuel.rate,plate,seats\nt,0,-0.5,\"A,B\",0\n"
