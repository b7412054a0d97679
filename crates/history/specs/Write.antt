-- What is written to the database, in the order in which it was accepted.
use Rattle.std.specs.Prelude.{ℕ, nat_lt, Bool, false, true, List}
use Rattle.std.specs.Str.{bytes_eq}
use Rattle.motion.specs.declared.cell.AttrKind.{AttrKind}
use Rattle.motion.specs.declared.cell.NamedSet.{NamedSet}
use Rattle.motion.specs.declared.cell.Place.{Place}

-- an attribute of a class
pub record Attribute : Type 0 where
  pub name : List ℕ
  pub kind : AttrKind

-- A class with the attributes that were written, or an insert, update or remove with the tick at which it was accepted.
pub data Write : Type 0 where
  Class : (name : List ℕ) (capacity : ℕ) (point : Bool) (attributes : List Attribute) → Write
  Insert : (tick : ℕ) (class name : List ℕ) (place : Place) (sets : List NamedSet) → Write
  Update : (tick : ℕ) (name : List ℕ) (place : Place) (sets : List NamedSet) → Write
  Remove : (tick : ℕ) (name : List ℕ) → Write

-- whether a write comes after a tick; one of a class has no tick, and changes no state
abbrev pub is_after : ℕ → Write → Bool
is_after t (Class name capacity point attributes) = true
is_after t (Insert s class name place sets) = nat_lt t s
is_after t (Update s name place sets) = nat_lt t s
is_after t (Remove s name) = nat_lt t s

-- whether a write inserts the object of a name
abbrev pub inserts : List ℕ → Write → Bool
inserts o (Class name capacity point attributes) = false
inserts o (Insert s class name place sets) = bytes_eq o name
inserts o (Update s name place sets) = false
inserts o (Remove s name) = false
