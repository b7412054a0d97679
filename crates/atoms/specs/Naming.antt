-- Whether the attributes that atoms and terms name are asked.
use Rattle.std.specs.Prelude.{Bool, true, ◌&&◌}
use Rattle.std.specs.List.{list_all}
use Rattle.formula.specs.declared.tree.RAtom.{RAtom}
use Rattle.formula.specs.declared.tree.RAtom.TheVariants as atoms
use Rattle.formula.specs.declared.tree.RSigned.{RSigned}
use Rattle.formula.specs.declared.tree.RTerm.{RTerm}
use Rattle.formula.specs.declared.tree.RUnit.{RUnit}
use Rattle.formula.specs.declared.tree.RUnit.TheVariants as units
use Rattle.motion.specs.declared.asked.Asked.{Asked}
use Rattle.motion.specs.Pieces.{is_asked}

abbrev pub asks_unit : Asked → RUnit → Bool
asks_unit asked (units.Literal n) = true
asks_unit asked (units.Text s) = true
asks_unit asked (units.Var d bound) = true
asks_unit asked (units.Attr v a bound) = is_asked asked a
asks_unit asked (units.Sub v a part) = is_asked asked a
asks_unit asked units.Time = true

abbrev pub asks_factor : Asked → RSigned → Bool
asks_factor asked s = asks_unit asked s.unit

abbrev pub asks_term : Asked → RTerm → Bool
asks_term asked q = list_all (asks_factor asked) q.factors

-- x and y
abbrev pub asks_place : Asked → Bool
asks_place asked = is_asked asked 0 && is_asked asked 1

abbrev pub asks_atom : Asked → RAtom → Bool
asks_atom asked (atoms.Compare q op r) = asks_term asked q && asks_term asked r
asks_atom asked (atoms.Inside v n) = asks_place asked
asks_atom asked (atoms.Outside v n) = asks_place asked
asks_atom asked (atoms.Dist v u op c) = asks_place asked
asks_atom asked (atoms.Sphere r vs) = asks_place asked
