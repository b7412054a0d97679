-- The canonical line of a command: its words with one space between.
use Rattle.std.specs.Prelude.{ℕ, ℤ, Bool, Option, None, Some, List, [], ◌∷◌, ◌++◌, drop, codes, if◌then◌else◌, ◌≡◌}
use Rattle.std.specs.List.{flat_map}
use Rattle.std.specs.Fmt.{decimal}
use Rattle.fixed_point.specs.Canonical.{fix_text}
use Rattle.fixed_point.specs.declared.number.Point.{Point}
use Rattle.motion.specs.Function.{Function}
use Rattle.motion.specs.declared.cell.AttrKind.{AttrKind}
use Rattle.motion.specs.declared.cell.AttrKind.TheVariants as attr_kinds
use Rattle.motion.specs.declared.cell.Given.{Given}
use Rattle.motion.specs.declared.cell.Given.TheVariants as givens
use Rattle.motion.specs.declared.cell.NamedSet.{NamedSet}
use Rattle.motion.specs.declared.cell.Place.{Place}
use Rattle.ftl_parser.specs.Text.{query_text}
use Rattle.command_text.specs.Parts.{Part, Verb, Name, Quoted, Whole, Error, Num, PointWord, Attrs, Points, Change, Parts, Blank, Last, Asking, ◌▸◌, parts}
use Rattle.command_text.specs.Tree.{CommandTree}

-- a text between its quotes; 34 is `"`
abbrev pub quoted : List ℕ → List ℕ
quoted text = 34 ∷ (text ++ 34 ∷ [])

-- (x,y)
abbrev pub pair_text : ℤ → ℤ → List ℕ
pair_text x y = codes "(" ++ (fix_text x ++ (codes "," ++ (fix_text y ++ codes ")")))

-- [0.5,10] and a space
abbrev pub rate_leg_text : ℤ × ℕ → List ℕ
rate_leg_text leg = codes "[" ++ (fix_text leg.0 ++ (codes "," ++ (decimal leg.1 ++ codes "] ")))

-- [0.5,10] 0.2
abbrev pub rates_text : Function → List ℕ
rates_text f = flat_map rate_leg_text f.firsts ++ fix_text f.last

-- [(1,0),10] and a space
abbrev pub move_leg_text : ℤ → ℤ → ℕ → List ℕ
move_leg_text x y n = codes "[" ++ (pair_text x y ++ (codes "," ++ (decimal n ++ codes "] ")))

abbrev pub move_legs_text : List (ℤ × ℕ) → List (ℤ × ℕ) → List ℕ
move_legs_text [] ys = []
move_legs_text (x ∷ xs) [] = []
move_legs_text (x ∷ xs) (y ∷ ys) = move_leg_text x.0 y.0 x.1 ++ move_legs_text xs ys

-- [(1,0),10] (0,0)
abbrev pub moves_text : Function → Function → List ℕ
moves_text f g = move_legs_text f.firsts g.firsts ++ pair_text f.last g.last

abbrev pub kind_text : AttrKind → List ℕ
kind_text attr_kinds.Num = codes "num"
kind_text attr_kinds.Text = codes "text"
kind_text attr_kinds.Dyn = codes "dyn"

-- fuel num
abbrev pub attr_text : List ℕ × AttrKind → List ℕ
attr_text a = a.0 ++ (codes " " ++ kind_text a.1)

-- an attribute after a comma
abbrev pub next_attr_text : List ℕ × AttrKind → List ℕ
next_attr_text a = codes "," ++ attr_text a

-- (fuel num,plate text) after a space
abbrev pub attrs_text : List (List ℕ × AttrKind) → List ℕ
attrs_text [] = []
attrs_text (a ∷ more) = codes " (" ++ (attr_text a ++ (flat_map next_attr_text more ++ codes ")"))

-- a point after a space
abbrev pub point_text : Point → List ℕ
point_text p = codes " " ++ pair_text p.x p.y

-- points, each after a space
abbrev pub points_text : List Point → List ℕ
points_text = flat_map point_text

-- = 3 or = 20 rate 0.5 or rate 0.5 or = "AB"
abbrev pub given_value_text : Given → List ℕ
given_value_text (givens.Num v) = codes "= " ++ fix_text v
given_value_text (givens.Text t) = codes "= " ++ quoted t
given_value_text (givens.Rate f) = codes "rate " ++ rates_text f
given_value_text (givens.Both v f) = codes "= " ++ (fix_text v ++ (codes " rate " ++ rates_text f))

-- a setting after a space
abbrev pub setting_text : NamedSet → List ℕ
setting_text set = codes " " ++ (set.name ++ (codes " " ++ given_value_text set.given))

abbrev pub settings_text : List NamedSet → List ℕ
settings_text = flat_map setting_text

abbrev pub at_text : Option Point → List ℕ
at_text None = []
at_text (Some p) = codes " at " ++ pair_text p.x p.y

abbrev pub moving_text : Option (Function × Function) → List ℕ
moving_text None = []
moving_text (Some m) = codes " move " ++ moves_text m.0 m.1

-- what a command changes of an object, after a space
abbrev pub object_change_text : Place → List NamedSet → List ℕ
object_change_text place sets = at_text place.at ++ (moving_text place.moving ++ settings_text sets)

abbrev pub point_word_text : Bool → List ℕ
point_word_text point = if point then codes " point" else []

-- a part after a space, where it has a byte
abbrev pub part_text : Part → List ℕ
part_text (Verb w) = codes " " ++ w
part_text (Name n) = codes " " ++ n
part_text (Quoted t) = codes " " ++ quoted t
part_text (Whole place n) = codes " " ++ decimal n
part_text (Error e) = codes " " ++ fix_text e
part_text (Num place v) = codes " " ++ fix_text v
part_text (PointWord b) = point_word_text b
part_text (Attrs attrs) = attrs_text attrs
part_text (Points ps) = points_text ps
part_text (Change p ss) = object_change_text p ss

abbrev pub parts_text : Parts → List ℕ
parts_text Blank = []
parts_text (Last p) = part_text p
parts_text (Asking q) = codes " " ++ query_text q
parts_text (p ▸ ps) = part_text p ++ parts_text ps

-- its parts without the first space
unfoldable pub text_of : CommandTree → List ℕ
text_of c = drop 1 (parts_text (parts c))

-- the bytes are the canonical line of the command
abbrev pub IsLineOf : List ℕ → CommandTree → Type 0
IsLineOf line command = line ≡ text_of command
