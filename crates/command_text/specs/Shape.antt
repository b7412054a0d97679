-- What holds of each command that is read: names are name tokens, texts have no quotes and no bytes that no line has,
-- both have at most the bytes of a word, numbers are in the ranges of their places, and lists within their limits.
use Rattle.std.specs.Prelude.{◌≡◌, ℕ, ◌≤◌, ℤ, pos, negsuc, unsigned_abs, false, List, length, map, Option, None, Some, IsTrue}
use Rattle.std.specs.List.{AllByRecursion}
use Rattle.fixed_point.specs.declared.number.Point.{Point}
use Rattle.fixed_point.specs.declared.number.TheConstants.{READ_LIMIT, SLOPE_LIMIT}
use Rattle.fixed_point.specs.declared.short_text.TheConstants.{WORD_LIMIT}
use Rattle.motion.specs.Function.{Function}
use Rattle.motion.specs.declared.legs.TheConstants.{MOST_FIRSTS}
use Rattle.motion.specs.declared.cell.AttrKind.{AttrKind}
use Rattle.motion.specs.declared.cell.Given.{Given}
use Rattle.motion.specs.declared.cell.Given.TheVariants as givens
use Rattle.motion.specs.declared.cell.NamedSet.{NamedSet}
use Rattle.motion.specs.declared.cell.Place.{Place}
use Rattle.ftl_lexer.specs.Cut.{has_no_quote}
use Rattle.ftl_parser.specs.Tree.{QueryTree}
use Rattle.ftl_parser.specs.Lawful as query_shape
use Rattle.ftl_parser.specs.Lawful.{IsUnsigned, IsLawful}
pub use Rattle.ftl_parser.specs.Lawful.{IsShortName}
use Rattle.ftl_parser.specs.Order.{query_texts}
use Rattle.tick_set.specs.declared.spans.TheConstants.{LAST_TICK}
use Rattle.geometry.specs.declared.limits.TheConstants.{LEAST_VERTICES, RADIUS_LIMIT, VERTEX_LIMIT}
use Rattle.motion.specs.declared.limits.TheConstants.{CAPACITY_LIMIT, ATTRIBUTE_LIMIT}
use Rattle.command_text.specs.declared.ranges.TheConstants.{NEAREST_LIMIT}
use Rattle.command_text.specs.Line.{has_other_byte}
use Rattle.command_text.specs.Parts.{Part, Verb, Name, Quoted, Whole, Error, Num, PointWord, Attrs, Points, Change, Parts, Blank, Last, Asking, ◌▸◌, is_verb, parts}
use Rattle.command_text.specs.Ranges.{WholePlace, Span, Steps, Capacity, Nearest, SignedPlace, Value, Rate, Width}
use Rattle.command_text.specs.Tree.{CommandTree}

-- from the least to the most
abbrev pub IsFrom : ℕ → ℕ → ℕ → Type 0
IsFrom least most n = (least ≤ n) × (n ≤ most)

-- tabs and 0x20 to 0x7E alone
abbrev pub IsAscii : List ℕ → Type 0
IsAscii bytes = has_other_byte bytes ≡ false

abbrev pub IsShortText : List ℕ → Type 0
IsShortText text = IsTrue (has_no_quote text) × IsAscii text × (length text ≤ WORD_LIMIT)

-- ---- Numbers, in thousandths

abbrev pub IsValue : ℤ → Type 0
IsValue v = unsigned_abs v ≤ READ_LIMIT

abbrev pub IsRate : ℤ → Type 0
IsRate a = unsigned_abs a ≤ SLOPE_LIMIT

abbrev pub IsWidth : ℤ → Type 0
IsWidth (pos n) = IsFrom 1 READ_LIMIT n
IsWidth (negsuc n) = ⊥

-- a whole number in the range of its place
abbrev pub IsWholeIn : WholePlace → ℕ → Type 0
IsWholeIn Span n = IsFrom 0 LAST_TICK n
IsWholeIn Steps n = IsFrom 1 LAST_TICK n
IsWholeIn Capacity n = IsFrom 1 CAPACITY_LIMIT n
IsWholeIn Nearest n = IsFrom 1 NEAREST_LIMIT n

-- a number with a sign or none in the range of its place
abbrev pub IsSignedIn : SignedPlace → ℤ → Type 0
IsSignedIn Value v = IsValue v
IsSignedIn Rate v = IsRate v
IsSignedIn Width v = IsWidth v

-- ---- Points and legs

abbrev pub IsPoint : Point → Type 0
IsPoint p = IsValue p.x × IsValue p.y

-- a leg that ends: its slope and its length
abbrev pub IsLeg : ℤ × ℕ → Type 0
IsLeg leg = IsRate leg.0 × IsFrom 1 LAST_TICK leg.1

pub record AreLegs (f : Function) : Type 0 where
  pub few : length f.firsts ≤ MOST_FIRSTS
  pub firsts : AllByRecursion IsLeg f.firsts
  pub last : IsRate f.last

-- legs of both coordinates, of the same lengths
pub record AreMoves (f g : Function) : Type 0 where
  pub x : AreLegs f
  pub y : AreLegs g
  pub lengths : map (λ leg. leg.1) f.firsts ≡ map (λ leg. leg.1) g.firsts

-- ---- What a command writes

abbrev pub IsPrintableGiven : Given → Type 0
IsPrintableGiven (givens.Num v) = IsValue v
IsPrintableGiven (givens.Text t) = IsShortText t
IsPrintableGiven (givens.Rate f) = AreLegs f
IsPrintableGiven (givens.Both v f) = IsValue v × AreLegs f

abbrev pub IsSetting : NamedSet → Type 0
IsSetting set = IsShortName set.name × IsPrintableGiven set.given

abbrev pub IsAtPoint : Option Point → Type 0
IsAtPoint None = Unit {0}
IsAtPoint (Some p) = IsPoint p

abbrev pub IsMoving : Option (Function × Function) → Type 0
IsMoving None = Unit {0}
IsMoving (Some m) = AreMoves m.0 m.1

pub record IsChange (place : Place) (sets : List NamedSet) : Type 0 where
  pub at : IsAtPoint place.at
  pub moving : IsMoving place.moving
  pub settings : AllByRecursion IsSetting sets

abbrev pub IsAttribute : List ℕ × AttrKind → Type 0
IsAttribute attr = IsShortName attr.0

pub record AreAttributes (attrs : List (List ℕ × AttrKind)) : Type 0 where
  pub few : length attrs ≤ ATTRIBUTE_LIMIT
  pub each : AllByRecursion IsAttribute attrs

pub record AreVertices (points : List Point) : Type 0 where
  pub count : IsFrom LEAST_VERTICES VERTEX_LIMIT (length points)
  pub each : AllByRecursion IsPoint points

-- ---- Queries

pub record IsQuery (q : QueryTree) : Type 0 where
  pub printable : query_shape.IsPrintableQuery q
  pub lawful : IsLawful q
  pub ascii : AllByRecursion IsAscii (query_texts q)

-- ---- Commands

abbrev pub IsPart : Part → Type 0
IsPart (Verb w) = IsTrue (is_verb w)
IsPart (Name n) = IsShortName n
IsPart (Quoted t) = IsShortText t
IsPart (Whole place n) = IsWholeIn place n
IsPart (Error e) = IsUnsigned RADIUS_LIMIT e
IsPart (Num place v) = IsSignedIn place v
IsPart (PointWord b) = Unit {0}
IsPart (Attrs attrs) = AreAttributes attrs
IsPart (Points ps) = AreVertices ps
IsPart (Change p ss) = IsChange p ss

abbrev pub AreParts : Parts → Type 0
AreParts Blank = Unit {0}
AreParts (Last p) = IsPart p
AreParts (Asking q) = IsQuery q
AreParts (p ▸ ps) = IsPart p × AreParts ps

abbrev pub IsPrintable : CommandTree → Type 0
IsPrintable c = AreParts (parts c)
