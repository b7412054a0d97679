-- Reading a command from its tokens: each part takes its tokens from the front, and answers with those after it. A part
-- is read by its tokens' kinds alone; whether its numbers are in range and its sizes within their limits is noted on
-- the way.
use Rattle.std.specs.Prelude.{ℕ, zero, suc, ℤ, Bool, true, false, ◌==◌, ◌&&◌, nat_le, is_some, is_none, Option, None, Some, option_map, List, [], ◌∷◌, ◌++◌, length, codes, if◌then◌else◌}
use Rattle.std.specs.Str.{bytes_eq}
use Rattle.std.specs.Option.{option_map_or}
use Rattle.exact.specs.Options.{◌>>=◌}
use Rattle.case_table.specs.declared.key.TheConstants.{CLASS, REGION, INSERT, UPDATE, REMOVE, TICK, ASK, WATCH, KEEP, SHOW, DROP, LIST, SAVE, IMPORT, EXPORT, QUIT, POINT as POINT_WORD, NUM, TEXT as TEXT_WORD, DYN, AT, MOVE, RATE}
use Rattle.case_table.specs.declared.symbol.TheConstants.{OPEN_ROUND, CLOSE_ROUND, OPEN_SQUARE, CLOSE_SQUARE, COMMA, MINUS, EQUAL}
use Rattle.fixed_point.specs.declared.number.Point.{Point}
use Rattle.geometry.specs.declared.limits.TheConstants.{LEAST_VERTICES}
use Rattle.motion.specs.Function.{Function}
use Rattle.motion.specs.declared.cell.AttrKind.{AttrKind}
use Rattle.motion.specs.declared.cell.AttrKind.TheVariants as attr_kinds
use Rattle.motion.specs.declared.cell.Given.{Given}
use Rattle.motion.specs.declared.cell.Given.TheVariants as givens
use Rattle.motion.specs.declared.cell.NamedSet.{NamedSet}
use Rattle.motion.specs.declared.cell.Place.{Place}
use Rattle.ftl_parser.specs.Tree.{QueryTree}
use Rattle.command_text.specs.Piece.{Piece, NAME, WORD, line_pieces}
use Rattle.command_text.specs.Ranges.{WholePlace, Span, Steps, Capacity, Nearest, whole_in, radius_in, SignedPlace, Value, Rate, Width, signed_in}
use Rattle.command_text.specs.Sizes.{are_few_legs, function_of, are_few_attributes, are_few_vertices}
use Rattle.command_text.specs.Grammar.{Notes, first_notes, whole_at, radius_at, signed_at, point_of, set_of, place_with, legs_of_x, legs_of_y}
use Rattle.command_text.specs.inner.Tests.{is_key, is_sign, is_name, is_text, name_in, number_in, text_in}
use Rattle.command_text.specs.inner.Query.{query_of, is_query_fit, is_query_small}
use Rattle.command_text.specs.Tree
use Rattle.command_text.specs.Tree.{CommandTree}

-- where a reader stands: the tokens that are left, whether each number so far is in the range of its place, and whether each size so far is within its limit
pub record Reader : Type 0 where
  pub rest : List Piece
  pub fit : Bool
  pub small : Bool

-- what is known of the numbers and sizes where a reader stands, and a reader before some tokens
abbrev pub notes : Reader → Notes
notes s = (s.fit, s.small)

abbrev pub before : List Piece → Notes → Reader
before ps s = record { rest = ps; fit = s.0; small = s.1 }

-- a part that was read, and where the reader stands after it
abbrev pub Read : Type 0 → Type 0
Read A = Option (A × Reader)

abbrev pub noting_fit : Bool → Reader → Reader
noting_fit b s = record { rest = s.rest; fit = s.fit && b; small = s.small }

abbrev pub noting_small : Bool → Reader → Reader
noting_small b s = record { rest = s.rest; fit = s.fit; small = s.small && b }

-- the token at the front
abbrev pub front : List Piece → Option (Piece × List Piece)
front [] = None
front (p ∷ ps) = Some (p, ps)

unfoldable pub next : Reader → Read Piece
next s = option_map (λ t. (t.0, record { rest = t.1; fit = s.fit; small = s.small })) (front s.rest)

-- whether the token at the front is such a one
unfoldable pub begins : (Piece → Bool) → Reader → Bool
begins test s = option_map_or (λ t. test t.0) (front s.rest) false

-- after the reserved word of this code, or the symbol
unfoldable pub key : ℕ → Reader → Option Reader
key code s = do
  t ← next s
  if is_key code t.0 then Some t.1 else None

unfoldable pub sign : ℕ → Reader → Option Reader
sign code s = do
  t ← next s
  if is_sign code t.0 then Some t.1 else None

unfoldable pub name : Reader → Read (List ℕ)
name s = do
  t ← next s
  word ← name_in t.0
  Some (word, t.1)

unfoldable pub text : Reader → Read (List ℕ)
text s = do
  t ← next s
  word ← text_in t.0
  Some (word, t.1)

-- the bytes of a number
unfoldable pub number : Reader → Read (List ℕ)
number s = do
  t ← next s
  digits ← number_in t.0
  Some (digits, t.1)

unfoldable pub whole : WholePlace → Reader → Read ℕ
whole place s = do
  n ← number s
  Some (whole_at place n.0, noting_fit (is_some (whole_in place n.0)) n.1)

unfoldable pub radius : Reader → Read ℤ
radius s = do
  n ← number s
  Some (radius_at n.0, noting_fit (is_some (radius_in n.0)) n.1)

-- whether a `-` stands at the front, and the place after it or else the same place
unfoldable pub minus : Reader → Bool × Reader
minus s = option_map_or (λ behind. (true, behind)) (sign MINUS s) (false, s)

-- whether a number has a `-`, and its bytes
unfoldable pub signed_number : Reader → Read (Bool × List ℕ)
signed_number s =
    let m = minus s in
    do
      n ← number m.1
      Some ((m.0, n.0), n.1)

unfoldable pub num : SignedPlace → Reader → Read ℤ
num place s = do
  n ← signed_number s
  Some (signed_at place n.0.0 n.0.1, noting_fit (is_some (signed_in place n.0.0 n.0.1)) n.1)

-- a pt, of coordinates or of slopes
unfoldable pub pair : SignedPlace → Reader → Read (ℤ × ℤ)
pair place s = do
  s ← sign OPEN_ROUND s
  x ← num place s
  s ← sign COMMA x.1
  y ← num place s
  s ← sign CLOSE_ROUND y.1
  Some ((x.0, y.0), s)

unfoldable pub point : Reader → Read Point
point s = do
  p ← pair Value s
  Some (point_of p.0.0 p.0.1, p.1)

-- as many items as there are, as long as an item begins; there are no more of them than tokens
unfoldable pub many : {A : Type 0} → (Reader → Bool) → (Reader → Read A) → ℕ → Reader → Read (List A)
many more item zero s = if more s then None else Some ([], s)
many more item (suc n) s =
    if more s then (do
      x ← item s
      xs ← many more item n x.1
      Some (x.0 ∷ xs.0, xs.1))
    else Some ([], s)

abbrev pub all : {A : Type 0} → (Reader → Bool) → (Reader → Read A) → Reader → Read (List A)
all more item s = many more item (length s.rest) s

-- items before those that were read
abbrev pub with_front : {A : Type 0} → List A → Read (List A) → Read (List A)
with_front xs o = option_map (λ r. (xs ++ r.0, r.1)) o

-- the kind of attribute that a word names, by its code
abbrev pub kind_by_code : ℕ → Option AttrKind
kind_by_code k =
    if k == NUM then Some attr_kinds.Num
    else (if k == TEXT_WORD then Some attr_kinds.Text
    else (if k == DYN then Some attr_kinds.Dyn else None))

abbrev pub kind_in : Piece → Option AttrKind
kind_in (WORD k) = kind_by_code k
kind_in p = None

unfoldable pub attr : Reader → Read (List ℕ × AttrKind)
attr s = do
  n ← name s
  t ← next n.1
  kind ← kind_in t.0
  Some ((n.0, kind), t.1)

-- an attribute after a comma
unfoldable pub next_attr : Reader → Read (List ℕ × AttrKind)
next_attr s = do
  s ← sign COMMA s
  attr s

-- the first attribute, after its bracket
unfoldable pub first_attr : Reader → Read (List ℕ × AttrKind)
first_attr s = do
  s ← sign OPEN_ROUND s
  attr s

unfoldable pub some_attrs : Reader → Read (List (List ℕ × AttrKind))
some_attrs s = do
  a ← first_attr s
  more ← with_front (a.0 ∷ []) (all (begins (is_sign COMMA)) next_attr a.1)
  s ← sign CLOSE_ROUND more.1
  Some (more.0, noting_small (are_few_attributes (length more.0)) s)

unfoldable pub attrs : Reader → Read (List (List ℕ × AttrKind))
attrs s = if begins (is_sign OPEN_ROUND) s then some_attrs s else Some ([], s)

-- three points and more
unfoldable pub points : Reader → Read (List Point)
points s = do
  ps ← all (begins (is_sign OPEN_ROUND)) point s
  if nat_le LEAST_VERTICES (length ps.0) then Some (ps.0, noting_small (are_few_vertices (length ps.0)) ps.1) else None

-- a leg that ends: its slope and its length
unfoldable pub rate_leg : Reader → Read (ℤ × ℕ)
rate_leg s = do
  s ← sign OPEN_SQUARE s
  a ← num Rate s
  s ← sign COMMA a.1
  n ← whole Steps s
  s ← sign CLOSE_SQUARE n.1
  Some ((a.0, n.0), s)

unfoldable pub rates : Reader → Read Function
rates s = do
  legs ← all (begins (is_sign OPEN_SQUARE)) rate_leg s
  last ← num Rate legs.1
  Some (function_of legs.0 last.0, noting_small (are_few_legs (length legs.0)) last.1)

-- a leg that ends: its slopes and its length
unfoldable pub move_leg : Reader → Read ((ℤ × ℤ) × ℕ)
move_leg s = do
  s ← sign OPEN_SQUARE s
  p ← pair Rate s
  s ← sign COMMA p.1
  n ← whole Steps s
  s ← sign CLOSE_SQUARE n.1
  Some ((p.0, n.0), s)

unfoldable pub moves : Reader → Read (Function × Function)
moves s = do
  legs ← all (begins (is_sign OPEN_SQUARE)) move_leg s
  last ← pair Rate legs.1
  Some ((function_of (legs_of_x legs.0) last.0.0, function_of (legs_of_y legs.0) last.0.1), noting_small (are_few_legs (length legs.0)) last.1)

-- the legs after `rate`
unfoldable pub rate : Reader → Read Function
rate s = do
  s ← key RATE s
  rates s

-- what a setting gives, after its `=`: a value, and legs where `rate` follows
unfoldable pub given_both : ℤ → Reader → Read Given
given_both v s = do
  f ← rate s
  Some (givens.Both v f.0, f.1)

unfoldable pub given_value : Reader → Read Given
given_value s = do
  v ← num Value s
  if begins (is_key RATE) v.1 then given_both v.0 v.1 else Some (givens.Num v.0, v.1)

unfoldable pub given_text : Reader → Read Given
given_text s = do
  t ← text s
  Some (givens.Text t.0, t.1)

unfoldable pub given_rate : Reader → Read Given
given_rate s = do
  f ← rate s
  Some (givens.Rate f.0, f.1)

unfoldable pub given_equal : Reader → Read Given
given_equal s = do
  s ← sign EQUAL s
  if begins is_text s then given_text s else given_value s

unfoldable pub given : Reader → Read Given
given s = if begins (is_key RATE) s then given_rate s else given_equal s

unfoldable pub setting : Reader → Read NamedSet
setting s = do
  n ← name s
  g ← given n.1
  Some (set_of n.0 g.0, g.1)

abbrev pub settings : Reader → Read (List NamedSet)
settings s = all (begins is_name) setting s

unfoldable pub at : Reader → Read (Option Point)
at s =
    if begins (is_key AT) s then (do
      s ← key AT s
      p ← point s
      Some (Some p.0, p.1))
    else Some (None, s)

-- the legs of both coordinates, as a command that gives them has them
abbrev pub given_moves : Read (Function × Function) → Read (Option (Function × Function))
given_moves o = option_map (λ m. (Some m.0, m.1)) o

-- the legs after `move`
unfoldable pub some_moves : Reader → Read (Option (Function × Function))
some_moves s = do
  s ← key MOVE s
  given_moves (moves s)

unfoldable pub moving : Reader → Read (Option (Function × Function))
moving s = if begins (is_key MOVE) s then some_moves s else Some (None, s)

unfoldable pub place : Reader → Read Place
place s = do
  p ← at s
  m ← moving p.1
  Some (place_with p.0 m.0, m.1)

-- a query, which takes all tokens that are left
unfoldable pub query : Reader → Read QueryTree
query s =
    option_map (λ q. (q, record { rest = []; fit = s.fit && is_query_fit s.rest; small = s.small && is_query_small q })) (query_of s.rest)

-- the commands, each after its first word
-- whether `point` stands at the front, and the place after it or else the same place
unfoldable pub point_word : Reader → Bool × Reader
point_word s = option_map_or (λ behind. (true, behind)) (key POINT_WORD s) (false, s)

-- a name, a capacity, and `point` or not
unfoldable pub class_head : Reader → Read (List ℕ × ℕ × Bool)
class_head s = do
  n ← name s
  k ← whole Capacity n.1
  Some ((n.0, k.0, (point_word k.1).0), (point_word k.1).1)

unfoldable pub class : Reader → Read CommandTree
class s = do
  h ← class_head s
  a ← attrs h.1
  Some (Tree.Class h.0.0 h.0.1 h.0.2 a.0, a.1)

unfoldable pub region : Reader → Read CommandTree
region s = do
  n ← name s
  ps ← points n.1
  Some (Tree.Region n.0 ps.0, ps.1)

-- a class and an object
unfoldable pub insert_head : Reader → Read (List ℕ × List ℕ)
insert_head s = do
  c ← name s
  n ← name c.1
  Some ((c.0, n.0), n.1)

unfoldable pub insert : Reader → Read CommandTree
insert s = do
  h ← insert_head s
  p ← place h.1
  ss ← settings p.1
  Some (Tree.Insert h.0.0 h.0.1 p.0 ss.0, ss.1)

unfoldable pub update : Reader → Read CommandTree
update s = do
  n ← name s
  p ← place n.1
  ss ← settings p.1
  Some (Tree.Update n.0 p.0 ss.0, ss.1)

unfoldable pub remove : Reader → Read CommandTree
remove s = do
  n ← name s
  Some (Tree.Remove n.0, n.1)

unfoldable pub tick : Reader → Read CommandTree
tick s = do
  k ← whole Steps s
  Some (Tree.Tick k.0, k.1)

unfoldable pub ask : Reader → Read CommandTree
ask s = do
  k ← whole Span s
  q ← query k.1
  Some (Tree.Ask k.0 q.0, q.1)

-- a name and a span
unfoldable pub watch_head : Reader → Read (List ℕ × ℕ)
watch_head s = do
  n ← name s
  k ← whole Span n.1
  Some ((n.0, k.0), k.1)

unfoldable pub watch : Reader → Read CommandTree
watch s = do
  h ← watch_head s
  q ← query h.1
  Some (Tree.Watch h.0.0 h.0.1 q.0, q.1)

unfoldable pub keep : Reader → Read CommandTree
keep s = do
  h ← watch_head s
  q ← query h.1
  Some (Tree.Keep h.0.0 h.0.1 q.0, q.1)

unfoldable pub show : Reader → Read CommandTree
show s = do
  n ← name s
  Some (Tree.Show n.0, n.1)

unfoldable pub drop : Reader → Read CommandTree
drop s = do
  n ← name s
  Some (Tree.Drop n.0, n.1)

unfoldable pub save : Reader → Read CommandTree
save s = do
  t ← text s
  Some (Tree.Save t.0, t.1)

unfoldable pub import : Reader → Read CommandTree
import s = do
  n ← name s
  t ← text n.1
  Some (Tree.Import n.0 t.0, t.1)

unfoldable pub export : Reader → Read CommandTree
export s = do
  n ← name s
  t ← text n.1
  Some (Tree.Export n.0 t.0, t.1)

unfoldable pub nearest : Reader → Read CommandTree
nearest s = do
  k ← whole Span s
  n ← whole Nearest k.1
  o ← name n.1
  c ← name o.1
  Some (Tree.Nearest k.0 n.0 o.0 c.0, c.1)

-- an error and a span
unfoldable pub must_head : Reader → Read (ℤ × ℕ)
must_head s = do
  e ← radius s
  k ← whole Span e.1
  Some ((e.0, k.0), k.1)

unfoldable pub must : Reader → Read CommandTree
must s = do
  h ← must_head s
  q ← query h.1
  Some (Tree.Must h.0.0 h.0.1 q.0, q.1)

unfoldable pub may : Reader → Read CommandTree
may s = do
  h ← must_head s
  q ← query h.1
  Some (Tree.May h.0.0 h.0.1 q.0, q.1)

unfoldable pub index : Reader → Read CommandTree
index s = do
  c ← name s
  a ← name c.1
  w ← num Width a.1
  Some (Tree.Index c.0 a.0 w.0, w.1)

unfoldable pub range : Reader → Read CommandTree
range s = do
  k ← whole Span s
  c ← name k.1
  a ← name c.1
  l ← num Value a.1
  g ← num Value l.1
  Some (Tree.Range k.0 c.0 a.0 l.0 g.0, g.1)

-- the command of a reserved word, by the tokens after it
abbrev pub by_key : ℕ → Reader → Read CommandTree
by_key code s =
    if code == CLASS then class s
    else (if code == REGION then region s
    else (if code == INSERT then insert s
    else (if code == UPDATE then update s
    else (if code == REMOVE then remove s
    else (if code == TICK then tick s
    else (if code == ASK then ask s
    else (if code == WATCH then watch s
    else (if code == KEEP then keep s
    else (if code == SHOW then show s
    else (if code == DROP then drop s
    else (if code == LIST then Some (Tree.Listing, s)
    else (if code == SAVE then save s
    else (if code == IMPORT then import s
    else (if code == EXPORT then export s
    else (if code == QUIT then Some (Tree.Quit, s)
    else None)))))))))))))))

-- the command of a name, which isn't reserved
abbrev pub by_name : List ℕ → Reader → Read CommandTree
by_name word s =
    if bytes_eq word (codes "nearest") then nearest s
    else (if bytes_eq word (codes "must") then must s
    else (if bytes_eq word (codes "may") then may s
    else (if bytes_eq word (codes "index") then index s
    else (if bytes_eq word (codes "range") then range s
    else None))))

-- the command of a first token
abbrev pub by_token : Piece → Reader → Read CommandTree
by_token (WORD code) s = by_key code s
by_token (NAME word) s = by_name word s
by_token p s = None

-- the command that the first token begins
unfoldable pub command_begun : Reader → Read CommandTree
command_begun s = do
  t ← next s
  by_token t.0 t.1

-- the command that all tokens are
abbrev pub ended : CommandTree × Reader → Read CommandTree
ended (c, s) = if is_none (front s.rest) then Some (c, s) else None

abbrev pub to_end : Read CommandTree → Read CommandTree
to_end found = found >>= ended

unfoldable pub command : Reader → Read CommandTree
command s = do
  c ← command_begun s
  ended c

-- a reader before the first token of a line
abbrev pub at_first : List ℕ → Reader
at_first line = before (line_pieces line) (first_notes line)

-- the command of all tokens; no token is a blank line
unfoldable pub command_of : Reader → Read CommandTree
command_of s = if is_none (front s.rest) then Some (Tree.Nothing, s) else command s
