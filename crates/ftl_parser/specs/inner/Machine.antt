-- The parser: a machine that takes one token at a time and never goes back. Formulas that wait for their right side, and open brackets, stand on a stack.
use Rattle.std.specs.Prelude.{ℕ, suc, neg_ℤ, Bool, true, false, nat_le, List, [], ◌∷◌, ◌++◌, Option, None, Some, option_map, option_and_then, if◌then◌else◌}
use Rattle.std.specs.Option.{option_map_or}
use Rattle.fixed_point.specs.declared.variants.UntilForm.TheVariants as untils
use Rattle.case_table.specs.declared.compare.Op.{Op}
use Rattle.formula_shape.specs.Shape.{Shape}
use Rattle.ftl_parser.specs.declared.tree.Atom.TheVariants as atoms
use Rattle.ftl_parser.specs.declared.tree.Unit.TheVariants as units
use Rattle.ftl_parser.specs.declared.tree.Term.{Term}
use Rattle.ftl_parser.specs.declared.tree.Signed.{Signed}
use Rattle.ftl_parser.specs.declared.tree.FromPart.{FromPart}
use Rattle.ftl_parser.specs.declared.state.Pair.TheVariants as pairs
use Rattle.ftl_parser.specs.declared.state.Head.{Head}
use Rattle.ftl_parser.specs.declared.state.Head.TheVariants as heads
use Rattle.ftl_parser.specs.declared.state.TermPlace.{TermPlace}
use Rattle.ftl_parser.specs.declared.state.TermPlace.TheVariants as places
use Rattle.ftl_parser.specs.declared.state.Factor.{Factor}
use Rattle.ftl_parser.specs.declared.state.Factor.TheVariants as factors
use Rattle.ftl_parser.specs.declared.state.Spatial.{Spatial}
use Rattle.ftl_parser.specs.declared.state.Spatial.TheVariants as spatials
pub use Rattle.ftl_parser.specs.declared.frame.Frame.{Frame}
pub use Rattle.ftl_parser.specs.declared.frame.Frame.TheVariants.{Bracket, OrWith, AndWith, UntilWith, PrefixedBy, BoundedBy, Assigning}
pub use Rattle.ftl_parser.specs.declared.phase.Phase.{Phase}
pub use Rattle.ftl_parser.specs.declared.phase.Phase.TheVariants.{Want, Have, Reach, Ticks, Variable, Arrow, InTerm, InSpatial}
use Rattle.ftl_parser.specs.Tree.{Tree, QueryTree}
use Rattle.ftl_parser.specs.Piece.{Piece, RETRIEVE, FROM, WHERE, AND, OR, TRUTH, PREFIX, BOUNDED, UNTIL, INSIDE, OUTSIDE, DIST, SPHERE, TIME, PART, OPEN, CLOSE, OPEN_SQUARE, CLOSE_SQUARE, COMMA, POINT, PLUS, MINUS, STAR, ARROW, COMPARISON, NAME, NUMBER, TEXT}
use Rattle.ftl_parser.specs.Number.{ticks, times, literal, radius_of}
use Rattle.ftl_parser.specs.Grammar.{prefixed, term_of, signed, from_part}

-- how strongly a frame binds
abbrev pub precedence : Frame → ℕ
precedence Bracket = 0
precedence (OrWith f) = 1
precedence (AndWith f) = 2
precedence (UntilWith form c f) = 3
precedence (PrefixedBy w) = 4
precedence (BoundedBy form c) = 4
precedence (Assigning v t) = 4

-- the formula with this one on its right
abbrev pub filled : Frame → Tree → Tree
filled Bracket g = g
filled (OrWith f) g = Shape.Or f g
filled (AndWith f) g = Shape.And f g
filled (UntilWith form c f) g = Shape.Until form c f g
filled (PrefixedBy w) g = prefixed w g
filled (BoundedBy form c) g = Shape.Bounded form c g
filled (Assigning v t) g = Shape.Assign (v, t) g

-- where a formula stands in its reading
abbrev pub Body : Type 0
Body = List Frame × Phase

pub data State : Type 0 where
  -- before WHERE, with the targets and the parts of FROM so far
  Heading : Head → List (List ℕ) → List FromPart → State
  -- after WHERE
  Within : List (List ℕ) → List FromPart → Body → State

abbrev pub start : State
start = Heading heads.Start [] []

abbrev pub heading_step : Head → List (List ℕ) → List FromPart → Piece → Option State
heading_step heads.Start ns ps RETRIEVE = Some (Heading heads.Target ns ps)
heading_step heads.Target ns ps (NAME n) = Some (Heading heads.Targets (ns ++ n ∷ []) ps)
heading_step heads.Targets ns ps COMMA = Some (Heading heads.Target ns ps)
heading_step heads.Targets ns ps FROM = Some (Heading heads.Class ns ps)
heading_step heads.Class ns ps (NAME c) = Some (Heading (heads.Var c) ns ps)
heading_step (heads.Var c) ns ps (NAME v) = Some (Heading heads.Parts ns (ps ++ from_part c v ∷ []))
heading_step heads.Parts ns ps COMMA = Some (Heading heads.Class ns ps)
heading_step heads.Parts ns ps WHERE = Some (Within ns ps ([], Want))
heading_step _ ns ps _ = None

-- the beginning of a reference
abbrev pub reference : Bool → Option ℕ → Piece → Option Factor
reference minus k (NAME o) = Some (factors.Alone minus k o)
reference minus k TIME = Some (factors.Whole minus k units.Time)
reference minus k _ = None

-- the beginning of a factor after its sign
abbrev pub factor_begun : Bool → Piece → Option Factor
factor_begun minus (NUMBER n) = Some (factors.Number minus (literal n) (times n))
factor_begun minus (TEXT t) = Some (factors.Whole minus None (units.Text t))
factor_begun minus p = reference minus None p

-- the beginning of a term
abbrev pub term_begun : Piece → Option Factor
term_begun MINUS = Some (factors.Wanted true)
term_begun p = factor_begun false p

-- a token that makes a factor longer
abbrev pub lengthened : Factor → Piece → Option Factor
lengthened factors.First p = term_begun p
lengthened (factors.Wanted minus) p = factor_begun minus p
lengthened (factors.Number minus value k) STAR = Some (factors.Times minus k)
lengthened (factors.Times minus k) p = reference minus (Some k) p
lengthened (factors.Alone minus k o) POINT = Some (factors.Dotted minus k o)
lengthened (factors.Dotted minus k o) (NAME a) = Some (factors.Attr minus k o a)
lengthened (factors.Attr minus k o a) POINT = Some (factors.DottedTwice minus k o a)
lengthened (factors.DottedTwice minus k o a) (PART s) = Some (factors.Whole minus k (units.Sub o a s))
lengthened _ _ = None

-- the factor, where it may end here
abbrev pub whole_factor : Factor → Option Signed
whole_factor (factors.Number minus value k) = Some (signed minus None (units.Literal value))
whole_factor (factors.Alone minus k o) = Some (signed minus k (units.Alone o))
whole_factor (factors.Attr minus k o a) = Some (signed minus k (units.Attr o a))
whole_factor (factors.Whole minus k u) = Some (signed minus k u)
whole_factor _ = None

-- the formula with all frames from this rank on that wait for it, and what is left of the stack
abbrev pub reduced : ℕ → Tree → List Frame → Tree × List Frame
reduced r f [] = (f, [])
reduced r f (w ∷ s) = if nat_le r (precedence w) then reduced r (filled w f) s else (f, w ∷ s)

-- a closing bracket
abbrev pub closed : Tree × List Frame → Option Body
closed (f, Bracket ∷ s) = Some (s, Have f)
closed _ = None

-- a token after a formula
abbrev pub behind : Tree → List Frame → Piece → Option Body
behind f s OR = let r = reduced 1 f s in Some (OrWith r.0 ∷ r.1, Want)
behind f s AND = let r = reduced 2 f s in Some (AndWith r.0 ∷ r.1, Want)
behind f s (UNTIL untils.Plain) = let r = reduced 4 f s in Some (UntilWith untils.Plain 0 r.0 ∷ r.1, Want)
behind f s (UNTIL untils.Within) = let r = reduced 4 f s in Some (r.1, Reach untils.Within r.0)
behind f s (UNTIL untils.After) = let r = reduced 4 f s in Some (r.1, Reach untils.After r.0)
behind f s CLOSE = closed (reduced 1 f s)
behind f s _ = None

-- a token after a whole term
abbrev pub term_ended : List Frame → TermPlace → List Signed → Piece → Option Body
term_ended s places.Left fs (COMPARISON op) = Some (s, InTerm (places.Right (term_of fs) op) [] factors.First)
term_ended s places.Left fs _ = None
term_ended s (places.Right t op) fs p = behind (Shape.Atom (atoms.Compare t op (term_of fs))) s p
term_ended s (places.Assigned v) fs CLOSE_SQUARE = Some (Assigning v (term_of fs) ∷ s, Want)
term_ended s (places.Assigned v) fs _ = None

-- a token after a whole factor
abbrev pub factor_ended : List Frame → TermPlace → List Signed → Piece → Option Body
factor_ended s place fs PLUS = Some (s, InTerm place fs (factors.Wanted false))
factor_ended s place fs MINUS = Some (s, InTerm place fs (factors.Wanted true))
factor_ended s place fs p = term_ended s place fs p

-- a token after what may be a whole factor
abbrev pub behind_factor : List Frame → TermPlace → List Signed → Option Signed → Piece → Option Body
behind_factor s place fs (Some u) p = factor_ended s place (fs ++ u ∷ []) p
behind_factor s place fs None p = None

-- the last factor made longer, where it is, and else what comes after it
abbrev pub longer_or : List Frame → TermPlace → List Signed → Option Factor → Option Body → Option Body
longer_or s place fs (Some last) later = Some (s, InTerm place fs last)
longer_or s place fs None later = later

-- a token in a term: it makes the last factor longer, or else comes after it
abbrev pub term_step : List Frame → TermPlace → List Signed → Factor → Piece → Option Body
term_step s place fs last p = longer_or s place fs (lengthened last p) (behind_factor s place fs (whole_factor last) p)

abbrev pub spatial_step : Spatial → Piece → Option Phase
spatial_step (spatials.PairOpen w) OPEN = Some (InSpatial (spatials.PairFirst w))
spatial_step (spatials.PairFirst w) (NAME o) = Some (InSpatial (spatials.PairComma w o))
spatial_step (spatials.PairComma w o) COMMA = Some (InSpatial (spatials.PairSecond w o))
spatial_step (spatials.PairSecond w o) (NAME p) = Some (InSpatial (spatials.PairClose w o p))
spatial_step (spatials.PairClose pairs.Inside o p) CLOSE = Some (Have (Shape.Atom (atoms.Inside o p)))
spatial_step (spatials.PairClose pairs.Outside o p) CLOSE = Some (Have (Shape.Atom (atoms.Outside o p)))
spatial_step (spatials.PairClose pairs.Dist o n) CLOSE = Some (InSpatial (spatials.DistOp o n))
spatial_step (spatials.DistOp o n) (COMPARISON op) = Some (InSpatial (spatials.DistNum o n op))
spatial_step (spatials.DistNum o n op) (NUMBER c) = Some (Have (Shape.Atom (atoms.Dist o n op (literal c))))
spatial_step (spatials.DistNum o n op) MINUS = Some (InSpatial (spatials.DistMinus o n op))
spatial_step (spatials.DistMinus o n op) (NUMBER c) = Some (Have (Shape.Atom (atoms.Dist o n op (neg_ℤ (literal c)))))
spatial_step spatials.SphereOpen OPEN = Some (InSpatial spatials.SphereRadius)
spatial_step spatials.SphereRadius (NUMBER r) = Some (InSpatial (spatials.SphereComma (radius_of r)))
spatial_step (spatials.SphereComma r) COMMA = Some (InSpatial (spatials.SphereName r []))
spatial_step (spatials.SphereName r ns) (NAME n) = Some (InSpatial (spatials.SphereNames r (ns ++ n ∷ [])))
spatial_step (spatials.SphereNames r ns) COMMA = Some (InSpatial (spatials.SphereName r ns))
spatial_step (spatials.SphereNames r ns) CLOSE = Some (Have (Shape.Atom (atoms.Sphere r ns)))
spatial_step _ _ = None

-- the beginning of a formula
abbrev pub wanted : List Frame → Piece → Option Body
wanted s (TRUTH b) = Some (s, Have (Shape.Truth b))
wanted s (PREFIX w) = Some (PrefixedBy w ∷ s, Want)
wanted s (BOUNDED form) = Some (s, Ticks form)
wanted s OPEN_SQUARE = Some (s, Variable)
wanted s OPEN = Some (Bracket ∷ s, Want)
wanted s INSIDE = Some (s, InSpatial (spatials.PairOpen pairs.Inside))
wanted s OUTSIDE = Some (s, InSpatial (spatials.PairOpen pairs.Outside))
wanted s DIST = Some (s, InSpatial (spatials.PairOpen pairs.Dist))
wanted s SPHERE = Some (s, InSpatial spatials.SphereOpen)
wanted s p = term_step s places.Left [] factors.First p

abbrev pub body_step : List Frame → Phase → Piece → Option Body
body_step s Want p = wanted s p
body_step s (Have f) p = behind f s p
body_step s (Reach form f) (NUMBER c) = Some (UntilWith form (ticks c) f ∷ s, Want)
body_step s (Reach form f) _ = None
body_step s (Ticks form) (NUMBER c) = Some (BoundedBy form (ticks c) ∷ s, Want)
body_step s (Ticks form) _ = None
body_step s Variable (NAME v) = Some (s, Arrow v)
body_step s Variable _ = None
body_step s (Arrow v) ARROW = Some (s, InTerm (places.Assigned v) [] factors.First)
body_step s (Arrow v) _ = None
body_step s (InTerm place fs last) p = term_step s place fs last p
body_step s (InSpatial x) p = option_map (λ phase. (s, phase)) (spatial_step x p)

abbrev pub step_by_token : State → Piece → Option State
step_by_token (Heading h ns ps) p = heading_step h ns ps p
step_by_token (Within ns ps b) p = option_map (Within ns ps) (body_step b.0 b.1 p)

-- the formula, where all that was begun is ended
abbrev pub ended_formula : Tree × List Frame → Option Tree
ended_formula (f, []) = Some f
ended_formula (f, w ∷ s) = None

-- the formula whose last atom is this comparison, where its last factor is whole
abbrev pub compared : List Frame → Term → Op → List Signed → Option Signed → Option Tree
compared s t op fs (Some u) = ended_formula (reduced 1 (Shape.Atom (atoms.Compare t op (term_of (fs ++ u ∷ [])))) s)
compared s t op fs None = None

-- the formula, where the tokens may end here
abbrev pub body_end : List Frame → Phase → Option Tree
body_end s (Have f) = ended_formula (reduced 1 f s)
body_end s (InTerm (places.Right t op) fs last) = compared s t op fs (whole_factor last)
body_end s _ = None

-- the query, where the tokens may end here
abbrev pub ended_query : State → Option QueryTree
ended_query (Within ns ps b) = option_map (λ f. record { targets = ns; from = ps; formula = f }) (body_end b.0 b.1)
ended_query (Heading h ns ps) = None

-- the query that the tokens are, from a state on
abbrev pub parsed : State → List Piece → Option QueryTree
parsed x [] = ended_query x
parsed x (p ∷ tokens) = option_and_then (λ y. parsed y tokens) (step_by_token x p)

-- the state after some tokens
abbrev pub run : State → List Piece → Option State
run x [] = Some x
run x (p ∷ tokens) = option_and_then (λ y. run y tokens) (step_by_token x p)

-- how many tokens are taken
abbrev pub tokens_taken : State → List Piece → ℕ
tokens_taken x [] = 0
tokens_taken x (p ∷ tokens) = option_map_or (λ y. suc (tokens_taken y tokens)) (step_by_token x p) 0
