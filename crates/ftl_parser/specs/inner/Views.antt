-- The parser's values as the machine's.
use Rattle.std.specs.Prelude.{◌≡◌, ℕ, ◌<◌, Bool, true, false, List, [], ◌∷◌, ◌++◌, fold, Option, None, Some, if◌then◌else◌}
use Rattle.ftl_parser.specs.declared.tree.Signed.{Signed}
use Rattle.ftl_parser.specs.declared.head.State as state_type
use Rattle.ftl_parser.specs.declared.head.State.TheVariants as states
use Rattle.ftl_parser.specs.declared.head.Kept.{Kept}
use Rattle.ftl_parser.specs.declared.head.Spelled.{Spelled}
use Rattle.ftl_parser.specs.declared.state.Spatial.{Spatial}
use Rattle.ftl_parser.specs.declared.state.Spatial.TheVariants as spatials
use Rattle.ftl_parser.specs.declared.piece.Piece as piece_type
use Rattle.ftl_parser.specs.declared.piece.Piece.TheVariants as pieces
use Rattle.ftl_parser.specs.Tree.{QueryTree}
use Rattle.ftl_parser.specs.Words.{short_word}
use Rattle.ftl_parser.specs.inner.Machine.{Frame, precedence, Phase, Have, Reach, InTerm, InSpatial, Body, State, Heading, Within, term_step, factor_ended, body_step}
use Rattle.ftl_parser.specs.Piece.{Piece, RETRIEVE, FROM, WHERE, AND, OR, TRUTH, PREFIX, BOUNDED, UNTIL, INSIDE, OUTSIDE, DIST, SPHERE, TIME, PART, OPEN, CLOSE, OPEN_SQUARE, CLOSE_SQUARE, COMMA, POINT, PLUS, MINUS, STAR, ARROW, COMPARISON, NAME, NUMBER, TEXT, WORD}

-- a token
abbrev pub piece_view : piece_type.Piece → Piece
piece_view pieces.Retrieve = RETRIEVE
piece_view pieces.From = FROM
piece_view pieces.Where = WHERE
piece_view pieces.And = AND
piece_view pieces.Or = OR
piece_view (pieces.Truth b) = TRUTH b
piece_view (pieces.Prefix w) = PREFIX w
piece_view (pieces.Bounded form) = BOUNDED form
piece_view (pieces.Until form) = UNTIL form
piece_view pieces.Inside = INSIDE
piece_view pieces.Outside = OUTSIDE
piece_view pieces.Dist = DIST
piece_view pieces.Sphere = SPHERE
piece_view pieces.Time = TIME
piece_view (pieces.Part s) = PART s
piece_view pieces.Open = OPEN
piece_view pieces.Close = CLOSE
piece_view pieces.OpenSquare = OPEN_SQUARE
piece_view pieces.CloseSquare = CLOSE_SQUARE
piece_view pieces.Comma = COMMA
piece_view pieces.Point = POINT
piece_view pieces.Plus = PLUS
piece_view pieces.Minus = MINUS
piece_view pieces.Star = STAR
piece_view pieces.Arrow = ARROW
piece_view (pieces.Comparison op) = COMPARISON op
piece_view (pieces.Name n) = NAME (short_word n.now)
piece_view (pieces.Number n) = NUMBER n.now
piece_view (pieces.Text t) = TEXT (short_word t.now)
piece_view (pieces.Word code) = WORD code

-- the stack, whose topmost frame is the last one kept
abbrev pub stack_of : List Frame → List Frame
stack_of = fold (λ s w. w ∷ s) []

-- the topmost frame, if there is one, binds less
abbrev pub StaysBelow : ℕ → List Frame → Type 0
StaysBelow least [] = Unit {0}
StaysBelow least (w ∷ s) = precedence w < least

-- the factor is at the end of the others now, where there is one
abbrev pub AddsWhole : List Signed → List Signed → Option Signed → Bool → Type 0
AddsWhole old new (Some u) added = (added ≡ true) × (new ≡ old ++ u ∷ [])
AddsWhole old new None added = added ≡ false

-- an atom that begins with its word is read
abbrev pub IsSpatial : Phase → Type 0
IsSpatial (InSpatial x) = Unit {0}
IsSpatial phase = ⊥

-- names of a circle are read
abbrev pub HasNames : Phase → Type 0
HasNames (InSpatial (spatials.SphereName r ns)) = Unit {0}
HasNames (InSpatial (spatials.SphereNames r ns)) = Unit {0}
HasNames phase = ⊥

-- something in the brackets round two names is waited for
abbrev pub IsPair : Spatial → Type 0
IsPair (spatials.PairOpen w) = Unit {0}
IsPair (spatials.PairFirst w) = Unit {0}
IsPair (spatials.PairComma w o) = Unit {0}
IsPair (spatials.PairSecond w o) = Unit {0}
IsPair (spatials.PairClose w o p) = Unit {0}
IsPair x = ⊥

-- something behind the names of a distance is waited for
abbrev pub IsDist : Spatial → Type 0
IsDist (spatials.DistOp o n) = Unit {0}
IsDist (spatials.DistNum o n op) = Unit {0}
IsDist (spatials.DistMinus o n op) = Unit {0}
IsDist x = ⊥

-- something before the names of a circle is waited for
abbrev pub IsCircle : Spatial → Type 0
IsCircle spatials.SphereOpen = Unit {0}
IsCircle spatials.SphereRadius = Unit {0}
IsCircle (spatials.SphereComma r) = Unit {0}
IsCircle x = ⊥

-- no names of a circle are waited for
abbrev pub IsPlain : Spatial → Type 0
IsPlain (spatials.SphereName r ns) = ⊥
IsPlain (spatials.SphereNames r ns) = ⊥
IsPlain x = Unit {0}

-- the stack is another with one frame more
abbrev pub SomeIsOnTop : List Frame → List Frame → Type 0
SomeIsOnTop old new = (w : Frame) × (old ≡ w ∷ new)

-- where a formula stands in its reading, if the token was taken
abbrev pub body_if_taken : Bool → List Frame → Phase → Option Body
body_if_taken taken s phase = if taken then Some (s, phase) else None

abbrev pub body_of : Bool → List Frame → Phase → Option Body
body_of taken stack phase = body_if_taken taken (stack_of stack) phase

-- a token in a term
abbrev pub in_term : List Frame → Phase → Piece → Option Body
in_term s (InTerm place fs last) p = term_step s place fs last p
in_term s phase p = None

-- a token after a term whose last factor stands at the end of the others
abbrev pub behind_whole : List Frame → Phase → Piece → Option Body
behind_whole s (InTerm place fs last) p = factor_ended s place fs p
behind_whole s phase p = None

-- a token where a formula is kept with what comes next
abbrev pub with_formula : List Frame → Phase → Piece → Option Body
with_formula s (Have f) p = body_step s (Have f) p
with_formula s (Reach form f) p = body_step s (Reach form f) p
with_formula s phase p = None

-- the state, with the lists that are kept
abbrev pub kept_view : Kept → state_type.State → State
kept_view kept (states.Heading h) = Heading h kept.targets kept.from
kept_view kept (states.Within phase) = Within kept.targets kept.from (stack_of kept.stack.items, phase)

-- the state, if the token was taken
abbrev pub state_if_taken : Bool → Kept → state_type.State → Option State
state_if_taken taken kept state = if taken then Some (kept_view kept state) else None

abbrev pub spelled_view : Spelled → QueryTree
spelled_view q = record { targets = q.targets; from = q.from; formula = q.formula }
