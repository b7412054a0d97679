-- The machine after WHERE alone, and what may stand after a formula.
use Rattle.ftl_parser.proofs.Names.{◌≡◌, ℕ, ◌<◌, ◌≤◌, Bool, true, false, List, [], ◌∷◌, Option, None, Some, option_map, option_and_then, refl, IsTrue, arith, Shape, Signed, FromPart, TermPlace, Tree, QueryTree, Piece, AND, OR, UNTIL, CLOSE, POINT, STAR, Level, formula, conj, chain, unary, term_of, Frame, precedence, Phase, Body, Within, body_step, body_end, factor_ended, reduced, ended_formula, parsed}
use Rattle.ftl_parser.specs.declared.tree.Atom.TheVariants as atoms
use Rattle.ftl_parser.specs.declared.state.TermPlace.TheVariants as places

-- the formula that the tokens are, from a place of a formula on
abbrev pub body_parsed : List Frame → Phase → List Piece → Option Tree
body_parsed s phase [] = body_end s phase
body_parsed s phase (p ∷ tokens) = option_and_then (λ b. body_parsed b.0 b.1 tokens) (body_step s phase p)

-- the formula that the tokens are after a token that was taken
abbrev pub then_parsed : List Piece → Option Body → Option Tree
then_parsed tokens = option_and_then (λ b. body_parsed b.0 b.1 tokens)

-- the query with this formula
abbrev pub query_with : List (List ℕ) → List FromPart → Tree → QueryTree
query_with ns ps f = record { targets = ns; from = ps; formula = f }

-- the end of tokens after a whole term
abbrev pub term_end : List Frame → TermPlace → List Signed → Option Tree
term_end s (places.Right t op) fs = ended_formula (reduced 1 (Shape.Atom (atoms.Compare t op (term_of fs))) s)
term_end s places.Left fs = None
term_end s (places.Assigned v) fs = None

-- the formula that the tokens are, after a whole term
abbrev pub term_behind : List Frame → TermPlace → List Signed → List Piece → Option Tree
term_behind s place fs [] = term_end s place fs
term_behind s place fs (p ∷ tokens) = option_and_then (λ b. body_parsed b.0 b.1 tokens) (factor_ended s place fs p)

-- the rank from which frames end at what stands after a formula; 0 where it can't stand there
abbrev pub stop : List Piece → ℕ
stop [] = 1
stop (CLOSE ∷ tokens) = 1
stop (OR ∷ tokens) = 1
stop (AND ∷ tokens) = 2
stop (UNTIL form ∷ tokens) = 4
stop (p ∷ tokens) = 0

abbrev pub level_rank : Level → ℕ
level_rank formula = 1
level_rank conj = 2
level_rank chain = 3
level_rank unary = 4

-- the tokens may stand after a formula of this level, and end it
pub record Follows (l : Level) (tokens : List Piece) : Type 0 where
  pub stops : 0 < stop tokens
  pub ends : stop tokens ≤ level_rank l

-- the rank of the topmost frame
abbrev pub top : List Frame → ℕ
top [] = 0
top (w ∷ s) = precedence w

-- the rank that the topmost frame is below where a formula of this level begins
abbrev pub room : Level → ℕ
room formula = 1
room conj = 2
room chain = 4
room unary = 5

-- the tokens don't go on with `*` or a point
abbrev pub cuts : List Piece → Bool
cuts (STAR ∷ tokens) = false
cuts (POINT ∷ tokens) = false
cuts _ = true

-- after WHERE the machine is the machine of the formula
pub parsed-Within : (ns : List (List ℕ)) (ps : List FromPart) (s : List Frame) (phase : Phase) (tokens : List Piece) →
    parsed (Within ns ps (s, phase)) tokens ≡ option_map (query_with ns ps) (body_parsed s phase tokens)
parsed-Within ns ps s phase [] = refl
parsed-Within ns ps s phase (p ∷ tokens) = goes (body_step s phase p) (λ b. parsed-Within ns ps b.0 b.1 tokens)
  where
    goes : (o : Option Body) → ((b : Body) → parsed (Within ns ps b) tokens ≡ option_map (query_with ns ps) (body_parsed b.0 b.1 tokens)) →
        option_and_then (λ y. parsed y tokens) (option_map (Within ns ps) o)
        ≡ option_map (query_with ns ps) (option_and_then (λ b. body_parsed b.0 b.1 tokens) o)
    goes None later = refl
    goes (Some b) later = later b

-- what a false test proves
pub never : {A : Type 0} → IsTrue false → A
never h = absurd (cc h)

pub nothing : {A : Type 0} → 0 < 0 → A
nothing h = absurd (omega arith)

-- what stands after a formula is no `*` and no point
pub stop-cuts : (rest : List Piece) → 0 < stop rest → IsTrue (cuts rest)
stop-cuts [] h = refl
stop-cuts (STAR ∷ rest) h = nothing h
stop-cuts (POINT ∷ rest) h = nothing h
stop-cuts (p ∷ rest) h = refl
