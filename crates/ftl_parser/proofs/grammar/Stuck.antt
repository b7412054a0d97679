-- Each state can be completed, so the machine takes exactly the tokens with which some query begins.
use Rattle.std.proofs.Common.{◌≡◌, ℕ, neg_ℤ, zero, suc, ◌<◌, ◌≤◌, true, false, List, [], ◌∷◌, ◌++◌, length, take, Option, None, Some, option_map, option_and_then, IsTrue, refl, ap, ◌∙◌, arith}
use Rattle.std.specs.Prelude.{codes}
use Rattle.std.specs.List.{AllByRecursion}
use Rattle.std.specs.Option.{option_map_or}
use Rattle.case_table.specs.declared.compare.Op.TheVariants as ops
use Rattle.case_table.specs.Language.{reserved_words, symbols}
use Rattle.fixed_point.specs.declared.variants.SubName.TheVariants as subs
use Rattle.formula_shape.specs.Shape.{Shape}
use Rattle.ftl_lexer.specs.declared.kinds.Kind.TheVariants as kinds
use Rattle.ftl_parser.specs.declared.tree.Atom.TheVariants as atoms
use Rattle.ftl_parser.specs.declared.tree.Unit.TheVariants as units
use Rattle.ftl_parser.specs.declared.tree.Signed.{Signed}
use Rattle.ftl_parser.specs.declared.tree.FromPart.{FromPart}
use Rattle.ftl_parser.specs.declared.state.Head.{Head}
use Rattle.ftl_parser.specs.declared.state.Head.TheVariants as heads
use Rattle.ftl_parser.specs.declared.state.Pair.{Pair}
use Rattle.ftl_parser.specs.declared.state.Pair.TheVariants as pairs
use Rattle.ftl_parser.specs.declared.state.TermPlace.{TermPlace}
use Rattle.ftl_parser.specs.declared.state.TermPlace.TheVariants as places
use Rattle.ftl_parser.specs.declared.state.Factor.{Factor}
use Rattle.ftl_parser.specs.declared.state.Factor.TheVariants as factors
use Rattle.ftl_parser.specs.declared.state.Spatial.{Spatial}
use Rattle.ftl_parser.specs.declared.state.Spatial.TheVariants as spatials
use Rattle.ftl_parser.specs.Tree.{Tree, QueryTree}
use Rattle.ftl_parser.specs.Number.{ticks, literal, radius_of}
use Rattle.ftl_parser.specs.Piece.{Piece, RETRIEVE, FROM, WHERE, TRUTH, TIME, PART, OPEN, CLOSE, CLOSE_SQUARE, COMMA, ARROW, COMPARISON, NAME, NUMBER}
use Rattle.ftl_parser.specs.Grammar.{prefixed, signed, term_of, from_part}
use Rattle.ftl_parser.specs.inner.Machine.{Frame, Bracket, OrWith, AndWith, UntilWith, PrefixedBy, BoundedBy, Assigning, Phase, Want, Have, Reach, Ticks, Variable, Arrow, InTerm, InSpatial, State, Heading, Within, start, step_by_token, parsed, tokens_taken}
use Rattle.ftl_parser.specs.Fault.{IsToken, BeginsQuery, IsStuckAt}
use Rattle.ftl_parser.proofs.grammar.Bodies.{body_parsed, query_with, term_behind, stop, cuts, stop-cuts, parsed-Within}
use Rattle.ftl_parser.proofs.grammar.Drives.{fills, whole-ends, number-ends, alone-ends, attr-ends, right-ends, drives_query}
use Rattle.ftl_parser.proofs.grammar.Found.{found_query}

-- the name and the number that complete
abbrev word : List ℕ
word = codes "a"

abbrev digit : List ℕ
digit = codes "0"

a_name : IsToken (NAME word)
unfolding reserved_words
a_name = ((kinds.Name, word), (refl, refl), refl)

a_number : IsToken (NUMBER digit)
a_number = ((kinds.Number, digit), refl, refl)

a_retrieve : IsToken RETRIEVE
unfolding reserved_words
a_retrieve = ((kinds.Key 0, codes "RETRIEVE"), refl, refl)

a_from : IsToken FROM
unfolding reserved_words
a_from = ((kinds.Key 1, codes "FROM"), refl, refl)

a_where : IsToken WHERE
unfolding reserved_words
a_where = ((kinds.Key 2, codes "WHERE"), refl, refl)

a_truth : IsToken (TRUTH true)
unfolding reserved_words
a_truth = ((kinds.Key 3, codes "TRUE"), refl, refl)

a_time : IsToken TIME
unfolding reserved_words
a_time = ((kinds.Key 21, codes "TIME"), refl, refl)

a_part : IsToken (PART subs.Value)
unfolding reserved_words
a_part = ((kinds.Key 22, codes "value"), refl, refl)

an_open : IsToken OPEN
unfolding symbols
an_open = ((kinds.Sym 0, codes "("), refl, refl)

a_close : IsToken CLOSE
unfolding symbols
a_close = ((kinds.Sym 1, codes ")"), refl, refl)

a_close_square : IsToken CLOSE_SQUARE
unfolding symbols
a_close_square = ((kinds.Sym 3, codes "]"), refl, refl)

a_comma : IsToken COMMA
unfolding symbols
a_comma = ((kinds.Sym 4, codes ","), refl, refl)

a_comparison : IsToken (COMPARISON ops.Lt)
unfolding symbols
a_comparison = ((kinds.Sym 13, codes "<"), refl, refl)

an_arrow : IsToken ARROW
unfolding symbols
an_arrow = ((kinds.Sym 15, codes "<-"), refl, refl)

-- tokens that a line can have
abbrev AreTokens : List Piece → Type 0
AreTokens = AllByRecursion IsToken

-- a closing bracket for each open one
abbrev closes : List Frame → List Piece
closes [] = []
closes (Bracket ∷ s) = CLOSE ∷ closes s
closes (OrWith f ∷ s) = closes s
closes (AndWith f ∷ s) = closes s
closes (UntilWith form c f ∷ s) = closes s
closes (PrefixedBy w ∷ s) = closes s
closes (BoundedBy form c ∷ s) = closes s
closes (Assigning v t ∷ s) = closes s

closes-tokens : (s : List Frame) → AreTokens (closes s)
closes-tokens [] = tt
closes-tokens (Bracket ∷ s) = (a_close, closes-tokens s)
closes-tokens (OrWith f ∷ s) = closes-tokens s
closes-tokens (AndWith f ∷ s) = closes-tokens s
closes-tokens (UntilWith form c f ∷ s) = closes-tokens s
closes-tokens (PrefixedBy w ∷ s) = closes-tokens s
closes-tokens (BoundedBy form c ∷ s) = closes-tokens s
closes-tokens (Assigning v t ∷ s) = closes-tokens s

stop-closes : (s : List Frame) → stop (closes s) ≡ 1
stop-closes [] = refl
stop-closes (Bracket ∷ s) = refl
stop-closes (OrWith f ∷ s) = stop-closes s
stop-closes (AndWith f ∷ s) = stop-closes s
stop-closes (UntilWith form c f ∷ s) = stop-closes s
stop-closes (PrefixedBy w ∷ s) = stop-closes s
stop-closes (BoundedBy form c ∷ s) = stop-closes s
stop-closes (Assigning v t ∷ s) = stop-closes s

stops-closes : (s : List Frame) → 0 < stop (closes s)
stops-closes s = omega (arith, stop-closes s)

-- some formula is parsed
abbrev Completes : List Frame → Phase → List Piece → Type 0
Completes s phase tokens = (f : Tree) × (body_parsed s phase tokens ≡ Some f)

have-completes : (s : List Frame) (f : Tree) → Completes s (Have f) (closes s)
have-completes [] f = (f, refl)
have-completes (Bracket ∷ s) f = have-completes s f
have-completes (OrWith g ∷ s) f =
    let r = have-completes s (Shape.Or g f) in
    (r.0, fills (OrWith g) s f (closes s) (stops-closes s) (omega (arith, stop-closes s)) ∙ r.1)
have-completes (AndWith g ∷ s) f =
    let r = have-completes s (Shape.And g f) in
    (r.0, fills (AndWith g) s f (closes s) (stops-closes s) (omega (arith, stop-closes s)) ∙ r.1)
have-completes (UntilWith form c g ∷ s) f =
    let r = have-completes s (Shape.Until form c g f) in
    (r.0, fills (UntilWith form c g) s f (closes s) (stops-closes s) (omega (arith, stop-closes s)) ∙ r.1)
have-completes (PrefixedBy w ∷ s) f =
    let r = have-completes s (prefixed w f) in
    (r.0, fills (PrefixedBy w) s f (closes s) (stops-closes s) (omega (arith, stop-closes s)) ∙ r.1)
have-completes (BoundedBy form c ∷ s) f =
    let r = have-completes s (Shape.Bounded form c f) in
    (r.0, fills (BoundedBy form c) s f (closes s) (stops-closes s) (omega (arith, stop-closes s)) ∙ r.1)
have-completes (Assigning v t ∷ s) f =
    let r = have-completes s (Shape.Assign (v, t) f) in
    (r.0, fills (Assigning v t) s f (closes s) (stops-closes s) (omega (arith, stop-closes s)) ∙ r.1)

-- the rest of an atom after a whole term
abbrev term_tail : TermPlace → List Frame → List Piece
term_tail places.Left s = COMPARISON ops.Lt ∷ TIME ∷ closes s
term_tail (places.Right t op) s = closes s
term_tail (places.Assigned v) s = CLOSE_SQUARE ∷ TRUTH true ∷ closes s

tail-cuts : (place : TermPlace) (s : List Frame) → IsTrue (cuts (term_tail place s))
tail-cuts places.Left s = refl
tail-cuts (places.Right t op) s = stop-cuts (closes s) (stops-closes s)
tail-cuts (places.Assigned v) s = refl

term-tokens : (place : TermPlace) (s : List Frame) → AreTokens (term_tail place s)
term-tokens places.Left s = (a_comparison, (a_time, closes-tokens s))
term-tokens (places.Right t op) s = closes-tokens s
term-tokens (places.Assigned v) s = (a_close_square, (a_truth, closes-tokens s))

term-completes : (place : TermPlace) (s : List Frame) (fs : List Signed) → (f : Tree) × (term_behind s place fs (term_tail place s) ≡ Some f)
term-completes places.Left s fs =
    let time = signed false None units.Time ∷ [] in
    let r = have-completes s (Shape.Atom (atoms.Compare (term_of fs) ops.Lt (term_of time))) in (
      r.0,
      whole-ends s (places.Right (term_of fs) ops.Lt) [] false None units.Time (closes s)
          ∙ (right-ends s (term_of fs) ops.Lt time (closes s) (stops-closes s) ∙ r.1),
    )
term-completes (places.Right t op) s fs =
    let r = have-completes s (Shape.Atom (atoms.Compare t op (term_of fs))) in
    (r.0, right-ends s t op fs (closes s) (stops-closes s) ∙ r.1)
term-completes (places.Assigned v) s fs = have-completes (Assigning v (term_of fs) ∷ s) (Shape.Truth true)

-- the rest of a factor
abbrev factor_tail : Factor → List Piece
factor_tail factors.First = TIME ∷ []
factor_tail (factors.Wanted m) = TIME ∷ []
factor_tail (factors.Number m value k) = []
factor_tail (factors.Times m k) = TIME ∷ []
factor_tail (factors.Alone m k o) = []
factor_tail (factors.Dotted m k o) = NAME word ∷ []
factor_tail (factors.Attr m k o a) = []
factor_tail (factors.DottedTwice m k o a) = PART subs.Value ∷ []
factor_tail (factors.Whole m k u) = []

factor-tokens : (last : Factor) (rest : List Piece) → AreTokens rest → AreTokens (factor_tail last ++ rest)
factor-tokens factors.First rest are = (a_time, are)
factor-tokens (factors.Wanted m) rest are = (a_time, are)
factor-tokens (factors.Number m value k) rest are = are
factor-tokens (factors.Times m k) rest are = (a_time, are)
factor-tokens (factors.Alone m k o) rest are = are
factor-tokens (factors.Dotted m k o) rest are = (a_name, are)
factor-tokens (factors.Attr m k o a) rest are = are
factor-tokens (factors.DottedTwice m k o a) rest are = (a_part, are)
factor-tokens (factors.Whole m k u) rest are = are

factor-completes : (last : Factor) (s : List Frame) (place : TermPlace) (fs : List Signed)
    → Completes s (InTerm place fs last) (factor_tail last ++ term_tail place s)
factor-completes factors.First s place fs =
    let r = term-completes place s (fs ++ signed false None units.Time ∷ []) in
    (r.0, whole-ends s place fs false None units.Time (term_tail place s) ∙ r.1)
factor-completes (factors.Wanted m) s place fs =
    let r = term-completes place s (fs ++ signed m None units.Time ∷ []) in
    (r.0, whole-ends s place fs m None units.Time (term_tail place s) ∙ r.1)
factor-completes (factors.Number m value k) s place fs =
    let r = term-completes place s (fs ++ signed m None (units.Literal value) ∷ []) in
    (r.0, number-ends s place fs m value k (term_tail place s) (tail-cuts place s) ∙ r.1)
factor-completes (factors.Times m k) s place fs =
    let r = term-completes place s (fs ++ signed m (Some k) units.Time ∷ []) in
    (r.0, whole-ends s place fs m (Some k) units.Time (term_tail place s) ∙ r.1)
factor-completes (factors.Alone m k o) s place fs =
    let r = term-completes place s (fs ++ signed m k (units.Alone o) ∷ []) in
    (r.0, alone-ends s place fs m k o (term_tail place s) (tail-cuts place s) ∙ r.1)
factor-completes (factors.Dotted m k o) s place fs =
    let r = term-completes place s (fs ++ signed m k (units.Attr o word) ∷ []) in
    (r.0, attr-ends s place fs m k o word (term_tail place s) (tail-cuts place s) ∙ r.1)
factor-completes (factors.Attr m k o a) s place fs =
    let r = term-completes place s (fs ++ signed m k (units.Attr o a) ∷ []) in
    (r.0, attr-ends s place fs m k o a (term_tail place s) (tail-cuts place s) ∙ r.1)
factor-completes (factors.DottedTwice m k o a) s place fs =
    let r = term-completes place s (fs ++ signed m k (units.Sub o a subs.Value) ∷ []) in
    (r.0, whole-ends s place fs m k (units.Sub o a subs.Value) (term_tail place s) ∙ r.1)
factor-completes (factors.Whole m k u) s place fs =
    let r = term-completes place s (fs ++ signed m k u ∷ []) in
    (r.0, whole-ends s place fs m k u (term_tail place s) ∙ r.1)

-- the rest of an atom that begins with its word, and what closes the brackets
abbrev closed_pair : Pair → List Piece → List Piece
closed_pair pairs.Inside rest = CLOSE ∷ rest
closed_pair pairs.Outside rest = CLOSE ∷ rest
closed_pair pairs.Dist rest = CLOSE ∷ COMPARISON ops.Lt ∷ NUMBER digit ∷ rest

abbrev spatial_tail : Spatial → List Piece → List Piece
spatial_tail (spatials.PairOpen w) rest = OPEN ∷ NAME word ∷ COMMA ∷ NAME word ∷ closed_pair w rest
spatial_tail (spatials.PairFirst w) rest = NAME word ∷ COMMA ∷ NAME word ∷ closed_pair w rest
spatial_tail (spatials.PairComma w o) rest = COMMA ∷ NAME word ∷ closed_pair w rest
spatial_tail (spatials.PairSecond w o) rest = NAME word ∷ closed_pair w rest
spatial_tail (spatials.PairClose w o p) rest = closed_pair w rest
spatial_tail (spatials.DistOp o n) rest = COMPARISON ops.Lt ∷ NUMBER digit ∷ rest
spatial_tail (spatials.DistNum o n op) rest = NUMBER digit ∷ rest
spatial_tail (spatials.DistMinus o n op) rest = NUMBER digit ∷ rest
spatial_tail spatials.SphereOpen rest = OPEN ∷ NUMBER digit ∷ COMMA ∷ NAME word ∷ CLOSE ∷ rest
spatial_tail spatials.SphereRadius rest = NUMBER digit ∷ COMMA ∷ NAME word ∷ CLOSE ∷ rest
spatial_tail (spatials.SphereComma r) rest = COMMA ∷ NAME word ∷ CLOSE ∷ rest
spatial_tail (spatials.SphereName r ns) rest = NAME word ∷ CLOSE ∷ rest
spatial_tail (spatials.SphereNames r ns) rest = CLOSE ∷ rest

pair-tokens : (w : Pair) (rest : List Piece) → AreTokens rest → AreTokens (closed_pair w rest)
pair-tokens pairs.Inside rest are = (a_close, are)
pair-tokens pairs.Outside rest are = (a_close, are)
pair-tokens pairs.Dist rest are = (a_close, (a_comparison, (a_number, are)))

spatial-tokens : (x : Spatial) (rest : List Piece) → AreTokens rest → AreTokens (spatial_tail x rest)
spatial-tokens (spatials.PairOpen w) rest are = (an_open, (a_name, (a_comma, (a_name, pair-tokens w rest are))))
spatial-tokens (spatials.PairFirst w) rest are = (a_name, (a_comma, (a_name, pair-tokens w rest are)))
spatial-tokens (spatials.PairComma w o) rest are = (a_comma, (a_name, pair-tokens w rest are))
spatial-tokens (spatials.PairSecond w o) rest are = (a_name, pair-tokens w rest are)
spatial-tokens (spatials.PairClose w o p) rest are = pair-tokens w rest are
spatial-tokens (spatials.DistOp o n) rest are = (a_comparison, (a_number, are))
spatial-tokens (spatials.DistNum o n op) rest are = (a_number, are)
spatial-tokens (spatials.DistMinus o n op) rest are = (a_number, are)
spatial-tokens spatials.SphereOpen rest are = (an_open, (a_number, (a_comma, (a_name, (a_close, are)))))
spatial-tokens spatials.SphereRadius rest are = (a_number, (a_comma, (a_name, (a_close, are))))
spatial-tokens (spatials.SphereComma r) rest are = (a_comma, (a_name, (a_close, are)))
spatial-tokens (spatials.SphereName r ns) rest are = (a_name, (a_close, are))
spatial-tokens (spatials.SphereNames r ns) rest are = (a_close, are)

pair-completes : (w : Pair) (s : List Frame) (o p : List ℕ) → Completes s (InSpatial (spatials.PairClose w o p)) (closed_pair w (closes s))
pair-completes pairs.Inside s o p = have-completes s (Shape.Atom (atoms.Inside o p))
pair-completes pairs.Outside s o p = have-completes s (Shape.Atom (atoms.Outside o p))
pair-completes pairs.Dist s o p = have-completes s (Shape.Atom (atoms.Dist o p ops.Lt (literal digit)))

spatial-completes : (x : Spatial) (s : List Frame) → Completes s (InSpatial x) (spatial_tail x (closes s))
spatial-completes (spatials.PairOpen w) s = pair-completes w s word word
spatial-completes (spatials.PairFirst w) s = pair-completes w s word word
spatial-completes (spatials.PairComma w o) s = pair-completes w s o word
spatial-completes (spatials.PairSecond w o) s = pair-completes w s o word
spatial-completes (spatials.PairClose w o p) s = pair-completes w s o p
spatial-completes (spatials.DistOp o n) s = have-completes s (Shape.Atom (atoms.Dist o n ops.Lt (literal digit)))
spatial-completes (spatials.DistNum o n op) s = have-completes s (Shape.Atom (atoms.Dist o n op (literal digit)))
spatial-completes (spatials.DistMinus o n op) s = have-completes s (Shape.Atom (atoms.Dist o n op (neg_ℤ (literal digit))))
spatial-completes spatials.SphereOpen s = have-completes s (Shape.Atom (atoms.Sphere (radius_of digit) (word ∷ [])))
spatial-completes spatials.SphereRadius s = have-completes s (Shape.Atom (atoms.Sphere (radius_of digit) (word ∷ [])))
spatial-completes (spatials.SphereComma r) s = have-completes s (Shape.Atom (atoms.Sphere r (word ∷ [])))
spatial-completes (spatials.SphereName r ns) s = have-completes s (Shape.Atom (atoms.Sphere r (ns ++ word ∷ [])))
spatial-completes (spatials.SphereNames r ns) s = have-completes s (Shape.Atom (atoms.Sphere r ns))

-- tokens that make any place after WHERE the end of a formula
abbrev body_completion : List Frame → Phase → List Piece
body_completion s Want = TRUTH true ∷ closes s
body_completion s (Have f) = closes s
body_completion s (Reach form f) = NUMBER digit ∷ TRUTH true ∷ closes s
body_completion s (Ticks form) = NUMBER digit ∷ TRUTH true ∷ closes s
body_completion s Variable = NAME word ∷ ARROW ∷ TIME ∷ CLOSE_SQUARE ∷ TRUTH true ∷ closes s
body_completion s (Arrow v) = ARROW ∷ TIME ∷ CLOSE_SQUARE ∷ TRUTH true ∷ closes s
body_completion s (InTerm place fs last) = factor_tail last ++ term_tail place s
body_completion s (InSpatial x) = spatial_tail x (closes s)

body-tokens : (s : List Frame) (phase : Phase) → AreTokens (body_completion s phase)
body-tokens s Want = (a_truth, closes-tokens s)
body-tokens s (Have f) = closes-tokens s
body-tokens s (Reach form f) = (a_number, (a_truth, closes-tokens s))
body-tokens s (Ticks form) = (a_number, (a_truth, closes-tokens s))
body-tokens s Variable = (a_name, (an_arrow, (a_time, (a_close_square, (a_truth, closes-tokens s)))))
body-tokens s (Arrow v) = (an_arrow, (a_time, (a_close_square, (a_truth, closes-tokens s))))
body-tokens s (InTerm place fs last) = factor-tokens last (term_tail place s) (term-tokens place s)
body-tokens s (InSpatial x) = spatial-tokens x (closes s) (closes-tokens s)

body-completes : (s : List Frame) (phase : Phase) → Completes s phase (body_completion s phase)
body-completes s Want = have-completes s (Shape.Truth true)
body-completes s (Have f) = have-completes s f
body-completes s (Reach form f) = have-completes (UntilWith form (ticks digit) f ∷ s) (Shape.Truth true)
body-completes s (Ticks form) = have-completes (BoundedBy form (ticks digit) ∷ s) (Shape.Truth true)
body-completes s Variable = have-completes (Assigning word (term_of (signed false None units.Time ∷ [])) ∷ s) (Shape.Truth true)
body-completes s (Arrow v) = have-completes (Assigning v (term_of (signed false None units.Time ∷ [])) ∷ s) (Shape.Truth true)
body-completes s (InTerm place fs last) = factor-completes last s place fs
body-completes s (InSpatial x) = spatial-completes x s

-- tokens that make any place before WHERE a query
abbrev head_completion : Head → List Piece
head_completion heads.Start = RETRIEVE ∷ NAME word ∷ FROM ∷ NAME word ∷ NAME word ∷ WHERE ∷ TRUTH true ∷ []
head_completion heads.Target = NAME word ∷ FROM ∷ NAME word ∷ NAME word ∷ WHERE ∷ TRUTH true ∷ []
head_completion heads.Targets = FROM ∷ NAME word ∷ NAME word ∷ WHERE ∷ TRUTH true ∷ []
head_completion heads.Class = NAME word ∷ NAME word ∷ WHERE ∷ TRUTH true ∷ []
head_completion (heads.Var c) = NAME word ∷ WHERE ∷ TRUTH true ∷ []
head_completion heads.Parts = WHERE ∷ TRUTH true ∷ []

head-tokens : (h : Head) → AreTokens (head_completion h)
head-tokens heads.Start = (a_retrieve, (a_name, (a_from, (a_name, (a_name, (a_where, (a_truth, tt)))))))
head-tokens heads.Target = (a_name, (a_from, (a_name, (a_name, (a_where, (a_truth, tt))))))
head-tokens heads.Targets = (a_from, (a_name, (a_name, (a_where, (a_truth, tt)))))
head-tokens heads.Class = (a_name, (a_name, (a_where, (a_truth, tt))))
head-tokens (heads.Var c) = (a_name, (a_where, (a_truth, tt)))
head-tokens heads.Parts = (a_where, (a_truth, tt))

head-completes : (h : Head) (ns : List (List ℕ)) (ps : List FromPart) → (q : QueryTree) × (parsed (Heading h ns ps) (head_completion h) ≡ Some q)
head-completes heads.Start ns ps = (query_with (ns ++ word ∷ []) (ps ++ from_part word word ∷ []) (Shape.Truth true), refl)
head-completes heads.Target ns ps = (query_with (ns ++ word ∷ []) (ps ++ from_part word word ∷ []) (Shape.Truth true), refl)
head-completes heads.Targets ns ps = (query_with ns (ps ++ from_part word word ∷ []) (Shape.Truth true), refl)
head-completes heads.Class ns ps = (query_with ns (ps ++ from_part word word ∷ []) (Shape.Truth true), refl)
head-completes (heads.Var c) ns ps = (query_with ns (ps ++ from_part c word ∷ []) (Shape.Truth true), refl)
head-completes heads.Parts ns ps = (query_with ns ps (Shape.Truth true), refl)

-- tokens that make any state a query
abbrev pub completion : State → List Piece
completion (Heading h ns ps) = head_completion h
completion (Within ns ps b) = body_completion b.0 b.1

completion-tokens : (x : State) → AreTokens (completion x)
completion-tokens (Heading h ns ps) = head-tokens h
completion-tokens (Within ns ps b) = body-tokens b.0 b.1

pub completes : (x : State) → (q : QueryTree) × (parsed x (completion x) ≡ Some q)
completes (Heading h ns ps) = head-completes h ns ps
completes (Within ns ps b) =
    let r = body-completes b.0 b.1 in
    (query_with ns ps r.0, parsed-Within ns ps b.0 b.1 (body_completion b.0 b.1) ∙ ap (option_map (query_with ns ps)) r.1)

-- the machine stops for good after the tokens that it takes
pub parsed-take : (x : State) (xs : List Piece) (n : ℕ) (rest : List Piece) → tokens_taken x xs < n → n ≤ length xs → parsed x (take n xs ++ rest) ≡ None
parsed-take x [] n rest past within = absurd (omega arith)
parsed-take x (p ∷ xs) zero rest past within = absurd (omega arith)
parsed-take x (p ∷ xs) (suc n) rest past within = goes (step_by_token x p) past (λ y h. parsed-take y xs n rest h (omega arith))
  where
    goes : (o : Option State) → option_map_or (λ y. suc (tokens_taken y xs)) o 0 < suc n → ((y : State) → tokens_taken y xs < n → parsed y (take n xs ++ rest) ≡ None) →
        option_and_then (λ y. parsed y (take n xs ++ rest)) o ≡ None
    goes None h later = refl
    goes (Some y) h later = later y (omega arith)

pub taken-length : (x : State) (xs : List Piece) → tokens_taken x xs ≤ length xs
taken-length x [] = omega arith
taken-length x (p ∷ xs) = goes (step_by_token x p) (λ y. taken-length y xs)
  where
    goes : (o : Option State) → ((y : State) → tokens_taken y xs ≤ length xs) → option_map_or (λ y. suc (tokens_taken y xs)) o 0 ≤ suc (length xs)
    goes None later = omega arith
    goes (Some y) later = omega (arith, later y)

-- some tokens that a line can have make the others a query from this state on
abbrev Reaches : State → List Piece → Type 0
Reaches x tokens = (rest : List Piece) × AreTokens rest × (q : QueryTree) × (parsed x (tokens ++ rest) ≡ Some q)

-- the tokens that are taken are the beginning of a query
reaches : (x : State) (xs : List Piece) → Reaches x (take (tokens_taken x xs) xs)
reaches x [] = let r = completes x in (completion x, completion-tokens x, r.0, r.1)
reaches x (p ∷ xs) = goes (step_by_token x p) refl (λ y. reaches y xs)
  where
    goes : (o : Option State) → step_by_token x p ≡ o → ((y : State) → Reaches y (take (tokens_taken y xs) xs)) →
        Reaches x (take (option_map_or (λ y. suc (tokens_taken y xs)) o 0) (p ∷ xs))
    goes None e later = let r = completes x in (completion x, completion-tokens x, r.0, r.1)
    goes (Some y) e later =
        let r = later y in
        (r.0, r.1, r.2, ap (option_and_then (λ z. parsed z (take (tokens_taken y xs) xs ++ r.0))) e ∙ r.3)

pub begins-taken : (xs : List Piece) → BeginsQuery (take (tokens_taken start xs) xs)
begins-taken xs = let r = reaches start xs in (r.0, r.1, r.2, found_query (take (tokens_taken start xs) xs ++ r.0) r.2 r.3)

-- no value is none and some value
not-both : (o : Option QueryTree) (q : QueryTree) → o ≡ None → o ≡ Some q → ⊥
not-both o q e f = absurd (cc (e, f))

-- where the tokens are no query, the machine is stuck at the right place
pub stuck : (xs : List Piece) → parsed start xs ≡ None → IsStuckAt xs (tokens_taken start xs)
stuck xs h = record {
  none = λ q d. not-both (parsed start xs) q h (drives_query d);
  within = taken-length start xs;
  begins = begins-taken xs;
  longest = λ n past within rest q d. not-both (parsed start (take n xs ++ rest)) q (parsed-take start xs n rest past within) (drives_query d);
}
