-- For this crate and for the crates above: a printed query has at most four bytes for each byte of the tokens that
-- spell it.
use Rattle.ftl_parser.proofs.Names.{SpellsUntil, UntilForm, ◌≡◌, ℕ, zero, suc, ◌+◌, ◌-◌, ◌*◌, ◌≤◌, max, Bool, true, false, List, [], ◌∷◌, ◌++◌, drop, take, length, map, length-append, Option, None, Some, ℤ, IsTrue, refl, ap, subst, arith, leb, inl, inr, codes, decimal, slice_get, unwrap_or, bytes_eq, if◌then◌else◌, list_all, cases_Bool, and_parts, leb-true, length-take, sum_by-cons, flat_map-append, fix_text, BoundForm, SubName, READ_LIMIT, Op, code_of, reserved_words, symbols, Kind, lexemes, tokens_of, bytes_of_token, Lexeme, HasForm, is_word, is_number, IsQuoted, HaveForms, SpansAscend, RADIUS_LIMIT, LAST_TICK, TIMES_LIMIT, Prefix, Signed, FromPart, Tree, QueryTree, Piece, RETRIEVE, FROM, WHERE, AND, OR, TRUTH, PREFIX, BOUNDED, UNTIL, INSIDE, OUTSIDE, DIST, SPHERE, TIME, PART, CLOSE, CLOSE_SQUARE, COMMA, PLUS, MINUS, COMPARISON, NAME, NUMBER, TEXT, ARROW, WORD, reserved, signs, unquoted, piece_of, pieces, is_short, ticks, literal, radius_of, SpellsRef, ref_name, ref_attr, ref_part, ref_time, SpellsFactor, factor_number, factor_times, factor_text, factor_ref, SpellsTerm, term_first, term_minus_first, term_plus, term_minus, SpellsNum, num_plain, num_minus, SpellsNames, names_one, names_more, SpellsFromParts, parts_one, parts_more, SpellsAtom, atom_compare, atom_inside, atom_outside, atom_dist, atom_sphere, Level, Spells, formula_conj, formula_or, conj_chain, conj_and, chain_unary, chain_until, until_plain, until_within, until_after, unary_prefix, unary_bounded, unary_assign, unary_brackets, unary_truth, unary_atom, SpellsQuery, query, prefixed, signed, from_part, term_of, truth_word, bound_word, sub_word, op_word, later_names, names_text, from_part_text, later_parts, from_parts_text, unit_text, times_text, first_sign, later_sign, later_factors, factors_text, name_pair_text, atom_text, until_text, prefix_text, bound_text, assign_text, in_brackets, formula_text, query_text, token_bytes, PrintsQueryShortly, PrintsShorterThanFourLines, TokensFit}
use Rattle.std.proofs.lemmas.Slice.Eq.{bytes_eq-Decides}
use Rattle.fixed_point.specs.declared.variants.BoundForm.TheVariants as bounds
use Rattle.fixed_point.specs.declared.variants.SubName.TheVariants as subs
use Rattle.case_table.specs.declared.compare.Op.TheVariants as ops
use Rattle.ftl_lexer.specs.declared.kinds.Kind.TheVariants as kinds
use Rattle.ftl_lexer.specs.declared.kinds.Token.{Token}
use Rattle.ftl_lexer.proofs.Shapes.{tokens_have_forms}
use Rattle.ftl_lexer.proofs.Spans.{spans_ascend}
use Rattle.ftl_lexer.proofs.Fronts.{unquoted_parts}
use Rattle.ftl_parser.specs.declared.prefix.Prefix.TheVariants as prefixes
use Rattle.ftl_parser.specs.declared.tree.Atom as atom_type
use Rattle.ftl_parser.specs.declared.tree.Unit as unit_type
use Rattle.ftl_parser.specs.Text as text
use Rattle.ftl_parser.proofs.canonical.TextShapes.{later_forms}
use Rattle.ftl_parser.proofs.canonical.TextNumbers.{fix_short, minus_short, whole_short}

-- ---- the bytes of tokens lie in their line

spans_fit : (line : List ℕ) (from : ℕ) (tokens : List Token) → from ≤ length line → SpansAscend from (length line) tokens
    → token_bytes (map (λ t. (t.kind, bytes_of_token line t)) tokens) + from ≤ length line
spans_fit line from [] within ascend = omega arith
spans_fit line from (t ∷ tokens) within ascend =
    let later : token_bytes (map (λ t. (t.kind, bytes_of_token line t)) tokens) + t.hi ≤ length line = spans_fit line t.hi tokens ascend.2 ascend.3 in
    let this : length (bytes_of_token line t) ≤ t.hi - t.lo = rw (length-take (t.hi - t.lo) (drop t.lo line)) (omega arith) in
    let sum : token_bytes (map (λ t. (t.kind, bytes_of_token line t)) (t ∷ tokens))
    ≡ length (bytes_of_token line t) + token_bytes (map (λ t. (t.kind, bytes_of_token line t)) tokens) =
    sum_by-cons (λ (l : Lexeme). length l.1) (t.kind, bytes_of_token line t) (map (λ t. (t.kind, bytes_of_token line t)) tokens) in
    omega (arith, later, this, sum, ascend.0, ascend.1)

pub tokens_fit : TokensFit
tokens_fit line =
    let fit : token_bytes (lexemes line) + 0 ≤ length line = spans_fit line 0 (tokens_of line) (omega arith) (spans_ascend line) in
    omega (arith, fit)

-- ---- how many bytes a token has at least

abbrev pub weight : Piece → ℕ
weight RETRIEVE = 3
weight FROM = 3
weight WHERE = 3
weight AND = 3
weight OR = 2
weight (TRUTH b) = 4
weight (PREFIX w) = 3
weight (BOUNDED form) = 5
weight (UNTIL form) = 5
weight INSIDE = 3
weight OUTSIDE = 3
weight DIST = 3
weight SPHERE = 4
weight TIME = 3
weight (PART part) = 3
weight (NAME n) = max 1 (length n)
weight (NUMBER n) = max 1 (length n)
weight (TEXT t) = length t + 2
weight (WORD code) = 2
weight p = 1

abbrev pub load : List Piece → ℕ
load [] = 0
load (p ∷ ps) = weight p + load ps

-- a word that has a code is as long as the row's
row_long : (need : ℕ → ℕ) (rows : List (List ℕ × ℕ)) (word : List ℕ) (code : ℕ) → list_all (λ r. leb (need r.1) (length r.0)) rows ≡ true
    → code_of rows word ≡ Some code → need code ≤ length word
row_long need [] word code all is = let bad : None ≡ Some code = is in absurd (cc)
row_long need (r ∷ rows) word code all is =
    let parts = and_parts (leb (need r.1) (length r.0)) (list_all (λ s. leb (need s.1) (length s.0)) rows) all in
    elim (cases_Bool (bytes_eq r.0 word)) [
      | inl here ↦
          let found : Some r.1 ≡ Some code = rw here at is in
          let same : r.1 ≡ code = cc in
          let equal : r.0 ≡ word = (bytes_eq-Decides r.0 word).0 here in
          let long : need r.1 ≤ length r.0 = leb-true (need r.1) (length r.0) parts.0 in
          subst (λ (w : List ℕ). need code ≤ length w) equal (subst (λ (c : ℕ). need c ≤ length r.0) same long)
      | inr other ↦ row_long need rows word code parts.1 (rw other at is)
    ]

words_long : list_all (λ r. leb (weight (unwrap_or (slice_get reserved r.1) (WORD r.1))) (length r.0)) reserved_words ≡ true
unfolding reserved_words
words_long = refl

signs_long : list_all (λ r. leb (weight (unwrap_or (slice_get signs r.1) ARROW)) (length r.0)) symbols ≡ true
unfolding symbols
signs_long = refl

pub word_long : (word : List ℕ) → IsTrue (is_word word) → max 1 (length word) ≤ length word
word_long [] word = let bad : false ≡ true = word in absurd (cc)
word_long (b ∷ bytes) word = omega arith

pub number_long : (text : List ℕ) → IsTrue (is_number text) → max 1 (length text) ≤ length text
number_long [] number = let bad : false ≡ true = number in absurd (cc)
number_long (b ∷ bytes) number = omega arith

pub text_long : (text : List ℕ) → IsQuoted text → length (unquoted text) + 2 ≤ length text
text_long text quoted =
    let same : length text - 1 - 1 ≡ length text - 2 = omega arith in
    let whole : text ≡ 34 ∷ unquoted text ++ 34 ∷ [] = subst (λ (n : ℕ). text ≡ 34 ∷ take n (drop 1 text) ++ 34 ∷ []) same (unquoted_parts text quoted).0 in
    let long : length text ≡ suc (length (unquoted text ++ 34 ∷ [])) = ap length whole in
    omega (arith, long, length-append (unquoted text) (34 ∷ []))

word_shorter : (b : Bool) (word : List ℕ) → length (if b then word else []) ≤ length word
word_shorter true word = omega arith
word_shorter false word = omega arith

pub piece_long : (kind : Kind) (bytes : List ℕ) → HasForm kind bytes → weight (piece_of kind bytes) ≤ length bytes
piece_long kinds.Name bytes form = omega (arith, word_long bytes form.0, word_shorter (is_short bytes) bytes)
piece_long kinds.Number bytes form = number_long bytes form
piece_long kinds.Text bytes form = omega (arith, text_long bytes form, word_shorter (is_short (unquoted bytes)) (unquoted bytes))
piece_long (kinds.Sym code) bytes form = row_long (λ (c : ℕ). weight (unwrap_or (slice_get signs c) ARROW)) symbols bytes code signs_long form
piece_long (kinds.Key code) bytes form = row_long (λ (c : ℕ). weight (unwrap_or (slice_get reserved c) (WORD c))) reserved_words bytes code words_long form

pub pieces_long : (tokens : List Lexeme) → HaveForms tokens → load (pieces tokens) ≤ token_bytes tokens
pieces_long [] forms = omega arith
pieces_long (t ∷ tokens) forms =
    omega (arith, sum_by-cons (λ (l : Lexeme). length l.1) t tokens, piece_long t.0 t.1 forms.0, pieces_long tokens forms.1)

-- ---- sums over tokens

pub load_join : (xs ys : List Piece) → load (xs ++ ys) ≡ load xs + load ys
load_join [] ys = omega arith
load_join (x ∷ xs) ys = omega (arith, load_join xs ys)

-- ---- short words

op_short : (op : Op) → length (op_word op) ≤ 2
op_short ops.Lt = omega arith
op_short ops.Le = omega arith
op_short ops.Eq = omega arith
op_short ops.Ne = omega arith
op_short ops.Ge = omega arith
op_short ops.Gt = omega arith

sub_short : (part : SubName) → length (sub_word part) ≤ 10
sub_short subs.Value = omega arith
sub_short subs.UpdateTime = omega arith
sub_short subs.Function = omega arith

bound_short : (form : BoundForm) → length (bound_word form) ≤ 17
bound_short bounds.Within = omega arith
bound_short bounds.After = omega arith
bound_short bounds.Always = omega arith

truth_short : (b : Bool) → length (truth_word b) ≤ 5
truth_short true = omega arith
truth_short false = omega arith

first_short : (minus : Bool) → length (first_sign minus) ≤ 1
first_short true = omega arith
first_short false = omega arith

later_short : (minus : Bool) → length (later_sign minus) ≡ 3
later_short true = refl
later_short false = refl

prefix_short : (w : Prefix) → length (prefix_text w) ≤ 12
unfolding prefix_text
prefix_short prefixes.Not = omega arith
prefix_short prefixes.Next = omega arith
prefix_short prefixes.Eventually = omega arith
prefix_short prefixes.Always = omega arith

prefixed_text : (w : Prefix) (f : Tree) → formula_text (prefixed w f) ≡ prefix_text w ++ formula_text f
prefixed_text prefixes.Not f = refl
prefixed_text prefixes.Next f = refl
prefixed_text prefixes.Eventually f = refl
prefixed_text prefixes.Always f = refl

-- ---- the rules of the grammar

ref_short : {u : unit_type.Unit} {xs : List Piece} → SpellsRef u xs → length (unit_text u) ≤ 4 * load xs
ref_short ref_name = omega arith
ref_short ref_attr = simp length-append (omega arith)
ref_short (ref_part {s = s}) = simp length-append (omega (arith, sub_short s))
ref_short ref_time = omega arith

factor_short : {k : Option ℕ} {u : unit_type.Unit} {xs : List Piece} → SpellsFactor k u xs → length (times_text k ++ unit_text u) ≤ 4 * load xs
factor_short (factor_number {n = n}) = omega (arith, fix_short READ_LIMIT n)
factor_short (factor_times {n = n} r) = simp length-append (omega (arith, whole_short TIMES_LIMIT n (omega arith), ref_short r))
factor_short (factor_text {t = t}) = omega (arith, length-append t (34 ∷ []))
factor_short (factor_ref r) = ref_short r

-- a factor after others
later_factors_size : (fs : List Signed) (f : Signed) → length (later_factors (fs ++ f ∷ []))
    ≤ length (later_factors fs) + 3 + (length (times_text f.times) + length (unit_text f.unit))
later_factors_size fs f = simp (flat_map-append, length-append) (omega (arith, later_short f.minus))

terms_size : (fs : List Signed) (f : Signed) → length (factors_text (fs ++ f ∷ [])) ≤ length (factors_text fs) + 3 + length (text.factor_text f)
terms_size [] f = simp length-append (omega (arith, first_short f.minus))
terms_size (g ∷ fs) f = simp length-append (omega (arith, later_factors_size fs f))

term_short : {fs : List Signed} {xs : List Piece} → SpellsTerm fs xs → length (factors_text fs) ≤ 4 * load xs
term_short (term_first {k = k} {u = u} d) = omega (arith, factor_short d, length-append (times_text k ++ unit_text u) [])
term_short (term_minus_first {k = k} {u = u} d) = omega (arith, factor_short d, length-append (times_text k ++ unit_text u) [])
term_short (term_plus {fs = fs} {xs = xs} {k = k} {u = u} {ys = ys} d e) =
    omega (arith, terms_size fs (signed false k u), load_join xs (PLUS ∷ ys), term_short d, factor_short e)
term_short (term_minus {fs = fs} {xs = xs} {k = k} {u = u} {ys = ys} d e) =
    omega (arith, terms_size fs (signed true k u), load_join xs (MINUS ∷ ys), term_short d, factor_short e)

num_short : {c : ℤ} {xs : List Piece} → SpellsNum c xs → length (fix_text c) ≤ 4 * load xs
num_short (num_plain {n = n}) = omega (arith, fix_short READ_LIMIT n)
num_short (num_minus {n = n}) = omega (arith, fix_short READ_LIMIT n, minus_short (literal n))

later_names_size : (ns : List (List ℕ)) (n : List ℕ) → length (later_names (ns ++ n ∷ [])) ≤ length (later_names ns) + 1 + length n
later_names_size ns n = simp (flat_map-append, length-append) (omega arith)

names_size : (ns : List (List ℕ)) (n : List ℕ) → length (names_text (ns ++ n ∷ [])) ≤ length (names_text ns) + 1 + length n
names_size [] n = omega (arith, length-append n [])
names_size (m ∷ ns) n = simp length-append (omega (arith, later_names_size ns n))

names_short : {ns : List (List ℕ)} {xs : List Piece} → SpellsNames ns xs → length (names_text ns) ≤ 4 * load xs
names_short (names_one {n = n}) = omega (arith, length-append n [])
names_short (names_more {ns = ns} {xs = xs} n d) = omega (arith, names_size ns n, load_join xs (COMMA ∷ NAME n ∷ []), names_short d)

-- one comma more
later_first : (ns : List (List ℕ)) → length (later_names ns) ≤ length (names_text ns) + 1
later_first [] = omega arith
later_first (n ∷ ns) = omega arith

later_parts_size : (ps : List FromPart) (p : FromPart) → length (later_parts (ps ++ p ∷ []))
    ≤ length (later_parts ps) + 1 + (length p.class + 1 + length p.var)
later_parts_size ps p = simp (flat_map-append, length-append) (omega arith)

parts_size : (ps : List FromPart) (p : FromPart) → length (from_parts_text (ps ++ p ∷ [])) ≤ length (from_parts_text ps) + 1 + length (from_part_text p)
parts_size [] p = omega (arith, length-append (from_part_text p) [])
parts_size (q ∷ ps) p = simp length-append (omega (arith, later_parts_size ps p))

part_size : (c v : List ℕ) → length (from_part_text (from_part c v)) ≡ length c + 1 + length v
part_size c v = simp length-append (omega arith)

parts_short : {ps : List FromPart} {xs : List Piece} → SpellsFromParts ps xs → length (from_parts_text ps) ≤ 4 * load xs
parts_short (parts_one {c = c} {v = v}) = omega (arith, part_size c v, length-append (from_part_text (from_part c v)) [])
parts_short (parts_more {ps = ps} {xs = xs} c v d) =
    omega (arith, parts_size ps (from_part c v), part_size c v, load_join xs (COMMA ∷ NAME c ∷ NAME v ∷ []), parts_short d)

pair_size : (o n : List ℕ) → length (name_pair_text o n) ≡ length o + length n + 3
pair_size o n = simp length-append (omega arith)

compare_size : (t op u : List ℕ) → length (t ++ codes " " ++ op ++ codes " " ++ u) ≡ length t + length op + length u + 2
compare_size t op u = simp length-append (omega arith)

atom_short : {a : atom_type.Atom} {xs : List Piece} → SpellsAtom a xs → length (atom_text a) ≤ 4 * load xs
atom_short (atom_compare {fs = fs} {gs = gs} {op = op} {xs = xs} {ys = ys} d e) =
    let bytes = compare_size (factors_text fs) (op_word op) (factors_text gs) in
    omega (arith, bytes, op_short op, load_join xs (COMPARISON op ∷ ys), term_short d, term_short e)
atom_short (atom_inside {o = o} {p = p}) = omega (arith, pair_size o p)
atom_short (atom_outside {o = o} {p = p}) = omega (arith, pair_size o p)
atom_short (atom_dist {o = o} {n = n} {op = op} {c = c} d) =
    omega (arith, compare_size (codes "DIST" ++ name_pair_text o n) (op_word op) (fix_text c), pair_size o n, op_short op, num_short d)
atom_short (atom_sphere {r = r} {ns = ns} {xs = xs} d) =
    let number : List ℕ = fix_text (radius_of r) in
    let bytes = length-append (number ++ later_names ns) (41 ∷ []) in
    omega (arith, length-append number (later_names ns), bytes, fix_short RADIUS_LIMIT r, later_first ns, names_short d, load_join xs (CLOSE ∷ []))

brackets_size : (left between right : List ℕ) → length (in_brackets left between right) ≡ length left + length between + length right + 2
brackets_size left between right = simp length-append (omega arith)

-- an until, and the brackets around it
until_short : {form : UntilForm} {n : ℕ} {xs : List Piece} → SpellsUntil form n xs → length (until_text form n) + 2 ≤ 4 * load xs
until_short until_plain = omega arith
until_short (until_within {c = c}) = omega (arith, length-append (decimal (ticks c)) (codes " "), whole_short LAST_TICK c (omega arith))
until_short (until_after {c = c}) = omega (arith, length-append (decimal (ticks c)) (codes " "), whole_short LAST_TICK c (omega arith))

bound_size : (form : BoundForm) (n : ℕ) → length (bound_text form n) ≤ length (decimal n) + 19
bound_size form n = simp length-append (omega (arith, bound_short form))

assign_size : (name term : List ℕ) → length (codes "[" ++ name ++ codes " <- " ++ term ++ codes "] ") ≡ length name + length term + 7
assign_size name term = simp length-append (omega arith)

formula_short : {l : Level} {f : Tree} {xs : List Piece} → Spells l f xs → length (formula_text f) ≤ 4 * load xs
formula_short (formula_conj d) = formula_short d
formula_short (formula_or {f = f} {g = g} {xs = xs} {ys = ys} d e) =
    omega (arith, brackets_size (formula_text f) (codes " OR ") (formula_text g), load_join xs (OR ∷ ys), formula_short d, formula_short e)
formula_short (conj_chain d) = formula_short d
formula_short (conj_and {f = f} {g = g} {xs = xs} {ys = ys} d e) =
    omega (arith, brackets_size (formula_text f) (codes " AND ") (formula_text g), load_join xs (AND ∷ ys), formula_short d, formula_short e)
formula_short (chain_unary d) = formula_short d
formula_short (chain_until {form = form} {n = n} {f = f} {g = g} {xs = xs} {us = us} {ys = ys} u d e) =
    let bytes = brackets_size (formula_text f) (until_text form n) (formula_text g) in
    omega (arith, bytes, until_short u, load_join xs (us ++ ys), load_join us ys, formula_short d, formula_short e)
formula_short (unary_prefix {w = w} {f = f} d) =
    omega (arith, ap length (prefixed_text w f), length-append (prefix_text w) (formula_text f), prefix_short w, formula_short d)
formula_short (unary_bounded {form = form} {c = c} {f = f} d) =
    let bytes = length-append (bound_text form (ticks c)) (formula_text f) in
    omega (arith, bytes, bound_size form (ticks c), whole_short LAST_TICK c (omega arith), formula_short d)
formula_short (unary_assign {v = v} {fs = fs} {f = f} {xs = xs} {ys = ys} t d) =
    let bytes = length-append (assign_text v (term_of fs)) (formula_text f) in
    omega (arith, bytes, assign_size v (factors_text fs), load_join xs (CLOSE_SQUARE ∷ ys), term_short t, formula_short d)
formula_short (unary_brackets {xs = xs} d) = omega (arith, load_join xs (CLOSE ∷ []), formula_short d)
formula_short (unary_truth {b = b}) = omega (arith, truth_short b)
formula_short (unary_atom d) = atom_short d

query_size : (names parts formula : List ℕ) → length (codes "RETRIEVE " ++ names ++ codes " FROM " ++ parts ++ codes " WHERE " ++ formula)
    ≡ length names + length parts + length formula + 22
query_size names parts formula = simp length-append (omega arith)

query_short : {q : QueryTree} {xs : List Piece} → SpellsQuery q xs → length (query_text q) ≤ 4 * load xs
query_short (query {ns = ns} {ps = ps} {f = f} {xs = xs} {ys = ys} {zs = zs} n p d) =
    let bytes = query_size (names_text ns) (from_parts_text ps) (formula_text f) in
    omega (arith, bytes, load_join xs (FROM ∷ (ys ++ WHERE ∷ zs)), load_join ys (WHERE ∷ zs), names_short n, parts_short p, formula_short d)

pub prints_shortly : PrintsQueryShortly
prints_shortly from line q spelled =
    omega (arith, query_short spelled, pieces_long (drop from (lexemes line)) (later_forms from (lexemes line) (tokens_have_forms line)))

fewer : (from : ℕ) (tokens : List Lexeme) → token_bytes (drop from tokens) ≤ token_bytes tokens
fewer zero tokens = omega arith
fewer (suc from) [] = omega arith
fewer (suc from) (t ∷ tokens) = omega (arith, fewer from tokens, sum_by-cons (λ (l : Lexeme). length l.1) t tokens)

pub prints_shorter : PrintsShorterThanFourLines
prints_shorter from line q spelled = omega (arith, prints_shortly from line q spelled, fewer from (lexemes line), tokens_fit line)
