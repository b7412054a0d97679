-- For this crate and for the crates above: what tokens of a line spell is printable.
use Rattle.ftl_parser.proofs.Names.{◌≡◌, ℕ, zero, suc, ◌+◌, ◌-◌, ◌*◌, ◌≤◌, Bool, true, false, ◌&&◌, List, [], ◌∷◌, ◌++◌, drop, take, length, append_assoc, Option, None, Some, ℤ, pos, negsuc, unsigned_abs, IsTrue, refl, sym, ap, subst, ◌∙◌, arith, cond, leb, neg_ℤ, not, slice_get, unwrap_or, if◌then◌else◌, AllByRecursion, list_all, or_parts, nat_tests, is_ascii_digit, digits_value, sign_text, thousandths_of, IsDecimal, with_sign, decimals_value, decimals_text, Kind, lexemes, Lexeme, HasForm, is_number, has_no_quote, IsQuoted, HaveForms, READ_LIMIT, WORD_LIMIT, UntilForm, RADIUS_LIMIT, LAST_TICK, TIMES_LIMIT, Prefix, Signed, FromPart, Tree, QueryTree, Piece, FROM, WHERE, AND, OR, CLOSE, CLOSE_SQUARE, COMMA, PLUS, MINUS, COMPARISON, NAME, NUMBER, TEXT, ARROW, WORD, reserved, signs, piece_of, pieces, pieces_from, lexemes_from, is_long, has_long, unquoted, is_short, whole_of, literal, radius_of, SpellsUntil, SpellsRef, ref_name, ref_attr, ref_part, ref_time, SpellsFactor, factor_number, factor_times, factor_text, factor_ref, SpellsTerm, term_first, term_minus_first, term_plus, term_minus, SpellsNum, num_plain, num_minus, SpellsNames, names_one, names_more, SpellsFromParts, parts_one, parts_more, SpellsAtom, atom_compare, atom_inside, atom_outside, atom_dist, atom_sphere, Level, Spells, formula_conj, formula_or, conj_chain, conj_and, chain_unary, chain_until, until_plain, until_within, until_after, unary_prefix, unary_bounded, unary_assign, unary_brackets, unary_truth, unary_atom, SpellsQuery, query, prefixed, signed, from_part, first_too_large, ReadsQuery, OneOrMore, IsShortName, IsQuotable, IsFromPart, IsUnsigned, IsRef, IsUnit, IsMultiple, IsFactor, IsAtom, AreUntilTicks, IsFormula, HasShape, IsAny, IsLawful, PrintsReadQuery}
use Rattle.fixed_point.proofs.DecimalLemmas.{decimal_law}
use Rattle.ftl_lexer.specs.declared.kinds.Kind.TheVariants as kinds
use Rattle.ftl_lexer.proofs.Shapes.{tokens_have_forms}
use Rattle.ftl_lexer.proofs.Fronts.{unquoted_parts}
use Rattle.ftl_parser.specs.declared.prefix.Prefix.TheVariants as prefixes
use Rattle.ftl_parser.specs.declared.tree.Atom as atom_type
use Rattle.ftl_parser.specs.declared.tree.Unit as unit_type
use Rattle.ftl_parser.specs.declared.tree.Unit.TheVariants as units
use Rattle.exact.specs.First.{first_that_holds}
use Rattle.exact.proofs.Items.{all_pushed}
use Rattle.ftl_parser.specs.declared.fault.Size.TheVariants as sizes
use Rattle.ftl_parser.proofs.reader.TableLemmas.{is_fixed, sign_fixed, word_fixed}
use Rattle.ftl_parser.proofs.canonical.TextNumbers.{whole_is}

-- ---- lists

pub all_front : {X : Type 0} (P : X → Type 0) (xs ys : List X) → AllByRecursion P (xs ++ ys) → AllByRecursion P xs
all_front P [] ys all = tt
all_front P (x ∷ xs) ys all = (all.0, all_front P xs ys all.1)

pub all_back : {X : Type 0} (P : X → Type 0) (xs ys : List X) → AllByRecursion P (xs ++ ys) → AllByRecursion P ys
all_back P [] ys all = all
all_back P (x ∷ xs) ys all = all_back P xs ys all.1

one_more : {X : Type 0} (P : X → Type 0) (xs : List X) (x : X) → OneOrMore P xs → P x → OneOrMore P (xs ++ x ∷ [])
one_more P [] x some this = absurd some
one_more P (y ∷ xs) x some this = (some.0, all_pushed P xs x some.1 this)

-- ---- tokens by what names and texts they have

abbrev pub PieceHas : (N T : List ℕ → Type 0) → Piece → Type 0
PieceHas N T (NAME n) = N n
PieceHas N T (NUMBER n) = IsTrue (is_number n)
PieceHas N T (TEXT t) = T t
PieceHas N T p = Unit {0}

abbrev pub HaveShapes : (N T : List ℕ → Type 0) → List Piece → Type 0
HaveShapes N T = AllByRecursion (PieceHas N T)

fixed_has : (N T : List ℕ → Type 0) (p : Piece) → is_fixed p ≡ true → PieceHas N T p
fixed_has N T (NAME n) h = absurd (cc)
fixed_has N T (NUMBER n) h = absurd (cc)
fixed_has N T (TEXT t) h = absurd (cc)
fixed_has N T p h = tt

pub sign_has : (N T : List ℕ → Type 0) (code : ℕ) → PieceHas N T (unwrap_or (slice_get signs code) ARROW)
sign_has N T code = fixed_has N T (unwrap_or (slice_get signs code) ARROW) (sign_fixed code)

pub word_has : (N T : List ℕ → Type 0) (code : ℕ) → PieceHas N T (unwrap_or (slice_get reserved code) (WORD code))
word_has N T code = fixed_has N T (unwrap_or (slice_get reserved code) (WORD code)) (word_fixed code)

pub text_has : (text : List ℕ) → IsQuoted text → IsTrue (has_no_quote (unquoted text))
text_has text quoted =
    let same : length text - 1 - 1 ≡ length text - 2 = omega arith in
    subst (λ n. IsTrue (has_no_quote (take n (drop 1 text)))) same (unquoted_parts text quoted).1

word_is : (b : Bool) (word : List ℕ) → not b ≡ false → (if b then word else []) ≡ word
word_is true word h = refl
word_is false word h = absurd (cc h)

short_is : (word : List ℕ) → not (is_short word) ≡ false → length word ≤ WORD_LIMIT
short_is word h = grind (arith, nat_tests, h)

-- a name or text that isn't too long stands for itself
pub short_piece : (kind : Kind) (bytes : List ℕ) → HasForm kind bytes → is_long kind bytes ≡ false → PieceHas IsShortName IsQuotable (piece_of kind bytes)
short_piece kinds.Name bytes form short = subst IsShortName (sym (word_is (is_short bytes) bytes short)) (form, short_is bytes short)
short_piece kinds.Number bytes form short = form
short_piece kinds.Text bytes form short =
    subst IsQuotable (sym (word_is (is_short (unquoted bytes)) (unquoted bytes) short)) (text_has bytes form, short_is (unquoted bytes) short)
short_piece (kinds.Sym code) bytes form short = sign_has IsShortName IsQuotable code
short_piece (kinds.Key code) bytes form short = word_has IsShortName IsQuotable code

short_pieces : (tokens : List Lexeme) → HaveForms tokens → has_long tokens ≡ false → HaveShapes IsShortName IsQuotable (pieces tokens)
short_pieces [] forms short = tt
short_pieces (t ∷ tokens) forms short =
    let parts = or_parts (is_long t.0 t.1) (has_long tokens) short in
    (short_piece t.0 t.1 forms.0 parts.0, short_pieces tokens forms.1 parts.1)

-- where nothing is asked of names and texts
any_piece : (kind : Kind) (bytes : List ℕ) → HasForm kind bytes → PieceHas IsAny IsAny (piece_of kind bytes)
any_piece kinds.Name bytes form = tt
any_piece kinds.Number bytes form = form
any_piece kinds.Text bytes form = tt
any_piece (kinds.Sym code) bytes form = sign_has IsAny IsAny code
any_piece (kinds.Key code) bytes form = word_has IsAny IsAny code

any_pieces : (tokens : List Lexeme) → HaveForms tokens → HaveShapes IsAny IsAny (pieces tokens)
any_pieces [] forms = tt
any_pieces (t ∷ tokens) forms = (any_piece t.0 t.1 forms.0, any_pieces tokens forms.1)

pub later_forms : (from : ℕ) (tokens : List Lexeme) → HaveForms tokens → HaveForms (drop from tokens)
later_forms zero tokens forms = forms
later_forms (suc from) [] forms = tt
later_forms (suc from) (t ∷ tokens) forms = later_forms from tokens forms.1

pub line_has : (from : ℕ) (line : List ℕ) → has_long (lexemes_from from line) ≡ false → HaveShapes IsShortName IsQuotable (pieces_from from line)
line_has from line short = short_pieces (lexemes_from from line) (later_forms from (lexemes line) (tokens_have_forms line)) short

-- ---- numbers, of which those that are out of range stand for 0

-- a number begins with no sign
no_sign : (negative : Bool) (text rest : List ℕ) → text ≡ sign_text negative ++ rest → IsTrue (is_number text) → negative ≡ false
no_sign false text rest spelled number = refl
no_sign true text rest spelled number = let bad : false ≡ true = subst (λ (t : List ℕ). is_number t ≡ true) spelled number in cc

unsigned_within : (limit : ℕ) (negative : Bool) (size : ℕ) → negative ≡ false → unsigned_abs (with_sign negative size) ≤ limit
    → IsUnsigned limit (with_sign negative size)
unsigned_within limit false size none within = within
unsigned_within limit true size none within = absurd (cc)

decimal_within : (limit : ℕ) (text : List ℕ) (found : Option ℤ) → IsTrue (is_number text) → thousandths_of limit text ≡ found
    → IsUnsigned limit (unwrap_or found (pos 0))
decimal_within limit text None number is = omega arith
decimal_within limit text (Some value) number is =
    let both : IsDecimal text value × (unsigned_abs value ≤ limit) = (decimal_law limit text value).0 is in
    let number_is : IsDecimal text value = both.0 in
    let size : ℕ = 1000 * digits_value 10 number_is.whole + decimals_value number_is.decimals in
    let rest : text ≡ sign_text number_is.negative ++ (number_is.whole ++ decimals_text number_is.decimals) =
    number_is.spelled ∙ append_assoc (sign_text number_is.negative) number_is.whole (decimals_text number_is.decimals) in
    let plus : number_is.negative ≡ false = no_sign number_is.negative text (number_is.whole ++ decimals_text number_is.decimals) rest number in
    let small : unsigned_abs (with_sign number_is.negative size) ≤ limit = subst (λ (v : ℤ). unsigned_abs v ≤ limit) number_is.valued both.1 in
    subst (IsUnsigned limit) (sym number_is.valued) (unsigned_within limit number_is.negative size plus small)

literal_within : (text : List ℕ) → IsTrue (is_number text) → IsUnsigned READ_LIMIT (literal text)
literal_within text number = decimal_within READ_LIMIT text (thousandths_of READ_LIMIT text) number refl

pub radius_within : (text : List ℕ) → IsTrue (is_number text) → IsUnsigned RADIUS_LIMIT (radius_of text)
radius_within text number = decimal_within RADIUS_LIMIT text (thousandths_of RADIUS_LIMIT text) number refl

choice_within : (a c : Bool) (value most : ℕ) → leb value most ≡ c → unwrap_or (cond (a && c) (Some value) None) 0 ≤ most
choice_within true true value most is = grind (arith, nat_tests)
choice_within true false value most is = omega arith
choice_within false c value most is = omega arith

whole_within : (most : ℕ) (text : List ℕ) → unwrap_or (whole_of 0 most text) 0 ≤ most
whole_within most text =
    subst (λ (found : Option ℕ). unwrap_or found 0 ≤ most) (sym (whole_is most text))
    (choice_within (list_all is_ascii_digit text) (leb (digits_value 10 text) most) (digits_value 10 text) most refl)

-- a sign doesn't change the size
size_within : (limit : ℕ) (value : ℤ) → IsUnsigned limit value → unsigned_abs value ≤ limit
size_within limit (pos n) within = within
size_within limit (negsuc n) within = absurd within

minus_within : (limit : ℕ) (value : ℤ) → IsUnsigned limit value → unsigned_abs (neg_ℤ value) ≤ limit
minus_within limit (pos zero) within = within
minus_within limit (pos (suc n)) within = within
minus_within limit (negsuc n) within = absurd within

-- ---- the rules of the grammar, whatever is asked of names and texts

module _ (N T : List ℕ → Type 0) where
  ref_shape : {u : unit_type.Unit} {xs : List Piece} → SpellsRef u xs → HaveShapes N T xs → IsRef N u
  ref_shape ref_name shapes = shapes.0
  ref_shape ref_attr shapes = (shapes.0, shapes.1.1.0)
  ref_shape ref_part shapes = (shapes.0, shapes.1.1.0)
  ref_shape ref_time shapes = tt

  ref_is_unit : (u : unit_type.Unit) → IsRef N u → IsUnit N T u
  ref_is_unit (units.Literal n) ref = absurd ref
  ref_is_unit (units.Text t) ref = absurd ref
  ref_is_unit u ref = ref

  factor_shape : {k : Option ℕ} {u : unit_type.Unit} {xs : List Piece} → SpellsFactor k u xs → HaveShapes N T xs → IsMultiple N T k u
  factor_shape (factor_number {n = n}) shapes = literal_within n shapes.0
  factor_shape (factor_times {n = n} r) shapes = (whole_within TIMES_LIMIT n, ref_shape r shapes.1.1)
  factor_shape factor_text shapes = shapes.0
  factor_shape (factor_ref {u = u} r) shapes = ref_is_unit u (ref_shape r shapes)

  term_shape : {fs : List Signed} {xs : List Piece} → SpellsTerm fs xs → HaveShapes N T xs → OneOrMore (IsFactor N T) fs
  term_shape (term_first d) shapes = (factor_shape d shapes, tt)
  term_shape (term_minus_first d) shapes = (factor_shape d shapes.1, tt)
  term_shape (term_plus {fs = fs} {xs = xs} {k = k} {u = u} {ys = ys} d e) shapes =
      one_more (IsFactor N T) fs (signed false k u) (term_shape d (all_front (PieceHas N T) xs (PLUS ∷ ys) shapes))
      (factor_shape e (all_back (PieceHas N T) xs (PLUS ∷ ys) shapes).1)
  term_shape (term_minus {fs = fs} {xs = xs} {k = k} {u = u} {ys = ys} d e) shapes =
      one_more (IsFactor N T) fs (signed true k u) (term_shape d (all_front (PieceHas N T) xs (MINUS ∷ ys) shapes))
      (factor_shape e (all_back (PieceHas N T) xs (MINUS ∷ ys) shapes).1)

  num_shape : {c : ℤ} {xs : List Piece} → SpellsNum c xs → HaveShapes N T xs → unsigned_abs c ≤ READ_LIMIT
  num_shape (num_plain {n = n}) shapes = size_within READ_LIMIT (literal n) (literal_within n shapes.0)
  num_shape (num_minus {n = n}) shapes = minus_within READ_LIMIT (literal n) (literal_within n shapes.1.0)

  names_shape : {ns : List (List ℕ)} {xs : List Piece} → SpellsNames ns xs → HaveShapes N T xs → OneOrMore N ns
  names_shape names_one shapes = (shapes.0, tt)
  names_shape (names_more {ns = ns} {xs = xs} n d) shapes =
      let back : HaveShapes N T (COMMA ∷ NAME n ∷ []) = all_back (PieceHas N T) xs (COMMA ∷ NAME n ∷ []) shapes in
      one_more N ns n (names_shape d (all_front (PieceHas N T) xs (COMMA ∷ NAME n ∷ []) shapes)) back.1.0

  parts_shape : {ps : List FromPart} {xs : List Piece} → SpellsFromParts ps xs → HaveShapes N T xs → OneOrMore (IsFromPart N) ps
  parts_shape parts_one shapes = ((shapes.0, shapes.1.0), tt)
  parts_shape (parts_more {ps = ps} {xs = xs} c v d) shapes =
      let back : HaveShapes N T (COMMA ∷ NAME c ∷ NAME v ∷ []) = all_back (PieceHas N T) xs (COMMA ∷ NAME c ∷ NAME v ∷ []) shapes in
      one_more (IsFromPart N) ps (from_part c v) (parts_shape d (all_front (PieceHas N T) xs (COMMA ∷ NAME c ∷ NAME v ∷ []) shapes)) (back.1.0, back.1.1.0)

  atom_shape : {a : atom_type.Atom} {xs : List Piece} → SpellsAtom a xs → HaveShapes N T xs → IsAtom N T a
  atom_shape (atom_compare {op = op} {xs = xs} {ys = ys} d e) shapes =
      (term_shape d (all_front (PieceHas N T) xs (COMPARISON op ∷ ys) shapes), term_shape e (all_back (PieceHas N T) xs (COMPARISON op ∷ ys) shapes).1)
  atom_shape atom_inside shapes = (shapes.1.1.0, shapes.1.1.1.1.0)
  atom_shape atom_outside shapes = (shapes.1.1.0, shapes.1.1.1.1.0)
  atom_shape (atom_dist d) shapes = (shapes.1.1.0, shapes.1.1.1.1.0, num_shape d shapes.1.1.1.1.1.1.1)
  atom_shape (atom_sphere {r = r} {xs = xs} d) shapes = (radius_within r shapes.1.1.0, names_shape d (all_front (PieceHas N T) xs (CLOSE ∷ []) shapes.1.1.1.1))

  prefix_shape : (w : Prefix) (f : Tree) → IsFormula N T f → IsFormula N T (prefixed w f)
  prefix_shape prefixes.Not f shape = shape
  prefix_shape prefixes.Next f shape = shape
  prefix_shape prefixes.Eventually f shape = shape
  prefix_shape prefixes.Always f shape = shape

  until_shape : {form : UntilForm} {n : ℕ} {xs : List Piece} → SpellsUntil form n xs → AreUntilTicks form n
  until_shape until_plain = refl
  until_shape (until_within {c = c}) = whole_within LAST_TICK c
  until_shape (until_after {c = c}) = whole_within LAST_TICK c

  formula_shape : {l : Level} {f : Tree} {xs : List Piece} → Spells l f xs → HaveShapes N T xs → IsFormula N T f
  formula_shape (formula_conj d) shapes = formula_shape d shapes
  formula_shape (formula_or {xs = xs} {ys = ys} d e) shapes =
      (formula_shape d (all_front (PieceHas N T) xs (OR ∷ ys) shapes), formula_shape e (all_back (PieceHas N T) xs (OR ∷ ys) shapes).1)
  formula_shape (conj_chain d) shapes = formula_shape d shapes
  formula_shape (conj_and {xs = xs} {ys = ys} d e) shapes =
      (formula_shape d (all_front (PieceHas N T) xs (AND ∷ ys) shapes), formula_shape e (all_back (PieceHas N T) xs (AND ∷ ys) shapes).1)
  formula_shape (chain_unary d) shapes = formula_shape d shapes
  formula_shape (chain_until {xs = xs} {us = us} {ys = ys} u d e) shapes =
      let behind : HaveShapes N T (us ++ ys) = all_back (PieceHas N T) xs (us ++ ys) shapes in
      (until_shape u, formula_shape d (all_front (PieceHas N T) xs (us ++ ys) shapes), formula_shape e (all_back (PieceHas N T) us ys behind))
  formula_shape (unary_prefix {w = w} {f = f} d) shapes = prefix_shape w f (formula_shape d shapes.1)
  formula_shape (unary_bounded {c = c} d) shapes = (whole_within LAST_TICK c, formula_shape d shapes.1.1)
  formula_shape (unary_assign {xs = xs} {ys = ys} t d) shapes = (
    shapes.1.0,
    term_shape t (all_front (PieceHas N T) xs (CLOSE_SQUARE ∷ ys) shapes.1.1.1),
    formula_shape d (all_back (PieceHas N T) xs (CLOSE_SQUARE ∷ ys) shapes.1.1.1).1,
  )
  formula_shape (unary_brackets {xs = xs} d) shapes = formula_shape d (all_front (PieceHas N T) xs (CLOSE ∷ []) shapes.1)
  formula_shape unary_truth shapes = tt
  formula_shape (unary_atom d) shapes = atom_shape d shapes

  query_shape : {q : QueryTree} {xs : List Piece} → SpellsQuery q xs → HaveShapes N T xs → HasShape N T q
  query_shape (query {xs = xs} {ys = ys} {zs = zs} ns ps d) shapes =
      let rest : HaveShapes N T (FROM ∷ (ys ++ WHERE ∷ zs)) = all_back (PieceHas N T) xs (FROM ∷ (ys ++ WHERE ∷ zs)) shapes.1 in
      record {
        targets = names_shape ns (all_front (PieceHas N T) xs (FROM ∷ (ys ++ WHERE ∷ zs)) shapes.1);
        from = parts_shape ps (all_front (PieceHas N T) ys (WHERE ∷ zs) rest.1);
        formula = formula_shape d (all_back (PieceHas N T) ys (WHERE ∷ zs) rest.1).1;
      }

pub prints_what_is_read : PrintsReadQuery
prints_what_is_read from line q spelled short = query_shape IsShortName IsQuotable spelled (line_has from line short)

-- where no size passes its limit, no name or text is too long
none_long : (variables objects assignments nodes depth long factors : Bool) →
    first_that_holds (
    (sizes.Variables, variables) ∷ (sizes.Objects, objects) ∷ (sizes.Assignments, assignments) ∷ (sizes.Nodes, nodes) ∷ (sizes.Depth, depth)
    ∷ (sizes.Length, long) ∷ (sizes.Factors, factors) ∷ []) ≡ None → long ≡ false
none_long true o a n d l f h = absurd (cc h)
none_long false true a n d l f h = absurd (cc h)
none_long false false true n d l f h = absurd (cc h)
none_long false false false true d l f h = absurd (cc h)
none_long false false false false true l f h = absurd (cc h)
none_long false false false false false true f h = absurd (cc h)
none_long false false false false false false f h = refl

pub small_short : (long : Bool) (q : QueryTree) → first_too_large long q ≡ None → long ≡ false
small_short long q small = none_long _ _ _ _ _ long _ small

-- no list of what the tokens of a line spell is empty, and its numbers are in range
pub spelled_shape : (from : ℕ) (line : List ℕ) (q : QueryTree) → SpellsQuery q (pieces_from from line) → HasShape IsAny IsAny q
spelled_shape from line q spelled = query_shape IsAny IsAny spelled
    (any_pieces (lexemes_from from line) (later_forms from (lexemes line) (tokens_have_forms line)))

-- no size of a query that is read passes its limit
pub reads_small : (tokens : List Lexeme) (q : QueryTree) → ReadsQuery tokens q → first_too_large false q ≡ None
reads_small tokens q read = ap (λ b. first_too_large b q) (sym (small_short (has_long tokens) q read.small)) ∙ read.small

-- and it is lawful
pub reads_lawful : (from : ℕ) (line : List ℕ) (q : QueryTree) → ReadsQuery (lexemes_from from line) q → IsLawful q
reads_lawful from line q read =
    record { shape = spelled_shape from line q read.spelled; small = reads_small (lexemes_from from line) q read }
