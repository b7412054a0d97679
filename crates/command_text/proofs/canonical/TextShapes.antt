-- What tokens of a line spell is printable, where its numbers are in range and its sizes within their limits.
use Rattle.command_text.proofs.Names.{◌≡◌, ℕ, ◌+◌, ◌≤◌, Bool, true, false, List, [], ◌∷◌, ◌++◌, length, map, Option, None, Some, ℤ, refl, sym, ◌∙◌, ap, subst, arith, leb, is_some, is_none, if◌then◌else◌, AllByRecursion, list_all, and_parts, and_from, leb-true, nat_tests, length-map, drop_at, drop-drop, Point, Function, are_firsts, is_length_of, level, MOST_FIRSTS, AttrKind, Given, NamedSet, Place, Kind, Lexeme, HasForm, HaveForms, lexemes, QueryTree, SpellsQuery, first_unfit, LAST_TICK, first_too_large, piece_lists, texts_alone, token_texts, VERTEX_LIMIT, ATTRIBUTE_LIMIT, Part, Parts, Piece, TEXT, piece_of, line_pieces, has_long, Steps, SignedPlace, whole_in, radius_in, signed_in, are_few_legs, function_of, are_few_attributes, are_few_vertices, is_query_small, CommandTree, Notes, legs_of_x, legs_of_y, SpellsNumAt, num_plain, num_minus, SpellsPair, SpellsAttr, attr_num, attr_text, attr_dyn, SpellsMoreAttrs, no_more_attrs, one_more_attr, SpellsAttrs, no_attrs, SpellsPoints, no_points, one_point, SpellsRateLegs, no_rate_legs, one_rate_leg, SpellsRates, SpellsMoveLegs, no_move_legs, one_move_leg, SpellsMoves, SpellsGiven, given_num, SpellsSettings, no_settings, one_setting, SpellsAt, not_at, SpellsMoving, not_moving, SpellsChange, change, SpellsPart, part_verb, part_name, part_text, part_whole, part_error, part_num, part_point_word, part_attrs, part_points, part_change, SpellsParts, no_parts, last_part, last_query, part_before, by_parts, IsFrom, IsAscii, IsShortName, IsShortText, IsRate, IsPoint, IsLeg, AreLegs, AreMoves, IsPrintableGiven, IsSetting, IsAtPoint, IsMoving, IsChange, IsAttribute, AreAttributes, IsQuery, IsPart, AreParts, IsPrintable, IsSignedIn, CLOSE, SpellsWithinLimits, is_long, is_short, or_parts, pieces_from, unquoted}
use Rattle.std.proofs.Common.{drop}
use Rattle.ftl_lexer.specs.declared.kinds.Kind.TheVariants as kinds
use Rattle.ftl_lexer.proofs.Shapes.{tokens_have_forms}
use Rattle.ftl_parser.specs.Piece as token
use Rattle.ftl_parser.specs.Lawful as query_shape
use Rattle.ftl_parser.proofs.grammar.OrderLemmas.{lists-query}
use Rattle.ftl_parser.proofs.canonical.TextShapes.{PieceHas, all_front, all_back, prints_what_is_read, short_piece, sign_has, spelled_shape, word_has}
use Rattle.command_text.specs.Grammar.{pair, some_attrs, rates, moves, given_both, given_text, given_rate, at, moving}
use Rattle.command_text.proofs.grammar.QueryLemmas.{short_behind, tail_is}
use Rattle.command_text.proofs.canonical.TextAscii.{AreAscii, tokens_ascii, inside_ascii}
use Rattle.command_text.proofs.canonical.TextNumbers.{whole_in_range, signed_in_range, radius_in_range}
use Rattle.exact.proofs.Items.{all_joined}
use Rattle.exact.proofs.Truths.{false_from_not}

-- ---- tokens by what names, numbers and texts they have

abbrev pub HasShape : Piece → Type 0
HasShape = PieceHas IsShortName IsShortText

abbrev pub HaveShapes : List Piece → Type 0
HaveShapes = AllByRecursion HasShape

short_ascii : (short : Bool) (word : List ℕ) → IsAscii word → IsAscii (if short then word else [])
short_ascii true word ascii = ascii
short_ascii false word ascii = refl

piece_has : (kind : Kind) (bytes : List ℕ) → HasForm kind bytes → IsAscii bytes → is_long kind bytes ≡ false → HasShape (piece_of kind bytes)
piece_has kinds.Name bytes form ascii short = short_piece kinds.Name bytes form short
piece_has kinds.Number bytes form ascii short = form
piece_has kinds.Text bytes form ascii short =
    let text = short_piece kinds.Text bytes form short in
    (text.0, short_ascii (is_short (unquoted bytes)) (unquoted bytes) (inside_ascii bytes ascii), text.1)
piece_has (kinds.Sym code) bytes form ascii short = sign_has IsShortName IsShortText code
piece_has (kinds.Key code) bytes form ascii short = word_has IsShortName IsShortText code

pieces_have : (tokens : List Lexeme) → HaveForms tokens → AreAscii tokens → has_long tokens ≡ false → HaveShapes (token.pieces tokens)
pieces_have [] forms ascii short = tt
pieces_have (t ∷ tokens) forms ascii short =
    let parts = or_parts (is_long t.0 t.1) (has_long tokens) short in
    (piece_has t.0 t.1 forms.0 ascii.0 parts.0, pieces_have tokens forms.1 ascii.1 parts.1)

line_has : (line : List ℕ) → IsAscii line → has_long (lexemes line) ≡ false → HaveShapes (line_pieces line)
line_has line ascii short = pieces_have (lexemes line) (tokens_have_forms line) (tokens_ascii line ascii) short

-- ---- numbers and points

-- what is known is good
abbrev pub IsGood : Notes → Type 0
IsGood s = (s.0 ≡ true) × (s.1 ≡ true)

num_shape : {p : SignedPlace} {v : ℤ} {s t : Notes} {xs : List Piece} → SpellsNumAt p v s t xs → IsGood t → IsGood s × IsSignedIn p v
num_shape (num_plain {place = p} {n = n} {s = s}) is =
    let parts = and_parts s.0 (is_some (signed_in p false n)) is.0 in
    ((parts.0, is.1), signed_in_range p false n parts.1)
num_shape (num_minus {place = p} {n = n} {s = s}) is =
    let parts = and_parts s.0 (is_some (signed_in p true n)) is.0 in
    ((parts.0, is.1), signed_in_range p true n parts.1)

pair_shape : {p : SignedPlace} {x y : ℤ} {s t : Notes} {xs : List Piece} → SpellsPair p x y s t xs → IsGood t → IsGood s × IsSignedIn p x × IsSignedIn p y
pair_shape (pair d e) is = let second = num_shape e is in let first = num_shape d second.0 in (first.0, first.1, second.1)

points_shape : {ps : List Point} {s t : Notes} {xs : List Piece} → SpellsPoints ps s t xs → IsGood t → IsGood s × AllByRecursion IsPoint ps
points_shape no_points is = (is, tt)
points_shape (one_point d e) is =
    let later = points_shape e is in
    let this = pair_shape d later.0 in
    (this.0, ((this.1, this.2), later.1))

-- ---- legs

rate_legs_shape : {ls : List (ℤ × ℕ)} {s t : Notes} {xs : List Piece} → SpellsRateLegs ls s t xs → IsGood t → IsGood s × AllByRecursion IsLeg ls
rate_legs_shape no_rate_legs is = (is, tt)
rate_legs_shape (one_rate_leg n {t = t} d e) is =
    let later = rate_legs_shape e is in
    let parts = and_parts t.0 (is_some (whole_in Steps n)) later.0.0 in
    let slope = num_shape d (parts.0, later.0.1) in
    (slope.0, ((slope.1, whole_in_range Steps n parts.1), later.1))

-- a leg of both coordinates
abbrev IsMoveLeg : (ℤ × ℤ) × ℕ → Type 0
IsMoveLeg leg = IsLeg (leg.0.0, leg.1) × IsLeg (leg.0.1, leg.1)

move_legs_shape : {ls : List ((ℤ × ℤ) × ℕ)} {s t : Notes} {xs : List Piece} → SpellsMoveLegs ls s t xs → IsGood t → IsGood s × AllByRecursion IsMoveLeg ls
move_legs_shape no_move_legs is = (is, tt)
move_legs_shape (one_move_leg n {t = t} d e) is =
    let later = move_legs_shape e is in
    let parts = and_parts t.0 (is_some (whole_in Steps n)) later.0.0 in
    let slopes = pair_shape d (parts.0, later.0.1) in
    let ticks = whole_in_range Steps n parts.1 in
    (slopes.0, (((slopes.1, ticks), (slopes.2, ticks)), later.1))

legs_x : (ls : List ((ℤ × ℤ) × ℕ)) → AllByRecursion IsMoveLeg ls → AllByRecursion IsLeg (legs_of_x ls)
legs_x [] all = tt
legs_x (leg ∷ ls) all = (all.0.0, legs_x ls all.1)

legs_y : (ls : List ((ℤ × ℤ) × ℕ)) → AllByRecursion IsMoveLeg ls → AllByRecursion IsLeg (legs_of_y ls)
legs_y [] all = tt
legs_y (leg ∷ ls) all = (all.0.1, legs_y ls all.1)

same_lengths : (ls : List ((ℤ × ℤ) × ℕ)) → map (λ leg. leg.1) (legs_of_x ls) ≡ map (λ leg. leg.1) (legs_of_y ls)
same_lengths [] = refl
same_lengths (leg ∷ ls) = ap (λ (ns : List ℕ). leg.1 ∷ ns) (same_lengths ls)

length_is : (n : ℕ) → IsFrom 1 LAST_TICK n → is_length_of n ≡ true
length_is n within = grind (arith, nat_tests, within.0, within.1)

lengths_are : (ls : List (ℤ × ℕ)) → AllByRecursion IsLeg ls → list_all (λ leg. is_length_of leg.1) ls ≡ true
lengths_are [] all = refl
lengths_are (leg ∷ ls) all = and_from (is_length_of leg.1) (list_all (λ l. is_length_of l.1) ls) (length_is leg.1 all.0.1) (lengths_are ls all.1)

-- such legs make a function
pub function_is : (ls : List (ℤ × ℕ)) (last : ℤ) → length ls ≤ MOST_FIRSTS → AllByRecursion IsLeg ls → function_of ls last ≡ record { firsts = ls; last = last }
function_is ls last few all =
    let low : leb (length ls) MOST_FIRSTS ≡ true = grind (arith, nat_tests, few) in
    let are : are_firsts ls ≡ true = and_from (leb (length ls) MOST_FIRSTS) (list_all (λ leg. is_length_of leg.1) ls) low (lengths_are ls all) in
    ap (λ b. if b then record { firsts = ls; last = last } else level) are

legs_shape : (ls : List (ℤ × ℕ)) (last : ℤ) → length ls ≤ MOST_FIRSTS → AllByRecursion IsLeg ls → IsRate last → AreLegs (record { firsts = ls; last = last })
legs_shape ls last few all rate = record { few = few; firsts = all; last = rate }

rates_shape : {f : Function} {s t : Notes} {xs : List Piece} → SpellsRates f s t xs → IsGood t → IsGood s × AreLegs f
rates_shape (rates {ls = ls} {a = a} {u = u} d e) is =
    let sizes = and_parts u.1 (are_few_legs (length ls)) is.1 in
    let last = num_shape e (is.0, sizes.0) in
    let firsts = rate_legs_shape d last.0 in
    let count : length ls ≤ MOST_FIRSTS = leb-true (length ls) MOST_FIRSTS sizes.1 in
    (firsts.0, subst AreLegs (sym (function_is ls a count firsts.1)) (legs_shape ls a count firsts.1 last.1))

moves_shape : {m : Function × Function} {s t : Notes} {xs : List Piece} → SpellsMoves m s t xs → IsGood t → IsGood s × AreMoves m.0 m.1
moves_shape (moves {ls = ls} {a = a} {b = b} {u = u} d e) is =
    let sizes = and_parts u.1 (are_few_legs (length ls)) is.1 in
    let last = pair_shape e (is.0, sizes.0) in
    let firsts = move_legs_shape d last.0 in
    let count : length ls ≤ MOST_FIRSTS = leb-true (length ls) MOST_FIRSTS sizes.1 in
    let xs : List (ℤ × ℕ) = legs_of_x ls in
    let ys : List (ℤ × ℕ) = legs_of_y ls in
    let x_count : length xs ≤ MOST_FIRSTS = rw (length-map {B = ℤ × ℕ} ls (λ leg. (leg.0.0, leg.1))) count in
    let y_count : length ys ≤ MOST_FIRSTS = rw (length-map {B = ℤ × ℕ} ls (λ leg. (leg.0.1, leg.1))) count in
    let x_all = legs_x ls firsts.1 in
    let y_all = legs_y ls firsts.1 in
    let both : AreMoves (record { firsts = xs; last = a }) (record { firsts = ys; last = b }) =
    record { x = legs_shape xs a x_count x_all last.1; y = legs_shape ys b y_count y_all last.2; lengths = same_lengths ls } in (
      firsts.0,
      subst (λ f. AreMoves f (function_of ys b)) (sym (function_is xs a x_count x_all))
          (subst (λ g. AreMoves (record { firsts = xs; last = a }) g) (sym (function_is ys b y_count y_all)) both),
    )

-- ---- what a command writes

given_shape : {g : Given} {s t : Notes} {xs : List Piece} → SpellsGiven g s t xs → IsGood t → IsGood s × (HaveShapes xs → IsPrintableGiven g)
given_shape (given_num d) is = let value = num_shape d is in (value.0, λ shapes. value.1)
given_shape (given_both d e) is =
    let legs = rates_shape e is in
    let value = num_shape d legs.0 in
    (value.0, λ shapes. (value.1, legs.1))
given_shape given_text is = (is, λ shapes. shapes.1.0)
given_shape (given_rate d) is = let legs = rates_shape d is in (legs.0, λ shapes. legs.1)

settings_shape : {ss : List NamedSet} {s t : Notes} {xs : List Piece} → SpellsSettings ss s t xs → IsGood t
    → IsGood s × (HaveShapes xs → AllByRecursion IsSetting ss)
settings_shape no_settings is = (is, λ shapes. tt)
settings_shape (one_setting {xs = xs} {ys = ys} d e) is =
    let later = settings_shape e is in
    let given = given_shape d later.0 in
    (given.0, λ shapes. ((shapes.0, given.1 (all_front HasShape xs ys shapes.1)), later.1 (all_back HasShape xs ys shapes.1)))

at_shape : {p : Option Point} {s t : Notes} {xs : List Piece} → SpellsAt p s t xs → IsGood t → IsGood s × IsAtPoint p
at_shape not_at is = (is, tt)
at_shape (at d) is = let point = pair_shape d is in (point.0, (point.1, point.2))

moving_shape : {m : Option (Function × Function)} {s t : Notes} {xs : List Piece} → SpellsMoving m s t xs → IsGood t → IsGood s × IsMoving m
moving_shape not_moving is = (is, tt)
moving_shape (moving d) is = moves_shape d is

change_shape : {p : Place} {ss : List NamedSet} {s t : Notes} {xs : List Piece} → SpellsChange p ss s t xs → IsGood t
    → IsGood s × (HaveShapes xs → IsChange p ss)
change_shape (change {xs = xs} {ys = ys} {zs = zs} d e f) is =
    let sets = settings_shape f is in
    let legs = moving_shape e sets.0 in
    let point = at_shape d legs.0 in (
      point.0,
      λ shapes.
          record { at = point.1; moving = legs.1; settings = sets.1 (all_back HasShape ys zs (all_back HasShape xs (ys ++ zs) shapes)) },
    )

-- ---- attributes

attr_shape : {a : List ℕ × AttrKind} {s t : Notes} {xs : List Piece} → SpellsAttr a s t xs → IsGood t → IsGood s × (HaveShapes xs → IsShortName a.0)
attr_shape attr_num is = (is, λ shapes. shapes.0)
attr_shape attr_text is = (is, λ shapes. shapes.0)
attr_shape attr_dyn is = (is, λ shapes. shapes.0)

more_attrs_shape : {more : List (List ℕ × AttrKind)} {s t : Notes} {xs : List Piece} → SpellsMoreAttrs more s t xs → IsGood t
    → IsGood s × (HaveShapes xs → AllByRecursion IsAttribute more)
more_attrs_shape no_more_attrs is = (is, λ shapes. tt)
more_attrs_shape (one_more_attr {xs = xs} {ys = ys} d e) is =
    let later = more_attrs_shape e is in
    let this = attr_shape d later.0 in
    (this.0, λ shapes. (this.1 (all_front HasShape xs ys shapes.1), later.1 (all_back HasShape xs ys shapes.1)))

attrs_shape : {attrs : List (List ℕ × AttrKind)} {s t : Notes} {xs : List Piece} → SpellsAttrs attrs s t xs → IsGood t
    → IsGood s × (HaveShapes xs → AreAttributes attrs)
attrs_shape no_attrs is = (is, λ shapes. record { few = omega arith; each = tt })
attrs_shape (some_attrs {a = a} {xs = xs} {rest = more} {ys = ys} {u = u} d e) is =
    let sizes = and_parts u.1 (are_few_attributes (length (a ∷ more))) is.1 in
    let later = more_attrs_shape e (is.0, sizes.0) in
    let this = attr_shape d later.0 in
    let count : length (a ∷ more) ≤ ATTRIBUTE_LIMIT = leb-true (length (a ∷ more)) ATTRIBUTE_LIMIT sizes.1 in (
      this.0,
      λ shapes.
          let behind = all_back HasShape xs (ys ++ CLOSE ∷ []) shapes.1 in
          let first = this.1 (all_front HasShape xs (ys ++ CLOSE ∷ []) shapes.1) in
          record { few = count; each = (first, later.1 (all_front HasShape ys (CLOSE ∷ []) behind)) },
    )

-- ---- queries

piece_ascii : (p : Piece) → HasShape p → AllByRecursion IsAscii (piece_lists texts_alone p)
piece_ascii (TEXT t) shape = (shape.1, tt)
piece_ascii p shape = tt

texts_ascii : (xs : List Piece) → HaveShapes xs → AllByRecursion IsAscii (token_texts xs)
texts_ascii [] shapes = tt
texts_ascii (p ∷ xs) shapes = all_joined IsAscii (piece_lists texts_alone p) (token_texts xs) (piece_ascii p shapes.0) (texts_ascii xs shapes.1)

small_is : (q : QueryTree) → is_query_small q ≡ true → first_too_large false q ≡ None
unfolding is_query_small
small_is q small = none_is (first_too_large false q) small
  where
    none_is : {X : Type 0} (found : Option X) → is_none found ≡ true → found ≡ None
    none_is None is = refl
    none_is (Some x) is = let bad : false ≡ true = is in absurd (cc)

-- what is known of the queries that stand at the end of the tokens
record IsTail (q : QueryTree) : Type 0 where
  printable : query_shape.IsPrintableQuery q
  shape : query_shape.HasShape query_shape.IsAny query_shape.IsAny q

abbrev AreTails : List Piece → Type 0
AreTails xs = (n : ℕ) (q : QueryTree) → SpellsQuery q (drop n xs) → IsTail q

query_is : (q : QueryTree) (xs : List Piece) → SpellsQuery q xs → HaveShapes xs → IsTail q → is_query_small q ≡ true → IsQuery q
query_is q xs d shapes tail small = record {
  printable = tail.printable;
  lawful = record { shape = tail.shape; small = small_is q small };
  ascii = subst (AllByRecursion IsAscii) (sym (lists-query texts_alone d)) (texts_ascii xs shapes);
}

-- tokens at the end of others
tails_behind : (xs ys : List Piece) → AreTails (xs ++ ys) → AreTails ys
tails_behind xs ys tails n q d =
    let same : drop n ys ≡ drop (length xs + n) (xs ++ ys) = ap (drop n) (sym (drop_at xs ys (length xs) refl)) ∙ drop-drop n (length xs) (xs ++ ys) in
    tails (length xs + n) q (subst (SpellsQuery q) same d)

-- ---- commands

part_shape : {p : Part} {s t : Notes} {xs : List Piece} → SpellsPart p s t xs → IsGood t → IsGood s × (HaveShapes xs → IsPart p)
part_shape (part_verb w) is = (is, λ shapes. w)
part_shape part_name is = (is, λ shapes. shapes.0)
part_shape part_text is = (is, λ shapes. shapes.0)
part_shape (part_whole {place = p} {n = n} {s = s}) is =
    let numbers = and_parts s.0 (is_some (whole_in p n)) is.0 in
    ((numbers.0, is.1), λ shapes. whole_in_range p n numbers.1)
part_shape (part_error {n = n} {s = s}) is =
    let numbers = and_parts s.0 (is_some (radius_in n)) is.0 in
    ((numbers.0, is.1), λ shapes. radius_in_range n shapes.0 numbers.1)
part_shape (part_num d) is = let number = num_shape d is in (number.0, λ shapes. number.1)
part_shape (part_point_word d) is = (is, λ shapes. tt)
part_shape (part_attrs d) is = attrs_shape d is
part_shape (part_points {p = p} {q = q} {r = r} {ps = ps} {t = t} d) is =
    let sizes = and_parts t.1 (are_few_vertices (length (p ∷ q ∷ r ∷ ps))) is.1 in
    let points = points_shape d (is.0, sizes.0) in
    let few : length (p ∷ q ∷ r ∷ ps) ≤ VERTEX_LIMIT = leb-true (length (p ∷ q ∷ r ∷ ps)) VERTEX_LIMIT sizes.1 in
    (points.0, λ shapes. record { count = (omega arith, few); each = points.1 })
part_shape (part_change d) is = change_shape d is

parts_shape : {ps : Parts} {s t : Notes} {xs : List Piece} → SpellsParts ps s t xs → IsGood t → IsGood s × (HaveShapes xs → AreTails xs → AreParts ps)
parts_shape no_parts is = (is, λ shapes tails. tt)
parts_shape (last_part d) is = let this = part_shape d is in (this.0, λ shapes tails. this.1 shapes)
parts_shape (last_query {q = q} {xs = xs} {s = s} d) is =
    let numbers = and_parts s.0 (is_none (first_unfit d)) is.0 in
    let sizes = and_parts s.1 (is_query_small q) is.1 in
    ((numbers.0, sizes.0), λ shapes tails. query_is q xs d shapes (tails 0 q d) sizes.1)
parts_shape (part_before {xs = xs} {ys = ys} d e) is =
    let later = parts_shape e is in
    let this = part_shape d later.0 in (
      this.0,
      λ shapes tails. (this.1 (all_front HasShape xs ys shapes), later.1 (all_back HasShape xs ys shapes) (tails_behind xs ys tails)),
    )

-- queries at the end of a line
line_tails : (line : List ℕ) → has_long (lexemes line) ≡ false → AreTails (line_pieces line)
line_tails line short n q d =
    let spelled : SpellsQuery q (pieces_from n line) = subst (SpellsQuery q) (sym (tail_is n line)) d in
    record {
      printable = prints_what_is_read n line q spelled (short_behind n (lexemes line) short);
      shape = spelled_shape n line q spelled;
    }

pub line_shape : (line : List ℕ) (c : CommandTree) → SpellsWithinLimits line c → IsAscii line → IsPrintable c
line_shape line c (by_parts d) ascii =
    let parts = parts_shape d (refl, refl) in
    let short : has_long (lexemes line) ≡ false = false_from_not (has_long (lexemes line)) parts.0.1 in
    parts.1 (line_has line ascii short) (line_tails line short)
