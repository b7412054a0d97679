-- For this crate and for the crates above: a canonical line has at most four bytes for each byte of the tokens that spell its command.
use Rattle.command_text.proofs.Names.{◌≡◌, ℕ, zero, suc, ◌+◌, ◌*◌, ◌≤◌, Bool, true, false, List, [], ◌∷◌, ◌++◌, append_assoc, take, length, length-append, Option, None, Some, IsTrue, ℤ, pos, refl, sym, ap, subst, arith, leb, inl, inr, ◌⊎◌, codes, if◌then◌else◌, flat_map, decimal, option_map_or, leb-true, and_parts, drop_at, take_at, length-drop, sum_by-cons, code_of, reserved_words, RATE_WORD, COMMA, CLOSE_SQUARE, fix_text, Point, Function, are_firsts, level, AttrKind, Given, NamedSet, Place, lexemes, Lexeme, is_word, HaveForms, QueryTree, SpellsQuery, query_text, Part, Parts, is_verb, parts, Piece, NUMBER, piece_of, line_pieces, SignedPlace, Steps, function_of, CommandTree, Notes, whole_at, legs_of_x, legs_of_y, SpellsNumAt, num_plain, num_minus, SpellsPair, SpellsAttr, attr_num, attr_text, attr_dyn, SpellsMoreAttrs, no_more_attrs, one_more_attr, SpellsAttrs, no_attrs, SpellsPoints, no_points, one_point, SpellsRateLegs, no_rate_legs, one_rate_leg, SpellsRates, SpellsMoveLegs, no_move_legs, one_move_leg, SpellsMoves, SpellsGiven, given_num, SpellsSettings, no_settings, one_setting, SpellsAt, not_at, SpellsMoving, not_moving, SpellsChange, change, SpellsPointWord, no_point_word, token_of, SpellsPart, part_verb, part_name, part_text, part_whole, part_error, part_num, part_point_word, part_attrs, part_points, part_change, SpellsParts, no_parts, last_part, last_query, part_before, SpellsCommand, by_parts, pair_text, rate_leg_text, rates_text, move_leg_text, move_legs_text, moves_text, next_attr_text, attrs_text, points_text, settings_text, at_text, moving_text, object_change_text, text_of, CLOSE, WORD, reserved, slice_get, slice_get_past, CLASS}
use Rattle.std.proofs.Common.{drop}
use Rattle.motion.specs.declared.cell.AttrKind.TheVariants as attr_kinds
use Rattle.ftl_lexer.specs.declared.kinds.Kind.TheVariants as kinds
use Rattle.ftl_lexer.proofs.Shapes.{tokens_have_forms}
use Rattle.ftl_parser.specs.Piece as token
use Rattle.ftl_parser.specs.TextLaws.{token_bytes}
use Rattle.ftl_parser.proofs.canonical.TextTokens.{few_is, word_is}
use Rattle.ftl_parser.proofs.canonical.TextLengths.{weight, load, load_join, piece_long, pieces_long, prints_shortly, tokens_fit}
use Rattle.command_text.specs.Parts.{is_of_commands}
use Rattle.command_text.specs.Grammar.{pair, some_attrs, rates, moves, given_both, given_text, given_rate, at, moving, point_word}
use Rattle.command_text.specs.Text as text
use Rattle.command_text.proofs.grammar.QueryLemmas.{tail_is}
use Rattle.command_text.proofs.canonical.TextNumbers.{whole_is_short, radius_is_short, signed_is_short, zero_is_short}

-- ---- the bytes of tokens

-- some tokens, and the bytes of those after them
front_long : (n : ℕ) (tokens : List Lexeme) → HaveForms tokens → load (take n (token.pieces tokens)) + token_bytes (drop n tokens) ≤ token_bytes tokens
front_long zero tokens forms = omega arith
front_long (suc n) [] forms = omega arith
front_long (suc n) (t ∷ tokens) forms =
    omega (arith, sum_by-cons (λ (l : Lexeme). length l.1) t tokens, piece_long t.0 t.1 forms.0, front_long n tokens forms.1)

-- so many bytes are enough for the tokens, and for a query at their end
record HasRoom (xs : List Piece) (bytes : ℕ) : Type 0 where
  tokens : load xs ≤ bytes
  query_bytes : (n : ℕ) (q : QueryTree) → SpellsQuery q (drop n xs) → length (query_text q) + 4 * load (take n xs) ≤ 4 * bytes

line_has_room : (line : List ℕ) → HasRoom (line_pieces line) (length line)
line_has_room line =
    let fit = tokens_fit line in
    let forms = tokens_have_forms line in
    record {
      tokens = omega (arith, fit, pieces_long (lexemes line) forms);
      query_bytes = λ n q d.
          let short : length (query_text q) ≤ 4 * token_bytes (drop n (lexemes line)) =
          prints_shortly n line q (subst (SpellsQuery q) (sym (tail_is n line)) d) in
          omega (arith, fit, short, front_long n (lexemes line) forms);
    }

-- ---- numbers

-- a number with a sign or none: what it is printed in, and what it has
record NumShort (v : ℤ) (xs : List Piece) : Type 0 where
  some : 1 ≤ load xs
  short : length (fix_text v) ≤ load xs

num_short : {p : SignedPlace} {v : ℤ} {xs : List Piece} {s t : Notes} → SpellsNumAt p v s t xs → NumShort v xs
num_short (num_plain {place = p} {n = n}) = record { some = omega arith; short = omega (arith, signed_is_short p false n) }
num_short (num_minus {place = p} {n = n}) = record { some = omega arith; short = omega (arith, signed_is_short p true n) }

-- two numbers, and the three symbols around them
record PairShort (x y : ℤ) (xs : List Piece) : Type 0 where
  first : ℕ
  second : ℕ
  some_first : 1 ≤ first
  some_second : 1 ≤ second
  short_first : length (fix_text x) ≤ first
  short_second : length (fix_text y) ≤ second
  within : first + second + 3 ≤ load xs

pair_short : {p : SignedPlace} {x y : ℤ} {xs : List Piece} {s t : Notes} → SpellsPair p x y s t xs → PairShort x y xs
pair_short (pair {xs = xs} {ys = ys} d e) =
    let x = num_short d in
    let y = num_short e in
    record {
      first = load xs;
      second = load ys;
      some_first = x.some;
      some_second = y.some;
      short_first = x.short;
      short_second = y.short;
      within = omega (arith, load_join xs (COMMA ∷ (ys ++ CLOSE ∷ [])), load_join ys (CLOSE ∷ []));
    }

pair_size : (x y : ℤ) → length (pair_text x y) ≡ length (fix_text x) + length (fix_text y) + 3
pair_size x y = omega (arith, length-append (fix_text x) (44 ∷ (fix_text y ++ 41 ∷ [])), length-append (fix_text y) (41 ∷ []))

pair_fits : {p : SignedPlace} {x y : ℤ} {xs : List Piece} {s t : Notes} → SpellsPair p x y s t xs → length (pair_text x y) ≤ load xs
pair_fits {x = x} {y = y} d = let this = pair_short d in omega (arith, pair_size x y, this.short_first, this.short_second, this.within)

-- ---- points

points_short : {ps : List Point} {xs : List Piece} {s t : Notes} → SpellsPoints ps s t xs → length (points_text ps) ≤ 4 * load xs
points_short no_points = omega arith
points_short (one_point {x = x} {y = y} {xs = xs} {ps = ps} {ys = ys} d e) =
    omega (arith, length-append (pair_text x y) (points_text ps), pair_size x y, pair_fits d, load_join xs ys, points_short e)

-- ---- legs

pub rate_leg_size : (a : ℤ) (n : ℕ) → length (rate_leg_text (a, n)) ≡ length (fix_text a) + length (decimal n) + 4
rate_leg_size a n = simp length-append (omega arith)

rate_legs_short : {ls : List (ℤ × ℕ)} {xs : List Piece} {s t : Notes} → SpellsRateLegs ls s t xs → length (flat_map rate_leg_text ls) ≤ 4 * load xs
rate_legs_short no_rate_legs = omega arith
rate_legs_short (one_rate_leg {a = a} {xs = xs} n {ls = ls} {ys = ys} d e) =
    let leg : List ℕ = rate_leg_text (a, whole_at Steps n) in
    let sum : length (leg ++ flat_map rate_leg_text ls) ≡ length leg + length (flat_map rate_leg_text ls) = length-append leg (flat_map rate_leg_text ls) in
    let tokens = load_join xs (COMMA ∷ NUMBER n ∷ CLOSE_SQUARE ∷ ys) in
    omega (arith, sum, rate_leg_size a (whole_at Steps n), (num_short d).short, whole_is_short Steps n, tokens, rate_legs_short e)

-- legs that make no function stand for rest
function_cases : (ls : List (ℤ × ℕ)) (last : ℤ) → (function_of ls last ≡ record { firsts = ls; last = last }) ⊎ (function_of ls last ≡ level)
function_cases ls last = chosen (are_firsts ls)
  where
    chosen : (b : Bool) → ◌≡◌ {A = Function} (if b then record { firsts = ls; last = last } else level)
        (record { firsts = ls; last = last }) ⊎ (◌≡◌ {A = Function} (if b then record { firsts = ls; last = last } else level) level)
    chosen true = inl refl
    chosen false = inr refl

rates_short : {f : Function} {xs : List Piece} {s t : Notes} → SpellsRates f s t xs → length (rates_text f) ≤ 4 * load xs
rates_short (rates {ls = ls} {xs = xs} {a = a} {ys = ys} d e) =
    let last = num_short e in
    let sum = load_join xs ys in
    let legs = rate_legs_short d in
    elim (function_cases ls a) [
      | inl is ↦ rw is (omega (arith, length-append (flat_map rate_leg_text ls) (fix_text a), last.short, sum, legs))
      | inr is ↦ rw is (omega (arith, zero_is_short, last.some, sum))
    ]

-- the text of the legs of both coordinates
abbrev legs_text : List ((ℤ × ℤ) × ℕ) → List ℕ
legs_text ls = move_legs_text (legs_of_x ls) (legs_of_y ls)

move_leg_size : (x y : ℤ) (n : ℕ) → length (move_leg_text x y n) ≡ length (pair_text x y) + length (decimal n) + 4
move_leg_size x y n = simp length-append (omega arith)

move_legs_short : {ls : List ((ℤ × ℤ) × ℕ)} {xs : List Piece} {s t : Notes} → SpellsMoveLegs ls s t xs → length (legs_text ls) ≤ 4 * load xs
move_legs_short no_move_legs = omega arith
move_legs_short (one_move_leg {a = a} {b = b} {xs = xs} n {ls = ls} {ys = ys} d e) =
    let leg : List ℕ = move_leg_text a b (whole_at Steps n) in
    let sum : length (leg ++ legs_text ls) ≡ length leg + length (legs_text ls) = length-append leg (legs_text ls) in
    let tokens = load_join xs (COMMA ∷ NUMBER n ∷ CLOSE_SQUARE ∷ ys) in
    omega (arith, sum, move_leg_size a b (whole_at Steps n), pair_fits d, whole_is_short Steps n, tokens, move_legs_short e)

no_legs : (xs : List (ℤ × ℕ)) → move_legs_text xs [] ≡ []
no_legs [] = refl
no_legs (x ∷ xs) = refl

moves_size : (xs ys : List (ℤ × ℕ)) (a b : ℤ) → length (moves_text (record { firsts = xs; last = a }) (record { firsts = ys; last = b }))
    ≡ length (move_legs_text xs ys) + length (fix_text a) + length (fix_text b) + 3
moves_size xs ys a b = omega (arith, length-append (move_legs_text xs ys) (pair_text a b), pair_size a b)

moves_short : {m : Function × Function} {xs : List Piece} {s t : Notes} → SpellsMoves m s t xs → length (moves_text m.0 m.1) ≤ 4 * load xs
moves_short (moves {ls = ls} {xs = xs} {a = a} {b = b} {ys = ys} d e) =
    let last = pair_short e in
    let sum = load_join xs ys in
    let legs = move_legs_short d in
    let us : List (ℤ × ℕ) = legs_of_x ls in
    let vs : List (ℤ × ℕ) = legs_of_y ls in
    let none : length (move_legs_text us []) ≡ 0 = ap length (no_legs us) in
    elim (function_cases us a) [
      | inl x ↦
          elim (function_cases vs b) [
            | inl y ↦ rw (x, y) (omega (arith, moves_size us vs a b, legs, last.short_first, last.short_second, last.within, sum))
            | inr y ↦ rw (x, y) (omega (arith, moves_size us [] a (pos 0), none, last.short_first, zero_is_short, last.some_second, last.within, sum))
          ]
      | inr x ↦
          elim (function_cases vs b) [
            | inl y ↦ rw (x, y) (omega (arith, moves_size [] vs (pos 0) b, last.short_second, zero_is_short, last.some_first, last.within, sum))
            | inr y ↦ rw (x, y) (omega (arith, moves_size [] [] (pos 0) (pos 0), zero_is_short, last.some_first, last.some_second, last.within, sum))
          ]
    ]

-- ---- what a command writes

given_short : {g : Given} {xs : List Piece} {s t : Notes} → SpellsGiven g s t xs → length (text.given_value_text g) ≤ 4 * load xs
given_short (given_num d) = omega (arith, (num_short d).short)
given_short (given_both {v = v} {xs = xs} {f = f} {ys = ys} d e) =
    omega (arith, (num_short d).short, rates_short e, length-append (fix_text v) (codes " rate " ++ rates_text f), load_join xs (WORD RATE_WORD ∷ ys))
given_short (given_text {w = w}) = omega (arith, length-append w (34 ∷ []))
given_short (given_rate d) = omega (arith, rates_short d)

settings_short : {ss : List NamedSet} {xs : List Piece} {s t : Notes} → SpellsSettings ss s t xs → length (settings_text ss) ≤ 4 * load xs
settings_short no_settings = omega arith
settings_short (one_setting {n = n} {g = g} {xs = xs} {ss = ss} {ys = ys} d e) =
    let given : List ℕ = text.given_value_text g in
    let set : List ℕ = n ++ (32 ∷ given) in
    let sum : length (set ++ settings_text ss) ≡ length set + length (settings_text ss) = length-append set (settings_text ss) in
    omega (arith, sum, length-append n (32 ∷ given), given_short d, load_join xs ys, settings_short e)

at_short : {p : Option Point} {xs : List Piece} {s t : Notes} → SpellsAt p s t xs → length (at_text p) ≤ 4 * load xs
at_short not_at = omega arith
at_short (at {x = x} {y = y} d) = omega (arith, pair_size x y, pair_fits d)

moving_short : {m : Option (Function × Function)} {xs : List Piece} {s t : Notes} → SpellsMoving m s t xs → length (moving_text m) ≤ 4 * load xs
moving_short not_moving = omega arith
moving_short (moving d) = omega (arith, moves_short d)

change_short : {p : Place} {ss : List NamedSet} {xs : List Piece} {s t : Notes} → SpellsChange p ss s t xs → length (object_change_text p ss) ≤ 4 * load xs
change_short (change {p = p} {xs = xs} {m = m} {ys = ys} {ss = ss} {zs = zs} d e f) =
    let bytes = length-append (at_text p) (moving_text m ++ settings_text ss) in
    let later = length-append (moving_text m) (settings_text ss) in
    omega (arith, bytes, later, at_short d, moving_short e, settings_short f, load_join xs (ys ++ zs), load_join ys zs)

-- ---- attributes

attr_size : (n : List ℕ) (kind : AttrKind) → length (text.attr_text (n, kind)) ≤ length n + 5
attr_size n attr_kinds.Num = omega (arith, length-append n (codes " num"))
attr_size n attr_kinds.Text = omega (arith, length-append n (codes " text"))
attr_size n attr_kinds.Dyn = omega (arith, length-append n (codes " dyn"))

attr_short : {a : List ℕ × AttrKind} {xs : List Piece} {s t : Notes} → SpellsAttr a s t xs → length (text.attr_text a) ≤ 4 * load xs
attr_short (attr_num {n = n}) = omega (arith, attr_size n attr_kinds.Num)
attr_short (attr_text {n = n}) = omega (arith, attr_size n attr_kinds.Text)
attr_short (attr_dyn {n = n}) = omega (arith, attr_size n attr_kinds.Dyn)

more_attrs_short : {more : List (List ℕ × AttrKind)} {xs : List Piece} {s t : Notes} → SpellsMoreAttrs more s t xs → length
    (flat_map next_attr_text more) ≤ 4 * load xs
more_attrs_short no_more_attrs = omega arith
more_attrs_short (one_more_attr {a = a} {xs = xs} {rest = more} {ys = ys} d e) =
    omega (arith, length-append (text.attr_text a) (flat_map next_attr_text more), attr_short d, load_join xs ys, more_attrs_short e)

attrs_short : {attrs : List (List ℕ × AttrKind)} {xs : List Piece} {s t : Notes} → SpellsAttrs attrs s t xs → length (attrs_text attrs) ≤ 4 * load xs
attrs_short no_attrs = omega arith
attrs_short (some_attrs {a = a} {xs = xs} {rest = more} {ys = ys} d e) =
    let first : List ℕ = text.attr_text a in
    let others : List ℕ = flat_map next_attr_text more in
    let bytes = length-append first (others ++ codes ")") in
    let tokens = load_join xs (ys ++ CLOSE ∷ []) in
    omega (arith, bytes, length-append others (codes ")"), attr_short d, more_attrs_short e, tokens, load_join ys (CLOSE ∷ []))

point_word_short : {b : Bool} {xs : List Piece} → SpellsPointWord b xs → length (text.point_word_text b) ≤ 4 * load xs
point_word_short no_point_word = omega arith
point_word_short point_word = omega arith

-- ---- commands

verb_by : (word : List ℕ) (found : Option ℕ) → option_map_or is_of_commands found true ≡ true → length word ≤ 7
    → suc (length word) ≤ 4 * weight (piece_of (option_map_or (λ code. kinds.Key code) found kinds.Name) word)
verb_by word None own few = rw (word_is word (few_is word (omega (arith, few)))) (omega (arith, few))
verb_by word (Some code) own few =
    let past : slice_get reserved code ≡ None = slice_get_past reserved code (leb-true CLASS code own) in
    rw past (omega (arith, few))

verb_short : (word : List ℕ) → IsTrue (is_verb word) → suc (length word) ≤ 4 * weight (token_of word)
verb_short word is =
    let parts = and_parts (leb (length word) 7) _ (and_parts (is_word word) _ is).1 in
    verb_by word (code_of reserved_words word) parts.1 (leb-true (length word) 7 parts.0)

part_short : {p : Part} {xs : List Piece} {s t : Notes} → SpellsPart p s t xs → length (text.part_text p) ≤ 4 * load xs
part_short (part_verb {w = w} is) = omega (arith, verb_short w is)
part_short (part_name {n = n}) = omega arith
part_short (part_text {w = w}) = omega (arith, length-append w (34 ∷ []))
part_short (part_whole {place = p} {n = n}) = omega (arith, whole_is_short p n)
part_short (part_error {n = n}) = omega (arith, radius_is_short n)
part_short (part_num d) = let number = num_short d in omega (arith, number.short, number.some)
part_short (part_point_word d) = point_word_short d
part_short (part_attrs d) = attrs_short d
part_short (part_points d) = points_short d
part_short (part_change d) = change_short d

-- parts after some tokens, in the text of which so many bytes were spent
parts_short : {ps : Parts} {xs : List Piece} {s t : Notes} → SpellsParts ps s t xs → (front : List Piece) (spent bytes : ℕ) → HasRoom (front ++ xs) bytes
    → spent ≤ 4 * load front → spent + length (text.parts_text ps) ≤ 4 * bytes + 1
parts_short no_parts front spent bytes room within = omega (arith, room.tokens, within, load_join front [])
parts_short (last_part {xs = xs} d) front spent bytes room within = omega (arith, room.tokens, within, load_join front xs, part_short d)
parts_short (last_query {q = q} {xs = xs} d) front spent bytes room within =
    let behind : drop (length front) (front ++ xs) ≡ xs = drop_at front xs (length front) refl in
    let before : take (length front) (front ++ xs) ≡ front = take_at front xs (length front) refl in
    let query : length (query_text q) + 4 * load (take (length front) (front ++ xs)) ≤ 4 * bytes =
    room.query_bytes (length front) q (subst (SpellsQuery q) (sym behind) d) in
    omega (arith, within, query, ap load before)
parts_short (part_before {p = p} {ps = ps} {xs = xs} {ys = ys} d e) front spent bytes room within =
    let later = parts_short e (front ++ xs) (spent + length (text.part_text p)) bytes
    (subst (λ (zs : List Piece). HasRoom zs bytes) (sym (append_assoc front xs ys)) room)
    (omega (arith, within, part_short d, load_join front xs)) in
    omega (arith, later, length-append (text.part_text p) (text.parts_text ps))

command_short : {c : CommandTree} {xs : List Piece} {s t : Notes} → SpellsCommand c s t xs → (bytes : ℕ) → HasRoom xs bytes → length (text_of c) ≤ 4 * bytes
unfolding text_of
command_short {c = c} (by_parts d) bytes room = omega (arith, parts_short d [] 0 bytes room (omega arith), length-drop 1 (text.parts_text (parts c)))

pub line_short : (line : List ℕ) (c : CommandTree) {s t : Notes} → SpellsCommand c s t (line_pieces line) → length (text_of c) ≤ 4 * length line
line_short line c d = command_short d (length line) (line_has_room line)
