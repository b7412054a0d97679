-- The parts of canonical lines are cut into tokens that spell them, with numbers in range and sizes within their limits.
use Rattle.command_text.proofs.Names.{◌≡◌, ℕ, suc, ◌≤◌, Bool, true, false, List, [], ◌∷◌, ◌++◌, length, map, append_assoc, Option, None, Some, ℤ, pos, negsuc, refl, sym, ap, ap₂, subst, ◌∙◌, arith, codes, is_some, unwrap_or, AllByRecursion, flat_map, decimal, nat_tests, reserved_words, symbols, POINT_WORD, NUM, TEXT_WORD, DYN, AT, MOVE, RATE_WORD, OPEN_SQUARE, CLOSE_SQUARE, COMMA, MINUS, fix_text, Point, Function, MOST_FIRSTS, AttrKind, Given, NamedSet, Place, Piece, NUMBER, WholePlace, Steps, SignedPlace, Value, Rate, are_few_legs, function_of, are_few_attributes, good, whole_at, legs_of_x, legs_of_y, SpellsNumAt, num_plain, num_minus, SpellsPair, SpellsAttr, attr_num, attr_text, attr_dyn, SpellsMoreAttrs, no_more_attrs, one_more_attr, SpellsAttrs, no_attrs, SpellsPoints, no_points, one_point, SpellsRateLegs, no_rate_legs, one_rate_leg, SpellsRates, SpellsMoveLegs, no_move_legs, one_move_leg, SpellsMoves, SpellsGiven, given_num, SpellsSettings, no_settings, one_setting, SpellsAt, not_at, SpellsMoving, not_moving, SpellsChange, change, SpellsPointWord, no_point_word, IsShortName, IsPoint, IsLeg, AreLegs, AreMoves, IsPrintableGiven, IsSetting, IsAtPoint, IsMoving, IsChange, IsAttribute, AreAttributes, IsWholeIn, IsSignedIn, pair_text, rate_leg_text, rates_text, move_legs_text, moves_text, next_attr_text, attrs_text, points_text, settings_text, at_text, moving_text, object_change_text, CLOSE, CLOSE_SIGN, CLOSE_SQUARE_SIGN, COMMA_SIGN, EQUAL_SIGN, MINUS_SIGN, OPEN, OPEN_SIGN, OPEN_SQUARE_SIGN, WORD}
use Rattle.motion.specs.declared.cell.AttrKind.TheVariants as attr_kinds
use Rattle.motion.specs.declared.cell.Given.TheVariants as givens
use Rattle.ftl_parser.proofs.canonical.TextTokens.{Ends, blank_ends, comma_ends, close_ends, square_ends, no_cut, led, spaced_cut, then_cut, closed_cut, parted, apart_cut, same_cut, reads}
use Rattle.ftl_parser.proofs.canonical.TextValues.{decimal_is_number, fix_is_number, minus_text}
use Rattle.command_text.specs.Grammar.{pair, some_attrs, rates, moves, given_both, given_text, given_rate, at, moving, point_word}
use Rattle.command_text.specs.Text as text
use Rattle.command_text.proofs.canonical.TextNumbers.{whole_again, whole_small, plain_again, minus_again, plain_small, minus_small}
use Rattle.command_text.proofs.canonical.TextShapes.{function_is}
use Rattle.command_text.proofs.canonical.TextCuts.{CutBefore, Closes, Reads, name_cut, key_cut, number_cut, text_cut}

-- ---- numbers

pub whole_at_again : (place : WholePlace) (n : ℕ) → IsWholeIn place n → whole_at place (decimal n) ≡ n
whole_at_again place n within = ap (λ (found : Option ℕ). unwrap_or found 0) (whole_again place n within)

pub whole_cut : (place : WholePlace) (n : ℕ) → IsWholeIn place n → CutBefore Ends (decimal n) (NUMBER (decimal n) ∷ [])
whole_cut place n within = number_cut (decimal n) (decimal_is_number n (whole_small place n within))

pub num_reads : (p : SignedPlace) (v : ℤ) → IsSignedIn p v → Reads (fix_text v) (SpellsNumAt p v good good)
unfolding symbols
num_reads p (pos n) within =
    let size : List ℕ = fix_text (pos n) in
    reads (subst (λ (o : Option ℤ). SpellsNumAt p (unwrap_or o (pos 0)) good (is_some o, true) (NUMBER size ∷ [])) (plain_again p n within)
    (num_plain {n = size}))
    (number_cut size (fix_is_number n (plain_small p n within)))
num_reads p (negsuc n) within =
    let size : List ℕ = fix_text (pos (suc n)) in
    reads (subst (λ (o : Option ℤ). SpellsNumAt p (unwrap_or o (pos 0)) good (is_some o, true) (MINUS ∷ NUMBER size ∷ [])) (minus_again p n within)
    (num_minus {n = size}))
    (same_cut (led MINUS_SIGN 45 refl refl refl (number_cut size (fix_is_number (suc n) (minus_small p n within)))) (minus_text n))

pub pair_reads : (p : SignedPlace) (x y : ℤ) → IsSignedIn p x → IsSignedIn p y → Closes (pair_text x y) (SpellsPair p x y good good)
unfolding symbols
pair_reads p x y x_is y_is =
    let a : Reads (fix_text x) (SpellsNumAt p x good good) = num_reads p x x_is in
    let b : Reads (fix_text y) (SpellsNumAt p y good good) = num_reads p y y_is in
    reads (pair a.spelled b.spelled)
    (led OPEN_SIGN 40 refl refl refl
    (parted comma_ends a.cut (led COMMA_SIGN 44 refl refl refl (parted close_ends b.cut (led CLOSE_SIGN 41 refl refl refl no_cut)))))

-- ---- points

pub points_read : (points : List Point) → AllByRecursion IsPoint points → Closes (points_text points) (SpellsPoints points good good)
points_read [] shape = reads no_points no_cut
points_read (p ∷ points) shape =
    let this : Closes (pair_text p.x p.y) (SpellsPair Value p.x p.y good good) = pair_reads Value p.x p.y shape.0.0 shape.0.1 in
    let later : Closes (points_text points) (SpellsPoints points good good) = points_read points shape.1 in
    reads (one_point this.spelled later.spelled) (closed_cut (spaced_cut this.cut) later.cut)

-- ---- legs

few_is : (count : ℕ) → count ≤ MOST_FIRSTS → are_few_legs count ≡ true
few_is count few = grind (arith, nat_tests)

rate_legs_read : (ls : List (ℤ × ℕ)) → AllByRecursion IsLeg ls → Closes (flat_map rate_leg_text ls) (SpellsRateLegs ls good good)
unfolding symbols
rate_legs_read [] shape = reads no_rate_legs no_cut
rate_legs_read (leg ∷ ls) shape =
    let number : List ℕ = decimal leg.1 in
    let slope : Reads (fix_text leg.0) (SpellsNumAt Rate leg.0 good good) = num_reads Rate leg.0 shape.0.0 in
    let later : Closes (flat_map rate_leg_text ls) (SpellsRateLegs ls good good) = rate_legs_read ls shape.1 in
    let tokens : List Piece = OPEN_SQUARE ∷ (slope.tokens ++ COMMA ∷ NUMBER number ∷ CLOSE_SQUARE ∷ later.tokens) in
    let noted = subst (λ (o : Option ℕ). SpellsRateLegs ls (is_some o, true) good later.tokens) (sym (whole_again Steps leg.1 shape.0.1)) later.spelled in
    reads (subst (λ (n : ℕ). SpellsRateLegs ((leg.0, n) ∷ ls) good good tokens) (whole_at_again Steps leg.1 shape.0.1)
    (one_rate_leg number slope.spelled noted))
    (same_cut (led OPEN_SQUARE_SIGN 91 refl refl refl (parted comma_ends slope.cut (led COMMA_SIGN 44 refl refl refl
    (parted square_ends (whole_cut Steps leg.1 shape.0.1) (led CLOSE_SQUARE_SIGN 93 refl refl refl (spaced_cut later.cut)))))) (simp append_assoc))

pub rates_read : (f : Function) → AreLegs f → Reads (rates_text f) (SpellsRates f good good)
rates_read f shape =
    let legs : Closes (flat_map rate_leg_text f.firsts) (SpellsRateLegs f.firsts good good) = rate_legs_read f.firsts shape.firsts in
    let last : Reads (fix_text f.last) (SpellsNumAt Rate f.last good good) = num_reads Rate f.last shape.last in
    let tokens : List Piece = legs.tokens ++ last.tokens in
    reads (subst (λ (g : Function). SpellsRates g good good tokens) (function_is f.firsts f.last shape.few shape.firsts)
    (subst (λ (b : Bool). SpellsRates (function_of f.firsts f.last) good (true, b) tokens) (few_is (length f.firsts) shape.few)
    (rates legs.spelled last.spelled))) (closed_cut legs.cut last.cut)

-- the legs of both coordinates
abbrev both : List (ℤ × ℕ) → List (ℤ × ℕ) → List ((ℤ × ℤ) × ℕ)
both [] ys = []
both (x ∷ xs) [] = []
both (x ∷ xs) (y ∷ ys) = ((x.0, y.0), x.1) ∷ both xs ys

both_x : (xs ys : List (ℤ × ℕ)) → map (λ leg. leg.1) xs ≡ map (λ leg. leg.1) ys → legs_of_x (both xs ys) ≡ xs
both_x [] ys same = refl
both_x (x ∷ xs) [] same = absurd (cc)
both_x (x ∷ xs) (y ∷ ys) same =
    let later : map (λ leg. leg.1) xs ≡ map (λ leg. leg.1) ys = cc in
    ap (λ (ls : List (ℤ × ℕ)). x ∷ ls) (both_x xs ys later)

both_y : (xs ys : List (ℤ × ℕ)) → map (λ leg. leg.1) xs ≡ map (λ leg. leg.1) ys → legs_of_y (both xs ys) ≡ ys
both_y [] [] same = refl
both_y [] (y ∷ ys) same = absurd (cc)
both_y (x ∷ xs) [] same = absurd (cc)
both_y (x ∷ xs) (y ∷ ys) same =
    let later : map (λ leg. leg.1) xs ≡ map (λ leg. leg.1) ys = cc in
    let first : x.1 ≡ y.1 = cc in
    ap₂ (λ (n : ℕ) (ls : List (ℤ × ℕ)). (y.0, n) ∷ ls) first (both_y xs ys later)

both_short : (xs ys : List (ℤ × ℕ)) → length (both xs ys) ≤ length xs
both_short [] ys = omega arith
both_short (x ∷ xs) [] = omega arith
both_short (x ∷ xs) (y ∷ ys) = omega (arith, both_short xs ys)

move_legs_read : (xs ys : List (ℤ × ℕ)) → AllByRecursion IsLeg xs → AllByRecursion IsLeg ys
    → Closes (move_legs_text xs ys) (SpellsMoveLegs (both xs ys) good good)
unfolding symbols
move_legs_read [] ys x_shape y_shape = reads no_move_legs no_cut
move_legs_read (x ∷ xs) [] x_shape y_shape = reads no_move_legs no_cut
move_legs_read (x ∷ xs) (y ∷ ys) x_shape y_shape =
    let number : List ℕ = decimal x.1 in
    let read : Closes (pair_text x.0 y.0) (SpellsPair Rate x.0 y.0 good good) = pair_reads Rate x.0 y.0 x_shape.0.0 y_shape.0.0 in
    let later : Closes (move_legs_text xs ys) (SpellsMoveLegs (both xs ys) good good) = move_legs_read xs ys x_shape.1 y_shape.1 in
    let tokens : List Piece = OPEN_SQUARE ∷ (read.tokens ++ COMMA ∷ NUMBER number ∷ CLOSE_SQUARE ∷ later.tokens) in
    let noted = subst (λ (o : Option ℕ). SpellsMoveLegs (both xs ys) (is_some o, true) good later.tokens)
    (sym (whole_again Steps x.1 x_shape.0.1)) later.spelled in
    reads (subst (λ (n : ℕ). SpellsMoveLegs (((x.0, y.0), n) ∷ both xs ys) good good tokens) (whole_at_again Steps x.1 x_shape.0.1)
    (one_move_leg number read.spelled noted))
    (same_cut (led OPEN_SQUARE_SIGN 91 refl refl refl (closed_cut read.cut (led COMMA_SIGN 44 refl refl refl
    (parted square_ends (whole_cut Steps x.1 x_shape.0.1) (led CLOSE_SQUARE_SIGN 93 refl refl refl (spaced_cut later.cut)))))) (simp append_assoc))

pub moves_read : (f g : Function) → AreMoves f g → Closes (moves_text f g) (SpellsMoves (f, g) good good)
moves_read f g shape =
    let legs : List ((ℤ × ℤ) × ℕ) = both f.firsts g.firsts in
    let x_is : function_of (legs_of_x legs) f.last ≡ f = ap (λ (xs : List (ℤ × ℕ)). function_of xs f.last)
    (both_x f.firsts g.firsts shape.lengths) ∙ function_is f.firsts f.last shape.x.few shape.x.firsts in
    let y_is : function_of (legs_of_y legs) g.last ≡ g = ap (λ (ys : List (ℤ × ℕ)). function_of ys g.last)
    (both_y f.firsts g.firsts shape.lengths) ∙ function_is g.firsts g.last shape.y.few shape.y.firsts in
    let few : length legs ≤ MOST_FIRSTS = omega (arith, both_short f.firsts g.firsts, shape.x.few) in
    let firsts : Closes (move_legs_text f.firsts g.firsts) (SpellsMoveLegs legs good good) = move_legs_read f.firsts g.firsts shape.x.firsts shape.y.firsts in
    let last : Closes (pair_text f.last g.last) (SpellsPair Rate f.last g.last good good) = pair_reads Rate f.last g.last shape.x.last shape.y.last in
    let tokens : List Piece = firsts.tokens ++ last.tokens in
    reads (subst (λ (m : Function × Function). SpellsMoves m good good tokens) (ap₂ (λ (x y : Function). (x, y)) x_is y_is)
    (subst (λ (b : Bool). SpellsMoves (function_of (legs_of_x legs) f.last, function_of (legs_of_y legs) g.last) good (true, b) tokens)
    (few_is (length legs) few) (moves firsts.spelled last.spelled))) (closed_cut firsts.cut last.cut)

-- ---- settings

rate_cut : CutBefore Ends (codes "rate") (WORD RATE_WORD ∷ [])
unfolding reserved_words
rate_cut = key_cut RATE_WORD (codes "rate") refl refl

pub given_reads : (g : Given) → IsPrintableGiven g → Reads (text.given_value_text g) (SpellsGiven g good good)
unfolding symbols
given_reads (givens.Num v) shape =
    let r : Reads (fix_text v) (SpellsNumAt Value v good good) = num_reads Value v shape in
    reads (given_num r.spelled) (led EQUAL_SIGN 61 refl refl refl (spaced_cut r.cut))
given_reads (givens.Text t) shape = reads given_text (led EQUAL_SIGN 61 refl refl refl (spaced_cut (text_cut t shape)))
given_reads (givens.Rate f) shape =
    let r : Reads (rates_text f) (SpellsRates f good good) = rates_read f shape in
    reads (given_rate r.spelled) (apart_cut rate_cut r.cut)
given_reads (givens.Both v f) shape =
    let a : Reads (fix_text v) (SpellsNumAt Value v good good) = num_reads Value v shape.0 in
    let r : Reads (rates_text f) (SpellsRates f good good) = rates_read f shape.1 in
    reads (given_both a.spelled r.spelled) (led EQUAL_SIGN 61 refl refl refl (spaced_cut (apart_cut a.cut (apart_cut rate_cut r.cut))))

settings_end : (ss : List NamedSet) (rest : List ℕ) → Ends rest → Ends (settings_text ss ++ rest)
settings_end [] rest ends = ends
settings_end (s ∷ ss) rest ends = blank_ends (((s.name ++ (32 ∷ text.given_value_text s.given)) ++ settings_text ss) ++ rest)

pub settings_read : (ss : List NamedSet) → AllByRecursion IsSetting ss → Reads (settings_text ss) (SpellsSettings ss good good)
settings_read [] shape = reads no_settings no_cut
settings_read (s ∷ ss) shape =
    let g : Reads (text.given_value_text s.given) (SpellsGiven s.given good good) = given_reads s.given shape.0.1 in
    let later : Reads (settings_text ss) (SpellsSettings ss good good) = settings_read ss shape.1 in
    reads (one_setting g.spelled later.spelled)
    (same_cut (spaced_cut (apart_cut (name_cut s.name shape.0.0) (then_cut g.cut later.cut (settings_end ss)))) (simp append_assoc))

-- ---- what a command changes of an object

at_reads : (p : Option Point) → IsAtPoint p → Closes (at_text p) (SpellsAt p good good)
unfolding reserved_words
at_reads None shape = reads not_at no_cut
at_reads (Some p) shape =
    let r : Closes (pair_text p.x p.y) (SpellsPair Value p.x p.y good good) = pair_reads Value p.x p.y shape.0 shape.1 in
    reads (at r.spelled) (spaced_cut (apart_cut (key_cut AT (codes "at") refl refl) r.cut))

moving_reads : (m : Option (Function × Function)) → IsMoving m → Closes (moving_text m) (SpellsMoving m good good)
unfolding reserved_words
moving_reads None shape = reads not_moving no_cut
moving_reads (Some m) shape =
    let r : Closes (moves_text m.0 m.1) (SpellsMoves (m.0, m.1) good good) = moves_read m.0 m.1 shape in
    reads (moving r.spelled) (spaced_cut (apart_cut (key_cut MOVE (codes "move") refl refl) r.cut))

pub change_reads : (p : Place) (ss : List NamedSet) → IsChange p ss → Reads (object_change_text p ss) (SpellsChange p ss good good)
change_reads p ss shape =
    let a : Closes (at_text p.at) (SpellsAt p.at good good) = at_reads p.at shape.at in
    let m : Closes (moving_text p.moving) (SpellsMoving p.moving good good) = moving_reads p.moving shape.moving in
    let s : Reads (settings_text ss) (SpellsSettings ss good good) = settings_read ss shape.settings in
    reads (change a.spelled m.spelled s.spelled) (closed_cut a.cut (closed_cut m.cut s.cut))

-- ---- attributes

attr_reads : (n : List ℕ) (kind : AttrKind) → IsShortName n → Reads (text.attr_text (n, kind)) (SpellsAttr (n, kind) good good)
unfolding reserved_words
attr_reads n attr_kinds.Num shape = reads attr_num (apart_cut (name_cut n shape) (key_cut NUM (codes "num") refl refl))
attr_reads n attr_kinds.Text shape = reads attr_text (apart_cut (name_cut n shape) (key_cut TEXT_WORD (codes "text") refl refl))
attr_reads n attr_kinds.Dyn shape = reads attr_dyn (apart_cut (name_cut n shape) (key_cut DYN (codes "dyn") refl refl))

more_attrs_end : (more : List (List ℕ × AttrKind)) (rest : List ℕ) → Ends rest → Ends (flat_map next_attr_text more ++ rest)
more_attrs_end [] rest ends = ends
more_attrs_end (a ∷ more) rest ends = comma_ends ((text.attr_text a ++ flat_map next_attr_text more) ++ rest)

more_attrs_read : (more : List (List ℕ × AttrKind)) → AllByRecursion IsAttribute more → Reads (flat_map next_attr_text more) (SpellsMoreAttrs more good good)
unfolding symbols
more_attrs_read [] shape = reads no_more_attrs no_cut
more_attrs_read (a ∷ more) shape =
    let this : Reads (text.attr_text a) (SpellsAttr a good good) = attr_reads a.0 a.1 shape.0 in
    let later : Reads (flat_map next_attr_text more) (SpellsMoreAttrs more good good) = more_attrs_read more shape.1 in
    reads (one_more_attr this.spelled later.spelled) (led COMMA_SIGN 44 refl refl refl (then_cut this.cut later.cut (more_attrs_end more)))

pub attrs_read : (attrs : List (List ℕ × AttrKind)) → AreAttributes attrs → Closes (attrs_text attrs) (SpellsAttrs attrs good good)
unfolding symbols
attrs_read [] shape = reads no_attrs no_cut
attrs_read (a ∷ more) shape =
    let few : are_few_attributes (length (a ∷ more)) ≡ true = grind (arith, nat_tests, shape.few) in
    let this : Reads (text.attr_text a) (SpellsAttr a good good) = attr_reads a.0 a.1 shape.each.0 in
    let others : List ℕ = flat_map next_attr_text more in
    let later : Reads others (SpellsMoreAttrs more good good) = more_attrs_read more shape.each.1 in
    let tokens : List Piece = OPEN ∷ (this.tokens ++ (later.tokens ++ CLOSE ∷ [])) in
    reads (subst (λ (b : Bool). SpellsAttrs (a ∷ more) good (true, b) tokens) few (some_attrs this.spelled later.spelled))
    (spaced_cut (led OPEN_SIGN 40 refl refl refl (then_cut this.cut (parted close_ends later.cut (led CLOSE_SIGN 41 refl refl refl no_cut))
    (λ rest ends. subst Ends (sym (append_assoc others (41 ∷ []) rest)) (more_attrs_end more (41 ∷ rest) (close_ends rest))))))

-- the word `point` or not
pub point_word_reads : (b : Bool) → Reads (text.point_word_text b) (SpellsPointWord b)
unfolding reserved_words
point_word_reads true = reads point_word (spaced_cut (key_cut POINT_WORD (codes "point") refl refl))
point_word_reads false = reads no_point_word no_cut
