-- What a rule derives the reader reads: the same tree, and the same of numbers and sizes.
use Rattle.command_text.proofs.Names.{◌≡◌, ℕ, ℤ, Bool, true, false, List, [], ◌∷◌, ◌++◌, length, Option, Some, None, refl, ◌∙◌, ap, append_assoc, if◌then◌else◌, is_some, ◌>>=◌, AT, MOVE, RATE, OPEN_SQUARE, CLOSE_SQUARE, COMMA, Point, Function, Given, NamedSet, Place, Piece, NAME, NUMBER, is_key, is_sign, is_name, Steps, whole_in, SignedPlace, Value, Rate, signed_in, are_few_legs, function_of, Notes, and_number, whole_at, signed_at, point_of, set_of, place_with, legs_of_x, legs_of_y, SpellsNumAt, num_plain, num_minus, SpellsPair, SpellsRateLegs, no_rate_legs, one_rate_leg, SpellsRates, SpellsMoveLegs, no_move_legs, one_move_leg, SpellsMoves, SpellsGiven, given_num, SpellsSettings, no_settings, one_setting, SpellsAt, not_at, SpellsMoving, not_moving, SpellsChange, change, Reader, Read, before, noting_small, next, begins, key, sign, name, text, number, whole, minus, signed_number, num, point, all, with_front, rate_leg, move_leg, rate, read_both, given_value, read_text, read_rate, given_equal, given, setting, settings, some_moves, place, given_moves, CLOSE, CLOSE_SIGN, CLOSE_SQUARE_SIGN, COMMA_SIGN, OPEN_SQUARE_SIGN}
use Rattle.motion.specs.declared.cell.Given.TheVariants as givens
use Rattle.command_text.specs.Grammar
use Rattle.command_text.specs.Grammar.{given_both}
use Rattle.command_text.specs.inner.Reading.{pair, rates, moves, at, moving}
use Rattle.command_text.proofs.grammar.ManyLemmas.{all_step, all_stop}
use Rattle.command_text.proofs.grammar.Derived.{rate_leg_shortens, move_leg_shortens, setting_shortens}

pub num_spelled : {p : SignedPlace} {v : ℤ} {s t : Notes} {xs : List Piece} → SpellsNumAt p v s t xs → (later : List Piece) →
    num p (before (xs ++ later) s) ≡ Some (v, before later t)
unfolding num signed_number minus sign next number
num_spelled num_plain later = refl
num_spelled num_minus later = refl

pub pair_spelled : {p : SignedPlace} {x y : ℤ} {s u : Notes} {xs : List Piece} → SpellsPair p x y s u xs → (later : List Piece) →
    pair p (before (xs ++ later) s) ≡ Some ((x, y), before later u)
unfolding pair sign next
pair_spelled {p = p} (Grammar.pair {x = x} {y = y} {xs = xs} {ys = ys} {s = s} {t = t} d e) later =
    let ends : List Piece = (ys ++ CLOSE ∷ []) ++ later in
    let second : ℤ × Reader → Read (ℤ × ℤ) = λ r. sign CLOSE_SIGN r.1 >>= (λ s. Some ((x, r.0), s)) in
    let first : ℤ × Reader → Read (ℤ × ℤ) = λ r. sign COMMA_SIGN r.1 >>= (λ s. num p s >>= (λ r2. sign CLOSE_SIGN r2.1 >>= (λ s2. Some ((r.0, r2.0), s2)))) in
    ap (λ ps. num p (before ps s) >>= first) (append_assoc xs (COMMA ∷ (ys ++ CLOSE ∷ [])) later)
    ∙ ap (λ o. o >>= first) (num_spelled d (COMMA ∷ ends))
    ∙ ap (λ ps. num p (before ps t) >>= second) (append_assoc ys (CLOSE ∷ []) later)
    ∙ ap (λ o. o >>= second) (num_spelled e (CLOSE ∷ later))

pub point_spelled : {x y : ℤ} {s t : Notes} {xs : List Piece} → SpellsPair Value x y s t xs → (later : List Piece) →
    point (before (xs ++ later) s) ≡ Some (point_of x y, before later t)
unfolding point
point_spelled d later = ap (λ o. o >>= (λ p. Some (point_of p.0.0 p.0.1, p.1))) (pair_spelled d later)

-- no item begins here
pub record Stop (test : Piece → Bool) (ps : List Piece) : Type 0 where
  pub stops : (s : Notes) → begins test (before ps s) ≡ false

pub rate_leg_spelled : {a : ℤ} {s t : Notes} {xs : List Piece} → SpellsNumAt Rate a s t xs → (n : List ℕ) (later : List Piece) →
    rate_leg (before (OPEN_SQUARE ∷ (xs ++ (COMMA ∷ NUMBER n ∷ CLOSE_SQUARE ∷ later))) s)
    ≡ Some ((a, whole_at Steps n), before later (and_number t (is_some (whole_in Steps n))))
unfolding rate_leg sign next whole number
rate_leg_spelled d n later =
    ap (λ o. o >>= (λ a. sign COMMA_SIGN a.1 >>= (λ s. whole Steps s >>= (λ n. sign CLOSE_SQUARE_SIGN n.1 >>= (λ s. Some ((a.0, n.0), s))))))
    (num_spelled d (COMMA ∷ NUMBER n ∷ CLOSE_SQUARE ∷ later))

open_square : (ps : List Piece) (s : Notes) → begins (is_sign OPEN_SQUARE_SIGN) (before (OPEN_SQUARE ∷ ps) s) ≡ true
unfolding begins
open_square ps s = refl

pub rate_legs_spelled : {ls : List (ℤ × ℕ)} {s u : Notes} {xs : List Piece} → SpellsRateLegs ls s u xs → (later : List Piece)
    → Stop (is_sign OPEN_SQUARE_SIGN) later → all (begins (is_sign OPEN_SQUARE_SIGN)) rate_leg (before (xs ++ later) s) ≡ Some (ls, before later u)
rate_legs_spelled (no_rate_legs {s = s}) later stop = all_stop (begins (is_sign OPEN_SQUARE_SIGN)) rate_leg (before later s) (stop.stops s)
rate_legs_spelled (one_rate_leg {a = a} {xs = xs} n {ls = ls} {ys = ys} {s = s} {t = t} d e) later stop =
    let rest : List Piece = xs ++ (COMMA ∷ NUMBER n ∷ CLOSE_SQUARE ∷ (ys ++ later)) in
    ap (λ ps. all (begins (is_sign OPEN_SQUARE_SIGN)) rate_leg (before (OPEN_SQUARE ∷ ps) s))
    (append_assoc xs (COMMA ∷ NUMBER n ∷ CLOSE_SQUARE ∷ ys) later)
    ∙ all_step (begins (is_sign OPEN_SQUARE_SIGN)) rate_leg rate_leg_shortens (before (OPEN_SQUARE ∷ rest) s)
    (before (ys ++ later) (and_number t (is_some (whole_in Steps n)))) (a, whole_at Steps n) (open_square rest s) (rate_leg_spelled d n (ys ++ later))
    ∙ ap (with_front ((a, whole_at Steps n) ∷ [])) (rate_legs_spelled e later stop)

num_stops : {p : SignedPlace} {v : ℤ} {s t : Notes} {xs : List Piece} → SpellsNumAt p v s t xs → (later : List Piece) → Stop (is_sign OPEN_SQUARE_SIGN) (xs ++ later)
unfolding begins
num_stops num_plain later = record { stops = λ s. refl }
num_stops num_minus later = record { stops = λ s. refl }

pub rates_spelled : {f : Function} {s t : Notes} {xs : List Piece} → SpellsRates f s t xs → (later : List Piece) →
    rates (before (xs ++ later) s) ≡ Some (f, before later t)
unfolding rates
rates_spelled (Grammar.rates {ls = ls} {xs = xs} {a = a} {ys = ys} {s = s} d e) later =
    let ended : List (ℤ × ℕ) → ℤ × Reader → Read Function =
    λ legs last. Some (function_of legs last.0, noting_small (are_few_legs (length legs)) last.1) in
    let last : List (ℤ × ℕ) × Reader → Read Function = λ legs. num Rate legs.1 >>= ended legs.0 in
    ap (λ ps. all (begins (is_sign OPEN_SQUARE_SIGN)) rate_leg (before ps s) >>= last) (append_assoc xs ys later)
    ∙ ap (λ o. o >>= last) (rate_legs_spelled d (ys ++ later) (num_stops e later))
    ∙ ap (λ o. o >>= ended ls) (num_spelled e later)

pub move_leg_spelled : {a b : ℤ} {s t : Notes} {xs : List Piece} → SpellsPair Rate a b s t xs → (n : List ℕ) (later : List Piece) →
    move_leg (before (OPEN_SQUARE ∷ (xs ++ (COMMA ∷ NUMBER n ∷ CLOSE_SQUARE ∷ later))) s)
    ≡ Some (((a, b), whole_at Steps n), before later (and_number t (is_some (whole_in Steps n))))
unfolding move_leg sign next whole number
move_leg_spelled d n later =
    ap (λ o. o >>= (λ p. sign COMMA_SIGN p.1 >>= (λ s. whole Steps s >>= (λ n. sign CLOSE_SQUARE_SIGN n.1 >>= (λ s. Some ((p.0, n.0), s))))))
    (pair_spelled d (COMMA ∷ NUMBER n ∷ CLOSE_SQUARE ∷ later))

pub move_legs_spelled : {ls : List ((ℤ × ℤ) × ℕ)} {s u : Notes} {xs : List Piece} → SpellsMoveLegs ls s u xs → (later : List Piece)
    → Stop (is_sign OPEN_SQUARE_SIGN) later → all (begins (is_sign OPEN_SQUARE_SIGN)) move_leg (before (xs ++ later) s) ≡ Some (ls, before later u)
move_legs_spelled (no_move_legs {s = s}) later stop = all_stop (begins (is_sign OPEN_SQUARE_SIGN)) move_leg (before later s) (stop.stops s)
move_legs_spelled (one_move_leg {a = a} {b = b} {xs = xs} n {ls = ls} {ys = ys} {s = s} {t = t} d e) later stop =
    let rest : List Piece = xs ++ (COMMA ∷ NUMBER n ∷ CLOSE_SQUARE ∷ (ys ++ later)) in
    ap (λ ps. all (begins (is_sign OPEN_SQUARE_SIGN)) move_leg (before (OPEN_SQUARE ∷ ps) s))
    (append_assoc xs (COMMA ∷ NUMBER n ∷ CLOSE_SQUARE ∷ ys) later)
    ∙ all_step (begins (is_sign OPEN_SQUARE_SIGN)) move_leg move_leg_shortens (before (OPEN_SQUARE ∷ rest) s)
    (before (ys ++ later) (and_number t (is_some (whole_in Steps n)))) ((a, b), whole_at Steps n) (open_square rest s) (move_leg_spelled d n (ys ++ later))
    ∙ ap (with_front (((a, b), whole_at Steps n) ∷ [])) (move_legs_spelled e later stop)

pair_stops : {p : SignedPlace} {x y : ℤ} {s t : Notes} {xs : List Piece} → SpellsPair p x y s t xs → (later : List Piece) → Stop (is_sign OPEN_SQUARE_SIGN)
    (xs ++ later)
unfolding begins
pair_stops (Grammar.pair d e) later = record { stops = λ s. refl }

pub moves_spelled : {m : Function × Function} {s t : Notes} {xs : List Piece} → SpellsMoves m s t xs → (later : List Piece) →
    moves (before (xs ++ later) s) ≡ Some (m, before later t)
unfolding moves
moves_spelled (Grammar.moves {ls = ls} {xs = xs} {ys = ys} {s = s} d e) later =
    let ended : List ((ℤ × ℤ) × ℕ) → (ℤ × ℤ) × Reader → Read (Function × Function) = λ legs last.
    Some (
      (function_of (legs_of_x legs) last.0.0, function_of (legs_of_y legs) last.0.1),
      noting_small (are_few_legs (length legs)) last.1,
    ) in
    let last : List ((ℤ × ℤ) × ℕ) × Reader → Read (Function × Function) = λ legs. pair Rate legs.1 >>= ended legs.0 in
    ap (λ ps. all (begins (is_sign OPEN_SQUARE_SIGN)) move_leg (before ps s) >>= last) (append_assoc xs ys later)
    ∙ ap (λ o. o >>= last) (move_legs_spelled d (ys ++ later) (pair_stops e later))
    ∙ ap (λ o. o >>= ended ls) (pair_spelled e later)

pub given_spelled : {g : Given} {s t : Notes} {xs : List Piece} → SpellsGiven g s t xs → (later : List Piece) → Stop (is_key RATE) later →
    given (before (xs ++ later) s) ≡ Some (g, before later t)
unfolding given given_equal given_value num signed_number minus sign next number begins read_both read_text read_rate rate key text
given_spelled (given_num (num_plain {n = n} {s = s})) later stop =
    let t : Notes = and_number s (is_some (signed_in Value false n)) in
    ap (λ b. if b then read_both (signed_at Value false n) (before later t) else Some (givens.Num (signed_at Value false n), before later t)) (stop.stops t)
given_spelled (given_num (num_minus {n = n} {s = s})) later stop =
    let t : Notes = and_number s (is_some (signed_in Value true n)) in
    ap (λ b. if b then read_both (signed_at Value true n) (before later t) else Some (givens.Num (signed_at Value true n), before later t)) (stop.stops t)
given_spelled (given_both (num_plain {n = n}) e) later stop =
    ap (λ o. o >>= (λ f. Some (givens.Both (signed_at Value false n) f.0, f.1))) (rates_spelled e later)
given_spelled (given_both (num_minus {n = n}) e) later stop =
    ap (λ o. o >>= (λ f. Some (givens.Both (signed_at Value true n) f.0, f.1))) (rates_spelled e later)
given_spelled Grammar.given_text later stop = refl
given_spelled (Grammar.given_rate e) later stop = ap (λ o. o >>= (λ f. Some (givens.Rate f.0, f.1))) (rates_spelled e later)

settings_stop_rate : {ss : List NamedSet} {s t : Notes} {xs : List Piece} → SpellsSettings ss s t xs → Stop (is_key RATE) xs
unfolding begins
settings_stop_rate no_settings = record { stops = λ s. refl }
settings_stop_rate (one_setting d e) = record { stops = λ s. refl }

setting_spelled : (n : List ℕ) (s : Notes) {g : Given} {t : Notes} {xs : List Piece} → SpellsGiven g s t xs → (later : List Piece)
    → Stop (is_key RATE) later → setting (before (NAME n ∷ (xs ++ later)) s) ≡ Some (set_of n g, before later t)
unfolding setting name next
setting_spelled n s d later stop = ap (λ o. o >>= (λ g. Some (set_of n g.0, g.1))) (given_spelled d later stop)

name_begins : (n : List ℕ) (ps : List Piece) (s : Notes) → begins is_name (before (NAME n ∷ ps) s) ≡ true
unfolding begins
name_begins n ps s = refl

none_begins : (s : Notes) → begins is_name (before [] s) ≡ false
unfolding begins
none_begins s = refl

pub settings_spelled : {ss : List NamedSet} {s t : Notes} {xs : List Piece} → SpellsSettings ss s t xs → settings (before xs s) ≡ Some (ss, before [] t)
settings_spelled (no_settings {s = s}) = all_stop (begins is_name) setting (before [] s) (none_begins s)
settings_spelled (one_setting {n = n} {g = g} {xs = xs} {ss = ss} {ys = ys} {s = s} {t = t} d e) =
    all_step (begins is_name) setting setting_shortens (before (NAME n ∷ (xs ++ ys)) s) (before ys t) (set_of n g)
    (name_begins n (xs ++ ys) s) (setting_spelled n s d ys (settings_stop_rate e))
    ∙ ap (with_front (set_of n g ∷ [])) (settings_spelled e)

pub at_spelled : {p : Option Point} {s t : Notes} {xs : List Piece} → SpellsAt p s t xs → (later : List Piece) → Stop (is_key AT) later →
    at (before (xs ++ later) s) ≡ Some (p, before later t)
unfolding at begins key next
at_spelled (not_at {s = s}) later stop =
    ap (λ b. if b then (key AT (before later s) >>= (λ s. point s >>= (λ p. Some (Some p.0, p.1)))) else Some (None, before later s)) (stop.stops s)
at_spelled (Grammar.at d) later stop = ap (λ o. o >>= (λ p. Some (Some p.0, p.1))) (point_spelled d later)

pub moving_spelled : {m : Option (Function × Function)} {s t : Notes} {xs : List Piece} → SpellsMoving m s t xs → (later : List Piece)
    → Stop (is_key MOVE) later → moving (before (xs ++ later) s) ≡ Some (m, before later t)
unfolding moving some_moves begins key next
moving_spelled (not_moving {s = s}) later stop =
    ap (λ b. if b then some_moves (before later s) else Some (None, before later s)) (stop.stops s)
moving_spelled (Grammar.moving d) later stop = ap given_moves (moves_spelled d later)

settings_stop_move : {ss : List NamedSet} {s t : Notes} {xs : List Piece} → SpellsSettings ss s t xs → Stop (is_key MOVE) xs
unfolding begins
settings_stop_move no_settings = record { stops = λ s. refl }
settings_stop_move (one_setting d e) = record { stops = λ s. refl }

moving_stop_at : {m : Option (Function × Function)} {xs : List Piece} {ss : List NamedSet} {ys : List Piece} {s t u : Notes}
    → SpellsMoving m s t xs → SpellsSettings ss t u ys → Stop (is_key AT) (xs ++ ys)
unfolding begins
moving_stop_at not_moving no_settings = record { stops = λ s. refl }
moving_stop_at not_moving (one_setting d e) = record { stops = λ s. refl }
moving_stop_at (Grammar.moving d) e = record { stops = λ s. refl }

-- the settings after a place
abbrev with_settings : {A : Type 0} → (Place → List NamedSet → A) → Place × Reader → Read A
with_settings f p = settings p.1 >>= (λ ss. Some (f p.0 ss.0, ss.1))

-- the place and the settings of an insert or an update, which takes all tokens that are left
pub change_spelled : {A : Type 0} {p : Place} {ss : List NamedSet} {s t : Notes} {xs : List Piece} (f : Place → List NamedSet → A)
    → SpellsChange p ss s t xs → (place (before xs s) >>= with_settings f) ≡ Some (f p ss, before [] t)
unfolding place
change_spelled {A = A} f (change {p = p} {m = m} {ys = ys} {zs = zs} a b c) =
    let behind_at : Option Point × Reader → Read Place = λ p. moving p.1 >>= (λ m. Some (place_with p.0 m.0, m.1)) in
    let behind_moving : Option (Function × Function) × Reader → Read Place = λ m. Some (place_with p m.0, m.1) in
    let behind_all : List NamedSet × Reader → Read A = λ ss. Some (f (place_with p m) ss.0, ss.1) in
    ap (λ o. (o >>= behind_at) >>= with_settings f) (at_spelled a (ys ++ zs) (moving_stop_at b c))
    ∙ ap (λ o. (o >>= behind_moving) >>= with_settings f) (moving_spelled b zs (settings_stop_move c))
    ∙ ap (λ o. o >>= behind_all) (settings_spelled c)
