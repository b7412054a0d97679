-- The attributes that are asked, and the pieces that they make.
use Rattle.std.proofs.Common.{◌≡◌, ℕ, zero, suc, ◌+◌, ◌*◌, ◌≤◌, Bool, true, false, Option, None, Some, List, [], ◌∷◌, refl, inl, inr, arith}
use Rattle.std.specs.Prelude.{◌==◌, IfSome, count_by, replicate, slice_get}
use Rattle.std.specs.Borrow.{Bor}
use Rattle.std.specs.List.{list_all, list_any}
use Rattle.std.specs.Option.{option_map_or}
use Rattle.std.proofs.Math.Nat.{mul-le-mul_left}
use Rattle.std.proofs.lemmas.Bool.{and_from, and_parts, false≢true, or_cases, or_left, or_right}
use Rattle.std.proofs.lemmas.List.Sums.{sum_by-cons}
use Rattle.tick_set.specs.Ticks.{between}
use Rattle.motion.specs.Cells.{cell_turns}
use Rattle.motion.specs.Pieces.{AreSteadyFor, changes_for, is_asked, is_cut_for, legs_end}
use Rattle.motion.specs.Timeline.{Epoch, cells_of, epoch_at}
use Rattle.motion.specs.declared.asked.Asked.{Asked}
use Rattle.motion.specs.declared.asked.Asked.TheVariants as which
use Rattle.motion.specs.declared.cell.Cell.{Cell}
use Rattle.courses.specs.Parts.{asked_at, asked_each, cut_count_for, piece_count, piece_count_for, pieces_for, pieces_of_all}
use Rattle.courses.specs.Places.{IsPlaceSteady}
use Rattle.courses.specs.declared.parts.TheConstants.{MOST_TIMELINES}
use Rattle.formula.specs.declared.tree.RAtom.{RAtom}
use Rattle.formula.specs.declared.tree.RAtom.TheVariants as atoms
use Rattle.formula.specs.declared.tree.RSigned.{RSigned}
use Rattle.formula.specs.declared.tree.RTerm.{RTerm}
use Rattle.formula.specs.declared.tree.RUnit.{RUnit}
use Rattle.formula.specs.declared.tree.RUnit.TheVariants as units
use Rattle.atoms.specs.Naming.{asks_atom, asks_factor, asks_place, asks_term, asks_unit}
use Rattle.atoms.specs.Parts.{IsSteadyEpoch, pieces_asked}
use Rattle.exact.proofs.Items.{count_by-cons}
use Rattle.exact.proofs.Truths.{cond_at_most}

-- ---- where all is asked

unit_asked : (unit : RUnit) → asks_unit which.All unit ≡ true
unit_asked (units.Literal n) = refl
unit_asked (units.Text s) = refl
unit_asked (units.Var d bound) = refl
unit_asked (units.Attr v a bound) = refl
unit_asked (units.Sub v a part) = refl
unit_asked units.Time = refl

factors_asked : (factors : List RSigned) → list_all (asks_factor which.All) factors ≡ true
factors_asked [] = refl
factors_asked (s ∷ factors) = and_from (asks_unit which.All s.unit) (list_all (asks_factor which.All) factors) (unit_asked s.unit) (factors_asked factors)

pub term_asked : (q : RTerm) → asks_term which.All q ≡ true
term_asked q = factors_asked q.factors

pub atom_asked : (a : RAtom) → asks_atom which.All a ≡ true
atom_asked (atoms.Compare q op r) = and_from (asks_term which.All q) (asks_term which.All r) (term_asked q) (term_asked r)
atom_asked (atoms.Inside v n) = refl
atom_asked (atoms.Outside v n) = refl
atom_asked (atoms.Dist v u op c) = refl
atom_asked (atoms.Sphere r vs) = refl

-- ---- what is steady

pub place_steady : (asked : Asked) (p : Epoch) (lo hi : ℕ) → asks_place asked ≡ true → IsSteadyEpoch asked p lo hi → IsPlaceSteady p lo hi
place_steady asked p lo hi asks steady zero v few cell = steady 0 v (and_parts (is_asked asked 0) (is_asked asked 1) asks).0 cell
place_steady asked p lo hi asks steady (suc zero) v few cell = steady 1 v (and_parts (is_asked asked 0) (is_asked asked 1) asks).1 cell
place_steady asked p lo hi asks steady (suc (suc a)) v few cell = absurd (omega arith)

steady_epoch : (asked : Asked) (p : Epoch) (lo hi : ℕ) → AreSteadyFor asked p lo hi → IsSteadyEpoch asked p lo hi
steady_epoch which.All p lo hi steady a d is cell = steady a d cell
steady_epoch (which.These indexes) p lo hi steady a d is cell = steady a d is cell

-- an epoch is steady where the same is asked of each timeline
pub steady_each : (asked : Asked) (epoch : Option (Bor Epoch)) (k lo hi : ℕ) →
    IfSome epoch (λ e. AreSteadyFor (asked_at (replicate MOST_TIMELINES asked) k) e.now lo hi) → IfSome epoch (λ e. IsSteadyEpoch asked e.now lo hi)
steady_each asked None k lo hi steady = tt
steady_each asked (Some e) zero lo hi steady = steady_epoch asked e.now lo hi steady
steady_each asked (Some e) (suc zero) lo hi steady = steady_epoch asked e.now lo hi steady
steady_each asked (Some e) (suc (suc zero)) lo hi steady = steady_epoch asked e.now lo hi steady
steady_each asked (Some e) (suc (suc (suc zero))) lo hi steady = steady_epoch asked e.now lo hi steady
steady_each asked (Some e) (suc (suc (suc (suc k)))) lo hi steady = λ a d is cell. steady a d cell

-- ---- fewer attributes make no more pieces

turn_at : (cells : List Cell) (index t : ℕ) → option_map_or (cell_turns t) (slice_get cells index) false ≡ true → list_any (cell_turns t) cells ≡ true
turn_at [] index t is = absurd (false≢true is)
turn_at (cell ∷ cells) zero t is = or_left (cell_turns t cell) (list_any (cell_turns t) cells) is
turn_at (cell ∷ cells) (suc index) t is = or_right (cell_turns t cell) (list_any (cell_turns t) cells) (turn_at cells index t is)

turn_among : (indexes : List ℕ) (cells : List Cell) (t : ℕ) →
    list_any (λ index. option_map_or (cell_turns t) (slice_get cells index) false) indexes ≡ true → list_any (cell_turns t) cells ≡ true
turn_among [] cells t is = absurd (false≢true is)
turn_among (index ∷ indexes) cells t is =
    elim (or_cases (option_map_or (cell_turns t) (slice_get cells index) false) (list_any (λ i. option_map_or (cell_turns t) (slice_get cells i) false) indexes) is) [
      | inl here ↦ turn_at cells index t here
      | inr later ↦ turn_among indexes cells t later
    ]

leg_ends : (asked : Asked) (t : ℕ) (cells : List Cell) → legs_end asked t cells ≡ true → legs_end which.All t cells ≡ true
leg_ends which.All t cells is = is
leg_ends (which.These indexes) t cells is = turn_among indexes.now cells t is

cut_at : (asked : Asked) (epoch : Option Epoch) (t : ℕ) → option_map_or (changes_for asked t) epoch false ≡ true → option_map_or (changes_for which.All t) epoch false ≡ true
cut_at asked None t is = absurd (false≢true is)
cut_at asked (Some p) t is =
    elim (or_cases (p.from == t) (legs_end asked t (cells_of p)) is) [
      | inl begins ↦ or_left (p.from == t) (legs_end which.All t (cells_of p)) begins
      | inr turns ↦ or_right (p.from == t) (legs_end which.All t (cells_of p)) (leg_ends asked t (cells_of p) turns)
    ]

count_less : (p q : ℕ → Bool) (ts : List ℕ) → ((t : ℕ) → p t ≡ true → q t ≡ true) → count_by p ts ≤ count_by q ts
count_less p q [] less = omega arith
count_less p q (t ∷ ts) less = omega (arith, count_by-cons p t ts, count_by-cons q t ts, cond_at_most (p t) (q t) (less t), count_less p q ts less)

cuts_less : (asked : Asked) (epochs : List Epoch) (at last : ℕ) → cut_count_for asked epochs at last ≤ cut_count_for which.All epochs at last
unfolding cut_count_for
cuts_less asked epochs at last =
    count_less (is_cut_for asked epochs) (is_cut_for which.All epochs) (between (at + 1) (last + 1)) (λ t is. cut_at asked (epoch_at epochs t) t is)

piece_less : (asked : Asked) (epochs : List Epoch) (at last : ℕ) → piece_count_for asked epochs at last ≤ piece_count epochs at last
piece_less asked epochs at last = omega (arith, cuts_less asked epochs at last)

pieces_less : (asked : List Asked) (timelines : List (List Epoch)) (at last : ℕ) → pieces_for (asked_each asked timelines) at last ≤ pieces_of_all timelines at last
pieces_less asked [] at last = omega arith
pieces_less [] (epochs ∷ timelines) at last =
    let left : pieces_for (asked_each [] (epochs ∷ timelines)) at last ≡ piece_count epochs at last + pieces_for (asked_each [] timelines) at last
    = sum_by-cons (λ p. piece_count_for p.0 p.1 at last) (which.All, epochs) (asked_each [] timelines) in
    let right : pieces_of_all (epochs ∷ timelines) at last ≡ piece_count epochs at last + pieces_of_all timelines at last
    = sum_by-cons (λ e. piece_count e at last) epochs timelines in
    omega (arith, left, right, pieces_less [] timelines at last)
pieces_less (first ∷ asked) (epochs ∷ timelines) at last =
    let left : pieces_for (asked_each (first ∷ asked) (epochs ∷ timelines)) at last ≡ piece_count_for first epochs at last + pieces_for (asked_each asked timelines) at last
    = sum_by-cons (λ p. piece_count_for p.0 p.1 at last) (first, epochs) (asked_each asked timelines) in
    let right : pieces_of_all (epochs ∷ timelines) at last ≡ piece_count epochs at last + pieces_of_all timelines at last
    = sum_by-cons (λ e. piece_count e at last) epochs timelines in
    omega (arith, left, right, piece_less first epochs at last, pieces_less asked timelines at last)

pub cost_less : (limit : ℕ) (asked : Asked) (timelines : List (List Epoch)) (at last : ℕ) →
    limit * pieces_asked asked timelines at last ≤ limit * pieces_of_all timelines at last
cost_less limit asked timelines at last = mul-le-mul_left limit (pieces_less (replicate MOST_TIMELINES asked) timelines at last)
