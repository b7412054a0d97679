-- For this crate and for the crates above: how the pieces of a timeline lie.
use Rattle.std.proofs.Common.{◌≡◌, ℕ, pos, zero, suc, ◌+◌, ◌-◌, ◌+ℤ◌, ◌*ℤ◌, ◌<◌, ◌≤◌, ◌⊎◌, Bool, true, false, ◌||◌, ◌&&◌, max, min, None, Some, is_some, List, [], ◌∷◌, ◌++◌, length, take, take_all, get_or, refl, sym, ap, subst, ◌∙◌, inl, inr, arith}
use Rattle.std.specs.Prelude.{◌==◌, IfSome, slice_get, if◌then◌else◌}
use Rattle.std.specs.List.{list_any}
use Rattle.std.specs.Option.{option_map_or}
use Rattle.std.proofs.lemmas.List.{take_more, get_or_default}
use Rattle.std.proofs.lemmas.List.Folds.{list_any-append}
use Rattle.std.proofs.lemmas.Option.{slice_get-get_or, slice_get_read, get_or_from_slice_get, slice_get_within}
use Rattle.std.proofs.lemmas.Bool.{cases_eq, cases_lt, false≢true}
use Rattle.std.proofs.lemmas.Bool.Decides.{nat_tests}
use Rattle.std.proofs.lemmas.Int.{ints}
use Rattle.tick_set.specs.Ticks.{within}
use Rattle.motion.specs.Function.{leg_ends, rise}
use Rattle.motion.specs.Dynamic.{Dynamic, slope_at, turns_at}
use Rattle.motion.specs.declared.cell.Cell.{Cell}
use Rattle.motion.specs.declared.cell.Cell.TheVariants as kinds
use Rattle.motion.specs.declared.pieces.Piece.{Piece}
use Rattle.motion.specs.Cells.{cell_turns, IsCellAt, AreCellsAt}
use Rattle.motion.specs.Timeline.{Epoch, cells_of, epoch_at, IsRising, IsRisingFrom, AreBegunUpTo}
use Rattle.motion.specs.declared.asked.Asked.{Asked}
use Rattle.motion.specs.declared.asked.Asked.TheVariants as which
use Rattle.motion.specs.Pieces.{changes_for, is_asked, is_cut_for, legs_end, AreSteadyFor, IsFirstOrEnd, IsPiece, IsPieceFor, ArePiecesFrom, ArePieces, IsLinear, IsSteadyFor, pieces_have}
use Rattle.motion.proofs.LegLemmas.{NoneEnds, legs_slope-steady, legs_rise-steady}
use Rattle.motion.proofs.TimelineLemmas.{at_each, closed, each_past, epoch_at-split, from_each, in_force_of, opened}
use Rattle.exact.proofs.Truths.{both_false}

pub IsCellAt-later : (cell : Cell) (s t : ℕ) → s ≤ t → IsCellAt cell s → IsCellAt cell t
IsCellAt-later (kinds.Num n) s t h written = written
IsCellAt-later (kinds.Text w) s t h written = written
IsCellAt-later (kinds.Dyn v) s t h written = omega (arith, written)

pub AreCellsAt-later : (cells : List Cell) (s t : ℕ) → s ≤ t → AreCellsAt cells s → AreCellsAt cells t
AreCellsAt-later cells s t h written = λ k d l. IsCellAt-later (get_or cells k d) s t h (written k d l)

-- the same epochs begin by a later tick that is before the next one
pub AreBegunUpTo-later : (epochs : List Epoch) (at t count : ℕ) → IsRising epochs → at ≤ t → (count < length epochs → (d : Epoch) → t < (get_or epochs count d).from)
    → AreBegunUpTo epochs at count → AreBegunUpTo epochs t count
AreBegunUpTo-later epochs at t count rising h next begun =
    let split = opened epochs at count begun in
    closed epochs t count (record {
      within = split.within;
      begun = λ k d l. omega (arith, split.begun k d l);
      later = λ k d l m.
          elim (cases_lt count k) [
            | inl after ↦ omega (arith, each_past epochs 0 count k d rising after m, next (omega arith) d)
            | inr here ↦ let is : k ≡ count = omega arith in rw is (next (omega arith) d)
          ];
    })

-- and one more at the tick at which the next one begins
AreBegunUpTo-next : (epochs : List Epoch) (at t count : ℕ) → IsRising epochs → count < length epochs → ((d : Epoch) → (get_or epochs count d).from ≡ t)
    → AreBegunUpTo epochs at count → AreBegunUpTo epochs t (count + 1)
AreBegunUpTo-next epochs at t count rising some next begun =
    let split = opened epochs at count begun in
    closed epochs t (count + 1) (record {
      within = omega arith;
      begun = λ k d l.
          elim (cases_lt k count) [
            | inl before ↦ omega (arith, split.begun k d before, split.later count d (omega arith) some, next d)
            | inr here ↦ let is : k ≡ count = omega arith in rw is (omega (arith, next d))
          ];
      later = λ k d l m. omega (arith, each_past epochs 0 count k d rising (omega arith) m, next d);
    })

-- what is known of an epoch of an index holds of it at each default
at_index : (epochs : List Epoch) (k : ℕ) (next d : Epoch) → k < length epochs → next ≡ get_or epochs k next → (get_or epochs k d).from ≡ next.from
at_index epochs k next d some is = ap (λ q. q.from) (get_or_default epochs k d next some ∙ sym is)

-- how many epochs begin by the next tick
pub begun_next : (epochs : List Epoch) (t count more : ℕ) (next : Epoch) → IsRising epochs → AreBegunUpTo epochs t count → count < length epochs
    → next ≡ get_or epochs count next → more ≡ (if next.from == t + 1 then 1 else 0) → AreBegunUpTo epochs (t + 1) (count + more)
begun_next epochs t count more next rising split some is more_is =
    let past : t < next.from = subst (λ n. t < n) (at_index epochs count next next some is) ((opened epochs t count split).later count next (omega arith) some) in
    elim (cases_lt (t + 1) next.from) [
      | inl later ↦
          let none : count + more ≡ count = grind (arith, nat_tests) in
          rw none (AreBegunUpTo-later epochs t (t + 1) count rising (omega arith) (λ h d. omega (arith, at_index epochs count next d some is)) split)
      | inr here ↦
          let one : count + more ≡ count + 1 = grind (arith, nat_tests) in
          rw one (AreBegunUpTo-next epochs t (t + 1) count rising some (λ d. at_index epochs count next d some is ∙ omega arith) split)
    ]

pub begun_all : (epochs : List Epoch) (t count : ℕ) → IsRising epochs → AreBegunUpTo epochs t count → length epochs ≤ count → AreBegunUpTo epochs (t + 1) count
begun_all epochs t count rising split all = AreBegunUpTo-later epochs t (t + 1) count rising (omega arith) (λ some d. absurd (omega arith)) split

pub some_begun : (epochs : List Epoch) (t count : ℕ) → 0 < length epochs → IfSome (slice_get epochs 0) (λ p. p.from ≤ t) → AreBegunUpTo epochs t count → 0 < count
some_begun epochs t count some first split =
    elim (cases_lt 0 count) [
      | inl more ↦ more
      | inr none ↦
          let d : Epoch = record { from = 0; cells = None } in
          absurd (omega (arith, at_each (λ p. p.from ≤ t) epochs 0 first some d, (opened epochs t count split).later 0 d none some))
    ]

-- the first tick at which the cell of one more index turns
first_among_more : (seen : List ℕ) (index : ℕ) (cells : List Cell) (at end first next : ℕ)
    → IsFirstOrEnd (λ t. list_any (λ i. option_map_or (cell_turns t) (slice_get cells i) false) seen) at end first
    → IsFirstOrEnd (λ t. option_map_or (cell_turns t) (slice_get cells index) false) at first next
    → IsFirstOrEnd (λ t. list_any (λ i. option_map_or (cell_turns t) (slice_get cells i) false) (seen ++ index ∷ [])) at end next
first_among_more seen index cells at end first next before one =
    let turns : ℕ → ℕ → Bool = λ t i. option_map_or (cell_turns t) (slice_get cells i) false in
    let both : (t : ℕ) → list_any (turns t) (seen ++ index ∷ []) ≡ (list_any (turns t) seen || turns t index)
    = λ t. grind (arith, list_any-append (turns t) seen (index ∷ [])) in
    record {
      past = one.past;
      within = omega (arith, one.within, before.within);
      none = λ t past first. both t ∙ grind (arith, before.none t past (omega (arith, one.within)), one.none t past first);
      some = ap (λ b. next == end || b) (both next) ∙ grind (arith, nat_tests, before.some, one.some);
    }

pub first_among_at : (indexes : List ℕ) (k index : ℕ) (cells : List Cell) (at end first next : ℕ) → k < length indexes → index ≡ get_or indexes k 0
    → IsFirstOrEnd (λ t. list_any (λ i. option_map_or (cell_turns t) (slice_get cells i) false) (take k indexes)) at end first
    → IsFirstOrEnd (λ t. option_map_or (cell_turns t) (slice_get cells index) false) at first next
    → IsFirstOrEnd (λ t. list_any (λ i. option_map_or (cell_turns t) (slice_get cells i) false) (take (k + 1) indexes)) at end next
first_among_at indexes k index cells at end first next some is before one =
    let more : take (k + 1) indexes ≡ take k indexes ++ index ∷ [] = take_more indexes k 0 some ∙ ap (λ i. take k indexes ++ i ∷ []) (sym is) in
    rw more (first_among_more (take k indexes) index cells at end first next before one)

pub first_among_all : (indexes : List ℕ) (k : ℕ) (cells : List Cell) (at end first : ℕ) → length indexes ≤ k
    → IsFirstOrEnd (λ t. list_any (λ i. option_map_or (cell_turns t) (slice_get cells i) false) (take k indexes)) at end first
    → IsFirstOrEnd (λ t. list_any (λ i. option_map_or (cell_turns t) (slice_get cells i) false) indexes) at end first
first_among_all indexes k cells at end first all is =
    subst (λ seen. IsFirstOrEnd (λ t. list_any (λ i. option_map_or (cell_turns t) (slice_get cells i) false) seen) at end first) (take_all k indexes all) is

-- which of the two bounds is reached
pub begin_reached : (epochs : List Epoch) (index last first : ℕ) (next : Epoch) → index < length epochs → next ≡ get_or epochs index next → first ≡ min next.from (last + 1)
    → (first ≡ last + 1) ⊎ ((index < length epochs) × IfSome (slice_get epochs index) (λ p. p.from ≡ first))
begin_reached epochs index last first next some is first_is =
    elim (cases_lt next.from (last + 1)) [
      | inl before ↦ inr (some, from_each (λ p. p.from ≡ first) epochs index (λ within d. at_index epochs index next d some is ∙ omega arith))
      | inr past ↦ inl (omega arith)
    ]

-- the first tick at which one more cell turns
pub first_more : (seen : List Cell) (cell : Cell) (at end first next : ℕ) → IsFirstOrEnd (λ t. list_any (cell_turns t) seen) at end first
    → IsFirstOrEnd (λ t. cell_turns t cell) at first next → IsFirstOrEnd (λ t. list_any (cell_turns t) (seen ++ cell ∷ [])) at end next
first_more seen cell at end first next before one =
    let both : (t : ℕ) → list_any (cell_turns t) (seen ++ cell ∷ []) ≡ (list_any (cell_turns t) seen || cell_turns t cell)
    = λ t. grind (arith, list_any-append (cell_turns t) seen (cell ∷ [])) in
    record {
      past = one.past;
      within = omega (arith, one.within, before.within);
      none = λ t past first. rw (both t) (grind (arith, before.none t past (omega (arith, one.within)), one.none t past first));
      some = rw (both next) (grind (arith, nat_tests, before.some, one.some));
    }

pub first_more_at : (cells : List Cell) (k : ℕ) (cell : Cell) (at end first next : ℕ) → k < length cells → cell ≡ get_or cells k cell
    → IsFirstOrEnd (λ t. list_any (cell_turns t) (take k cells)) at end first → IsFirstOrEnd (λ t. cell_turns t cell) at first next
    → IsFirstOrEnd (λ t. list_any (cell_turns t) (take (k + 1) cells)) at end next
first_more_at cells k cell at end first next some is before one =
    let more : take (k + 1) cells ≡ take k cells ++ cell ∷ [] = take_more cells k cell some ∙ ap (λ c. take k cells ++ c ∷ []) (sym is) in
    rw more (first_more (take k cells) cell at end first next before one)

pub first_all : (cells : List Cell) (k at end first : ℕ) → length cells ≤ k → IsFirstOrEnd (λ t. list_any (cell_turns t) (take k cells)) at end first
    → IsFirstOrEnd (λ t. list_any (cell_turns t) cells) at end first
first_all cells k at end first all is = subst (λ seen. IsFirstOrEnd (λ t. list_any (cell_turns t) seen) at end first) (take_all k cells all) is

-- the epoch that is in force where `count` epochs have begun
in_force : (epochs : List Epoch) (p : Epoch) (t count : ℕ) → 0 < count → AreBegunUpTo epochs t count → slice_get epochs (count - 1) ≡ Some p → epoch_at epochs t ≡ Some p
in_force epochs p t count some split is = grind (arith, nat_tests, epoch_at-split epochs t count split)

-- What holds where a piece is cut from tick `at` on: how many epochs have begun, which is in force, and the tick `first` that is past the piece.
pub record IsCutting (asked : Asked) (epochs : List Epoch) (p : Epoch) (count at last next first : ℕ) : Type 0 where
  pub rising : IsRising epochs
  pub some : 0 < count
  pub begun : AreBegunUpTo epochs at count
  pub is : slice_get epochs (count - 1) ≡ Some p
  pub before : IfSome (slice_get epochs count) (λ p. next ≤ p.from)
  pub reached : (next ≡ last + 1) ⊎ ((count < length epochs) × IfSome (slice_get epochs count) (λ p. p.from ≡ next))
  pub turn : IsFirstOrEnd (λ t. legs_end asked t (cells_of p)) at next first
  pub within : next ≤ last + 1

pub cutting : (asked : Asked) (epochs : List Epoch) (p : Epoch) (cells : List Cell) (count at last next first : ℕ) → IsRising epochs → 0 < count → AreBegunUpTo epochs at count
    → p ≡ get_or epochs (count - 1) p → cells ≡ cells_of p
    → IfSome (slice_get epochs count) (λ p. next ≤ p.from)
    → (next ≡ last + 1) ⊎ ((count < length epochs) × IfSome (slice_get epochs count) (λ p. p.from ≡ next))
    → IsFirstOrEnd (λ t. legs_end asked t cells) at next first → next ≤ last + 1 → IsCutting asked epochs p count at last next first
cutting asked epochs p cells count at last next first rising some begun is of before reached turn within = record {
  rising = rising;
  some = some;
  begun = begun;
  is = slice_get_read epochs (length epochs) (count - 1) p refl (omega (arith, begun.within)) is;
  before = before;
  reached = reached;
  turn = subst (λ xs. IsFirstOrEnd (λ t. legs_end asked t xs) at next first) of turn;
  within = within;
}

-- a cell turns only where one of them does
none_turns : (cells : List Cell) (a t : ℕ) (cell : Cell) → list_any (cell_turns t) cells ≡ false → slice_get cells a ≡ Some cell → cell_turns t cell ≡ false
none_turns [] a t cell none is = cc
none_turns (c ∷ cells) zero t cell none is = let same : c ≡ cell = cc in grind (arith, ap (cell_turns t) same)
none_turns (c ∷ cells) (suc a) t cell none is = none_turns cells a t cell (grind arith) is

-- the same of the cells of some indexes
none_turns_among : (indexes : List ℕ) (cells : List Cell) (a t : ℕ) (cell : Cell) → list_any (λ index. option_map_or (cell_turns t) (slice_get cells index) false) indexes ≡ false
    → list_any (λ index. index == a) indexes ≡ true → slice_get cells a ≡ Some cell → cell_turns t cell ≡ false
none_turns_among [] cells a t cell none is_asked is = absurd (false≢true is_asked)
none_turns_among (index ∷ indexes) cells a t cell none is_asked is =
    elim (cases_eq index a) [
      | inl here ↦
          let found : option_map_or (cell_turns t) (slice_get cells index) false ≡ cell_turns t cell
          = ap (λ i. option_map_or (cell_turns t) (slice_get cells i) false) here ∙ ap (λ c. option_map_or (cell_turns t) c false) is in
          sym found ∙ (both_false _ _ none).0
      | inr other ↦ none_turns_among indexes cells a t cell (both_false _ _ none).1 (grind (arith, nat_tests)) is
    ]

written_dynamic : (cells : List Cell) (a s : ℕ) (v : Dynamic) → AreCellsAt cells s → slice_get cells a ≡ Some (kinds.Dyn v) → v.updatetime ≤ s
written_dynamic cells a s v written here =
    subst (λ cell. IsCellAt cell s) (get_or_from_slice_get cells a (kinds.Dyn v) (kinds.Dyn v) here)
    (written a (kinds.Dyn v) (slice_get_within cells a (kinds.Dyn v) here))

-- a leg of an asked attribute ends only where one of them does
asked_turns : (asked : Asked) (cells : List Cell) (a t : ℕ) (v : Dynamic) → legs_end asked t cells ≡ false → is_asked asked a ≡ true → slice_get cells a ≡ Some (kinds.Dyn v)
    → turns_at v t ≡ false
asked_turns which.All cells a t v none asks is = none_turns cells a t (kinds.Dyn v) none is
asked_turns (which.These indexes) cells a t v none asks is = none_turns_among indexes.now cells a t (kinds.Dyn v) none asks is

steady_for : (asked : Asked) (p : Epoch) (lo hi : ℕ) → ((a : ℕ) (v : Dynamic) → is_asked asked a ≡ true → slice_get (cells_of p) a ≡ Some (kinds.Dyn v) → IsLinear v lo hi)
    → AreSteadyFor asked p lo hi
steady_for which.All p lo hi each = λ a v cell. each a v refl cell
steady_for (which.These indexes) p lo hi each = each

-- where no leg ends past `lo` up to `hi`, one slope moves the value
pub linear : (v : Dynamic) (lo hi : ℕ) → v.updatetime ≤ lo → ((t : ℕ) → lo < t → t ≤ hi → turns_at v t ≡ false) → IsLinear v lo hi
linear v lo hi written none =
    let quiet : (t : ℕ) → t ≤ hi → NoneEnds v.function.firsts (lo - v.updatetime) (t - v.updatetime)
    = λ t by w past up_to.
    let back : w + v.updatetime - v.updatetime ≡ w = omega arith in
    subst (λ n. leg_ends v.function.firsts n ≡ false) back (none (w + v.updatetime) (omega arith) (omega arith)) in
    record {
      written = written;
      slope = λ t from up_to. legs_slope-steady v.function.firsts v.function.last (lo - v.updatetime) (t - v.updatetime) (omega arith) (quiet t up_to);
      value = λ t from up_to.
          let passed : t - v.updatetime - (lo - v.updatetime) ≡ t - lo = omega arith in
          let rises : rise v.function (t - v.updatetime) ≡ rise v.function (lo - v.updatetime) +ℤ slope_at v lo *ℤ pos (t - lo)
          = legs_rise-steady v.function.firsts v.function.last (lo - v.updatetime) (t - v.updatetime) (omega arith) (quiet t up_to)
          ∙ ap (λ n. rise v.function (lo - v.updatetime) +ℤ slope_at v lo *ℤ pos n) passed in
          ap (λ r. v.value +ℤ r) rises ∙ omega (arith, ints);
    }

module _ (asked : Asked) (epochs : List Epoch) (p : Epoch) (count at last next first : ℕ) (cut : IsCutting asked epochs p count at last next first) where
  -- the same epochs have begun at each tick before the next one
  pub begun_at : (t : ℕ) → at ≤ t → t < next → AreBegunUpTo epochs t count
  begun_at t h before =
      AreBegunUpTo-later epochs at t count cut.rising h (λ some d. omega (arith, at_each (λ q. next ≤ q.from) epochs count cut.before some d)) cut.begun

  epoch_in : (t : ℕ) → at ≤ t → t < next → epoch_at epochs t ≡ Some p
  epoch_in t h before = in_force epochs p t count cut.some (begun_at t h before) cut.is

  begins_before : p.from ≤ at
  begins_before =
      let is : get_or epochs (count - 1) p ≡ p = get_or_from_slice_get epochs (count - 1) p p cut.is in
      omega (arith, (opened epochs at count cut.begun).begun (count - 1) p (omega (arith, cut.some)), ap (λ q. q.from) is)

  changes_in : (t : ℕ) → at ≤ t → t < next → is_cut_for asked epochs t ≡ changes_for asked t p
  changes_in t h before = ap (λ q. option_map_or (changes_for asked t) q false) (epoch_in t h before)

  not_cut : (t : ℕ) → at < t → t < first → is_cut_for asked epochs t ≡ false
  not_cut t past before =
      changes_in t (omega arith) (omega (arith, cut.turn.within)) ∙ grind (arith, nat_tests, begins_before, cut.turn.none t past before)

  -- the next epoch begins
  cut_next : first ≡ next → (count < length epochs) × IfSome (slice_get epochs count) (λ q. q.from ≡ next) → is_cut_for asked epochs first ≡ true
  cut_next same begins =
      let each = at_each (λ q. q.from ≡ next) epochs count begins.1 begins.0 in
      let here : slice_get epochs (count + 1 - 1) ≡ Some (get_or epochs count p)
      = let back : count + 1 - 1 ≡ count = omega arith in ap (slice_get epochs) back ∙ slice_get-get_or epochs count p begins.0 in
      let split : AreBegunUpTo epochs first (count + 1) = AreBegunUpTo-next epochs at first count cut.rising begins.0 (λ d. each d ∙ sym same) cut.begun in
      let now : epoch_at epochs first ≡ Some (get_or epochs count p) = in_force epochs (get_or epochs count p) first (count + 1) (omega arith) split here in
      let begun : (get_or epochs count p).from ≡ first = each p ∙ sym same in
      ap (λ q. option_map_or (changes_for asked first) q false) now ∙ grind (arith, nat_tests, begun)

  ends : (first == last + 1 || is_cut_for asked epochs first) ≡ true
  ends =
      elim (cases_lt first next) [
        | inl before ↦
            let turns : legs_end asked first (cells_of p) ≡ true = grind (arith, nat_tests, cut.turn.some) in
            let is : is_cut_for asked epochs first ≡ true = changes_in first (omega (arith, cut.turn.past)) before ∙ grind (arith, turns) in
            grind (arith, is)
        | inr past ↦
            let same : first ≡ next = omega (arith, cut.turn.within) in
            elim cut.reached [
              | inl at_end ↦ grind (arith, nat_tests)
              | inr begins ↦ let is : is_cut_for asked epochs first ≡ true = cut_next same begins in grind (arith, is)
            ]
      ]

  pub piece_is : (piece : Piece) → piece.span.lo ≡ at → piece.span.hi + 1 ≡ first → piece.epoch ≡ count - 1 → IsPieceFor asked epochs at last piece
  piece_is piece lo hi epoch =
      let back : (piece.span.hi == last) ≡ (first == last + 1) = grind (arith, nat_tests) in
      let next_is : is_cut_for asked epochs (piece.span.hi + 1) ≡ is_cut_for asked epochs first = ap (is_cut_for asked epochs) hi in
      record {
        begins = lo;
        within = omega (arith, cut.turn.within, cut.within);
        epoch = ap (slice_get epochs) epoch ∙ cut.is ∙ sym (epoch_in at (omega arith) (omega (arith, cut.turn.past, cut.turn.within)));
        whole = λ t past up_to. not_cut t past (omega arith);
        ends = grind (arith, back, next_is, ends);
      }

  pub steady_is : (piece : Piece) → AreCellsAt (cells_of p) p.from → piece.span.lo ≡ at → piece.span.hi + 1 ≡ first → piece.epoch ≡ count - 1 → IsSteadyFor asked epochs piece
  steady_is piece written lo hi epoch = record {
    within = omega (arith, cut.some, cut.begun.within);
    in_force = λ t from up_to. epoch_in t (omega arith) (omega (arith, cut.turn.within)) ∙ sym cut.is ∙ ap (slice_get epochs) (sym epoch);
    linear = λ q is.
        let same : p ≡ q = let at_index : slice_get epochs (count - 1) ≡ Some q = ap (slice_get epochs) (sym epoch) ∙ is in grind (arith, cut.is) in
        subst (λ r. AreSteadyFor asked r piece.span.lo piece.span.hi) same
        (steady_for asked p piece.span.lo piece.span.hi (λ a v asks cell.
        let by_then : v.updatetime ≤ p.from = written_dynamic (cells_of p) a p.from v written cell in
        linear v piece.span.lo piece.span.hi (omega (arith, begins_before))
        (λ t past up_to. asked_turns asked (cells_of p) a t v (cut.turn.none t (omega arith) (omega arith)) asks cell)));
  }

-- pieces without a gap from tick `from` to the tick before `at`
abbrev pub ArePiecesTo : List Epoch → ℕ → ℕ → List Piece → ℕ → Type 0
ArePiecesTo epochs from last [] at = from ≡ at
ArePiecesTo epochs from last (piece ∷ pieces) at = IsPiece epochs from last piece × ArePiecesTo epochs (piece.span.hi + 1) last pieces at

pub ArePiecesTo-push : (epochs : List Epoch) (from last : ℕ) (pieces : List Piece) (at : ℕ) (piece : Piece) → ArePiecesTo epochs from last pieces at → IsPiece epochs at last piece
    → ArePiecesTo epochs from last (pieces ++ piece ∷ []) (piece.span.hi + 1)
ArePiecesTo-push epochs from last [] at piece is one = (subst (λ t. IsPiece epochs t last piece) (sym is) one, refl)
ArePiecesTo-push epochs from last (first ∷ pieces) at piece are one = (are.0, ArePiecesTo-push epochs (first.span.hi + 1) last pieces at piece are.1 one)

pub ArePiecesTo-none : (epochs : List Epoch) (from last : ℕ) (pieces : List Piece) → pieces ≡ [] → ArePiecesTo epochs from last pieces from
ArePiecesTo-none epochs from last pieces none = rw none refl

-- once they reach past the last tick they are all
pub ArePiecesTo-all : (epochs : List Epoch) (from last : ℕ) (pieces : List Piece) (at : ℕ) → ArePiecesTo epochs from last pieces at → last < at → ArePiecesFrom epochs from last pieces
ArePiecesTo-all epochs from last [] at is past = omega arith
ArePiecesTo-all epochs from last (piece ∷ pieces) at are past = (are.0, ArePiecesTo-all epochs (piece.span.hi + 1) last pieces at are.1 past)

-- the window begins with the first epoch or later
pub ArePieces-from : (epochs : List Epoch) (first : Epoch) (lo last : ℕ) (pieces : List Piece) → slice_get epochs 0 ≡ Some first → ArePiecesFrom epochs (max lo first.from) last pieces
    → ArePieces epochs lo last pieces
ArePieces-from [] first lo last pieces is are = cc
ArePieces-from (p ∷ epochs) first lo last pieces is are =
    let same : first ≡ p = cc in subst (λ q. ArePiecesFrom (p ∷ epochs) (max lo q.from) last pieces) same are

-- each tick of the pieces is in one of them
pieces_have-from : (epochs : List Epoch) (from last : ℕ) (pieces : List Piece) → ArePiecesFrom epochs from last pieces → (t : ℕ) → pieces_have pieces t ≡ within from last t
pieces_have-from epochs from last [] past t = grind (arith, nat_tests)
pieces_have-from epochs from last (piece ∷ pieces) are t =
    let later : pieces_have pieces t ≡ within (piece.span.hi + 1) last t = pieces_have-from epochs (piece.span.hi + 1) last pieces are.1 t in
    let begins : piece.span.lo ≡ from = are.0.begins in
    let up_to : piece.span.hi ≤ last = are.0.within in
    let order : piece.span.lo ≤ piece.span.hi = piece.span.ordered in
    grind (arith, nat_tests)

-- where one epoch has begun, there is one in force
some_in_force : (epochs : List Epoch) (p : Epoch) (t : ℕ) → is_some (in_force_of t (Some p) epochs) ≡ true
some_in_force [] p t = refl
some_in_force (q ∷ epochs) p t =
    elim (cases_lt t q.from) [
      | inl before ↦ grind (arith, nat_tests, some_in_force epochs p t)
      | inr begun ↦ grind (arith, nat_tests, some_in_force epochs q t)
    ]

none_in_force : (epochs : List Epoch) (low t : ℕ) → IsRisingFrom low epochs → t < low → is_some (in_force_of t None epochs) ≡ false
none_in_force [] low t rising before = refl
none_in_force (q ∷ epochs) low t rising before =
    let late : t < q.from = omega (arith, rising.0) in
    grind (arith, nat_tests, none_in_force epochs (q.from + 1) t rising.1 (omega arith))

-- the pieces have the ticks of the window from the first epoch on
pub pieces_have-cover : (epochs : List Epoch) (lo last : ℕ) (pieces : List Piece) → IsRising epochs → ArePieces epochs lo last pieces
    → (t : ℕ) → pieces_have pieces t ≡ (within lo last t && is_some (epoch_at epochs t))
pieces_have-cover [] lo last pieces rising none t = rw none (grind arith)
pieces_have-cover (p ∷ epochs) lo last pieces rising are t =
    pieces_have-from (p ∷ epochs) (max lo p.from) last pieces are t
    ∙ elim (cases_lt t p.from) [
      | inl before ↦ grind (arith, nat_tests, none_in_force epochs (p.from + 1) t rising.1 (omega arith))
      | inr begun ↦ grind (arith, nat_tests, some_in_force epochs p t)
    ]
