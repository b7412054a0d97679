-- What a write leaves of a timeline.
use Rattle.std.proofs.Common.{◌≡◌, ◌≢◌, ℕ, zero, suc, ◌+◌, ◌-◌, ◌<◌, ◌≤◌, Option, None, Some, List, [], ◌∷◌, ◌++◌, length, get_or, set, take, refl, sym, ap, subst, ◌∙◌, inl, inr, arith, length-append, length-set}
use Rattle.std.specs.Prelude.{All, IfSome, nat_lt, nat_le, slice_get, if◌then◌else◌}
use Rattle.std.specs.List.{filter, fold}
use Rattle.std.specs.List.Sorted.{IsNonDecreasingBy}
use Rattle.std.proofs.lemmas.List.{get_or_default, take_more_set}
use Rattle.std.proofs.lemmas.List.Sums.{fold-append}
use Rattle.std.proofs.Math.Seq.{take-length}
use Rattle.std.proofs.lemmas.Option.{get_or_from_slice_get, slice_get-get_or, slice_get_within}
use Rattle.std.proofs.lemmas.Bool.{cases_lt}
use Rattle.std.proofs.lemmas.Bool.Decides.{nat_tests}
use Rattle.motion.specs.Timeline.{Epoch, epoch_at, put, IsRisingFrom, IsRising, AreBegunBy, AreBegunUpTo}

-- the epoch in force at tick t of some more epochs, where `found` is in force of those before
abbrev pub in_force_of : ℕ → Option Epoch → List Epoch → Option Epoch
in_force_of t found epochs = fold (λ found p. if nat_le p.from t then Some p else found) found epochs

-- epochs that begin at a later tick than t tell nothing of t
in_force-filter : (epochs : List Epoch) (found : Option Epoch) (t s : ℕ) → t < s → in_force_of t found (filter (λ q. nat_lt q.from s) epochs) ≡ in_force_of t found epochs
in_force-filter [] found t s h = refl
in_force-filter (q ∷ epochs) found t s h =
    elim (cases_lt q.from s) [
      | inl early ↦ grind (arith, nat_tests, in_force-filter epochs (if nat_le q.from t then Some q else found) t s h)
      | inr late ↦ grind (arith, nat_tests, in_force-filter epochs found t s h)
    ]

-- the epoch at a tick after a write
pub epoch_at-put : (epochs : List Epoch) (p : Epoch) (t : ℕ) → epoch_at (put epochs p) t ≡ (if nat_le p.from t then Some p else epoch_at epochs t)
epoch_at-put epochs p t =
    fold-append _ None (filter (λ q. nat_lt q.from p.from) epochs) (p ∷ [])
    ∙ elim (cases_lt t p.from) [
      | inl before ↦ grind (arith, nat_tests, in_force-filter epochs None t p.from before)
      | inr from_then ↦ grind (arith, nat_tests)
    ]

-- a lower bound of the first tick
IsRisingFrom-lower : (epochs : List Epoch) (low high : ℕ) → low ≤ high → IsRisingFrom high epochs → IsRisingFrom low epochs
IsRisingFrom-lower [] low high h rising = tt
IsRisingFrom-lower (q ∷ epochs) low high h rising = (omega (arith, rising.0), rising.1)

-- a write keeps the order
pub IsRisingFrom-put : (epochs : List Epoch) (low : ℕ) (p : Epoch) → low ≤ p.from → IsRisingFrom low epochs → IsRisingFrom low (put epochs p)
IsRisingFrom-put [] low p h rising = (h, tt)
IsRisingFrom-put (q ∷ epochs) low p h rising =
    elim (cases_lt q.from p.from) [
      | inl early ↦
          let kept : put (q ∷ epochs) p ≡ q ∷ put epochs p = grind (arith, nat_tests) in
          rw kept (rising.0, IsRisingFrom-put epochs (q.from + 1) p (omega arith) rising.1)
      | inr late ↦
          let left : put (q ∷ epochs) p ≡ put epochs p = grind (arith, nat_tests) in
          rw left (IsRisingFrom-put epochs low p h (IsRisingFrom-lower epochs low (q.from + 1) (omega (arith, rising.0)) rising.1))
    ]

-- each epoch begins at or past the bound of the first
pub each_from : (epochs : List Epoch) (low k : ℕ) (d : Epoch) → IsRisingFrom low epochs → k < length epochs → low ≤ (get_or epochs k d).from
each_from [] low k d rising within = absurd (omega arith)
each_from (q ∷ epochs) low zero d rising within = rising.0
each_from (q ∷ epochs) low (suc k) d rising within = omega (arith, rising.0, each_from epochs (q.from + 1) k d rising.1 (omega arith))

-- a later one begins past an earlier one
pub each_past : (epochs : List Epoch) (low j k : ℕ) (d : Epoch) → IsRisingFrom low epochs → j < k → k < length epochs → (get_or epochs j d).from < (get_or epochs k d).from
each_past [] low j k d rising before within = absurd (omega arith)
each_past (q ∷ epochs) low j zero d rising before within = absurd (omega arith)
each_past (q ∷ epochs) low zero (suc k) d rising before within = omega (arith, each_from epochs (q.from + 1) k d rising.1 (omega arith))
each_past (q ∷ epochs) low (suc j) (suc k) d rising before within = each_past epochs (q.from + 1) j k d rising.1 (omega arith) (omega arith)

-- where all begin before s, a write at s leaves them all
filter-before : (epochs : List Epoch) (s : ℕ) → All (λ q. q.from < s) epochs → filter (λ q. nat_lt q.from s) epochs ≡ epochs
filter-before [] s before = refl
filter-before (q ∷ epochs) s before =
    let first : q.from < s = before 0 q (omega arith) in
    grind (arith, nat_tests, filter-before epochs s (λ k d l. before (suc k) d (omega arith)))

pub IsRising-put : (epochs : List Epoch) (p : Epoch) → IsRising epochs → IsRising (put epochs p)
IsRising-put epochs p rising = IsRisingFrom-put epochs 0 p (omega arith) rising

pub IsRising-written : (epochs new : List Epoch) (p : Epoch) → IsRising epochs → put epochs p ≡ new → IsRising new
IsRising-written epochs new p rising is = subst (λ written. IsRising written) is (IsRising-put epochs p rising)

-- where the last begins before s, all do
all_before : (epochs : List Epoch) (k s : ℕ) → IsRising epochs → k + 1 ≡ length epochs → ((d : Epoch) → (get_or epochs k d).from < s) → All (λ q. q.from < s) epochs
all_before epochs k s rising last before j d l =
    elim (cases_lt j k) [
      | inl earlier ↦ omega (arith, each_past epochs 0 j k d rising earlier (omega arith), before d)
      | inr at_last ↦ let is : j ≡ k = omega arith in rw is (before d)
    ]

-- an epoch that begins past the last one is written after it
pub put_behind : (epochs : List Epoch) (k from : ℕ) (last : Epoch) → IsRising epochs → AreBegunBy epochs from → k + 1 ≡ length epochs → last ≡ get_or epochs k last → last.from ≢ from
    → (p : Epoch) → p.from ≡ from → put epochs p ≡ epochs ++ p ∷ []
put_behind epochs k from last rising begun at_end is other p now =
    let before : (d : Epoch) → (get_or epochs k d).from < p.from
    = λ d. let here : get_or epochs k d ≡ last = get_or_default epochs k d last (omega arith) ∙ sym is in
    grind (arith, ap (λ q. q.from) here, begun k d (omega arith)) in
    ap (λ kept. kept ++ p ∷ []) (filter-before epochs p.from (all_before epochs k p.from rising at_end before))

-- one that begins with the last one is written over it
put_over_from : (epochs : List Epoch) (low k : ℕ) (p d : Epoch) → IsRisingFrom low epochs → k + 1 ≡ length epochs → (get_or epochs k d).from ≡ p.from → put epochs p ≡ set epochs k p
put_over_from [] low k p d rising last same = absurd (omega arith)
put_over_from (q ∷ []) low zero p d rising last same = grind (arith, nat_tests)
put_over_from (q ∷ r ∷ epochs) low zero p d rising last same = absurd (omega arith)
put_over_from (q ∷ epochs) low (suc k) p d rising last same =
    let early : q.from < p.from = omega (arith, each_past (q ∷ epochs) low 0 (suc k) d rising (omega arith) (omega arith)) in
    grind (arith, nat_tests, put_over_from epochs (q.from + 1) k p d rising.1 (omega arith) same)

pub put_over : (epochs : List Epoch) (k from : ℕ) (last : Epoch) → IsRising epochs → k + 1 ≡ length epochs → last ≡ get_or epochs k last → last.from ≡ from
    → (p : Epoch) → p.from ≡ from → put epochs p ≡ set epochs k p
put_over epochs k from last rising at_end is same p now =
    put_over_from epochs 0 k p last rising at_end (ap (λ q. q.from) (sym is) ∙ same ∙ sym now)

-- an epoch written over the last one stands after those before
pub set_last : (epochs : List Epoch) (k : ℕ) (p : Epoch) → k + 1 ≡ length epochs → set epochs k p ≡ take k epochs ++ p ∷ []
set_last epochs k p last =
    let all : k + 1 ≡ length (set epochs k p) = last ∙ sym (length-set epochs k p) in
    sym (take-length (set epochs k p)) ∙ ap (λ n. take n (set epochs k p)) (sym all) ∙ take_more_set epochs k p (omega arith)

-- the index before the end, with one more in front
-- what holds of the epoch of an index, if there is one, holds of it at each default, and the other way round
pub at_each : (P : Epoch → Type 0) (epochs : List Epoch) (k : ℕ) → IfSome (slice_get epochs k) P → k < length epochs → (d : Epoch) → P (get_or epochs k d)
at_each P epochs k some within d = subst (λ (o : Option Epoch). IfSome o P) (slice_get-get_or epochs k d within) some

if_some : (P : Epoch → Type 0) (epochs : List Epoch) (k : ℕ) (o : Option Epoch) → slice_get epochs k ≡ o → (k < length epochs → (d : Epoch) → P (get_or epochs k d)) → IfSome o P
if_some P epochs k None is each = tt
if_some P epochs k (Some p) is each = subst P (get_or_from_slice_get epochs k p p is) (each (slice_get_within epochs k p is) p)

pub from_each : (P : Epoch → Type 0) (epochs : List Epoch) (k : ℕ) → (k < length epochs → (d : Epoch) → P (get_or epochs k d)) → IfSome (slice_get epochs k) P
from_each P epochs k each = if_some P epochs k (slice_get epochs k) refl each

-- the same of the first `count` epochs and of the others
pub record AreBegunAt (epochs : List Epoch) (t count : ℕ) : Type 0 where
  pub within : count ≤ length epochs
  pub begun : (k : ℕ) (d : Epoch) → k < count → (get_or epochs k d).from ≤ t
  pub later : (k : ℕ) (d : Epoch) → count ≤ k → k < length epochs → t < (get_or epochs k d).from

pub opened : (epochs : List Epoch) (t count : ℕ) → AreBegunUpTo epochs t count → AreBegunAt epochs t count
opened epochs t count split = record {
  within = split.within;
  begun = λ k d l. at_each (λ p. p.from ≤ t) epochs k (split.begun k l) (omega (arith, split.within, l)) d;
  later = λ k d l m. at_each (λ p. t < p.from) epochs k (split.later k l) m d;
}

pub closed : (epochs : List Epoch) (t count : ℕ) → AreBegunAt epochs t count → AreBegunUpTo epochs t count
closed epochs t count split = record {
  within = split.within;
  begun = λ k l. from_each (λ p. p.from ≤ t) epochs k (λ m d. split.begun k d l);
  later = λ k l. from_each (λ p. t < p.from) epochs k (λ m d. split.later k d l m);
}

last_of : (q : Epoch) (found : Option Epoch) (epochs : List Epoch) (count : ℕ)
    → (if nat_lt 0 count then slice_get epochs (count - 1) else Some q) ≡ (if nat_lt 0 (suc count) then slice_get (q ∷ epochs) (suc count - 1) else found)
last_of q found epochs zero = refl
last_of q found epochs (suc count) =
    let before : suc count - 1 ≡ count = omega arith in
    let here : suc (suc count) - 1 ≡ suc count = omega arith in
    grind (arith, nat_tests, before, here)

-- the last of the epochs that begin by tick t is in force then
in_force_of-split : (epochs : List Epoch) (found : Option Epoch) (t count : ℕ) → AreBegunAt epochs t count
    → in_force_of t found epochs ≡ (if nat_lt 0 count then slice_get epochs (count - 1) else found)
in_force_of-split [] found t count split = let none : count ≡ 0 = omega (arith, split.within) in grind (arith, nat_tests)
in_force_of-split (q ∷ epochs) found t zero split =
    let late : t < q.from = split.later 0 q (omega arith) (omega arith) in
    grind (
      arith,
      nat_tests,
      in_force_of-split epochs found t 0 (record {
        within = omega arith;
        begun = λ k d l. absurd (omega arith);
        later = λ k d l m. split.later (suc k) d (omega arith) (omega arith);
      }),
    )
in_force_of-split (q ∷ epochs) found t (suc count) split =
    let taken : (if nat_le q.from t then Some q else found) ≡ Some q = let early : q.from ≤ t = split.begun 0 q (omega arith) in grind (arith, nat_tests) in
    let later : in_force_of t (Some q) epochs ≡ (if nat_lt 0 count then slice_get epochs (count - 1) else Some q)
    = in_force_of-split epochs (Some q) t count (record {
      within = omega (arith, split.within);
      begun = λ k d l. split.begun (suc k) d (omega arith);
      later = λ k d l m. split.later (suc k) d (omega arith) (omega arith);
    }) in
    ap (λ now. in_force_of t now epochs) taken ∙ later ∙ last_of q found epochs count

last_or_none : (epochs : List Epoch) → (if nat_lt 0 (length epochs) then slice_get epochs (length epochs - 1) else None) ≡ slice_get epochs (length epochs - 1)
last_or_none [] = refl
last_or_none (q ∷ epochs) = grind (arith, nat_tests)

pub epoch_at-split : (epochs : List Epoch) (t count : ℕ) → AreBegunUpTo epochs t count → epoch_at epochs t ≡ (if nat_lt 0 count then slice_get epochs (count - 1) else None)
epoch_at-split epochs t count split = in_force_of-split epochs None t count (opened epochs t count split)

pub none_begun : (epochs : List Epoch) (t count : ℕ) → AreBegunUpTo epochs t count → count < 1 → None ≡ epoch_at epochs t
none_begun epochs t count split none = sym (epoch_at-split epochs t count split ∙ grind (arith, nat_tests))

pub last_begun_at : (epochs : List Epoch) (t count index : ℕ) → AreBegunUpTo epochs t count → 1 ≤ count → index ≡ count - 1 → slice_get epochs index ≡ epoch_at epochs t
last_begun_at epochs t count index split some is = ap (slice_get epochs) is ∙ sym (epoch_at-split epochs t count split ∙ grind (arith, nat_tests))

-- epochs that rise do not fall
pub from_rises : (epochs : List Epoch) → IsRising epochs → IsNonDecreasingBy (λ p. p.from) epochs
from_rises epochs rising j k d before within =
    elim (cases_lt j k) [
      | inl earlier ↦ omega (arith, each_past epochs 0 j k d rising earlier within)
      | inr not_later ↦ let is : j ≡ k = omega arith in rw is (omega arith)
    ]

-- what is known of the last epoch is known of all that begin by then
pub begun_by_last : (epochs : List Epoch) (t : ℕ) (last : Epoch) → IsRising epochs → slice_get epochs (length epochs - 1) ≡ Some last → last.from ≤ t → AreBegunBy epochs t
begun_by_last epochs t last rising is by k d l =
    let here : get_or epochs (length epochs - 1) d ≡ last = get_or_from_slice_get epochs (length epochs - 1) last d is in
    elim (cases_lt k (length epochs - 1)) [
      | inl before ↦ omega (arith, each_past epochs 0 k (length epochs - 1) d rising before (omega arith), ap (λ q. q.from) here)
      | inr at_last ↦ let same : k ≡ length epochs - 1 = omega arith in rw same (omega (arith, ap (λ q. q.from) here))
    ]

-- the last epoch is in force once all have begun
pub epoch_at-last : (epochs : List Epoch) (t : ℕ) → AreBegunBy epochs t → epoch_at epochs t ≡ slice_get epochs (length epochs - 1)
epoch_at-last epochs t by =
    epoch_at-split epochs t (length epochs)
    (closed epochs t (length epochs) (record { within = omega arith; begun = λ k d l. by k d l; later = λ k d l m. absurd (omega arith) }))
    ∙ last_or_none epochs

-- a list with another element in one place is not the list with one more
pub set_is_no_push : (epochs : List Epoch) (k : ℕ) (p q : Epoch) → set epochs k p ≢ epochs ++ q ∷ []
set_is_no_push epochs k p q is =
    let same : length epochs ≡ length (epochs ++ q ∷ []) = sym (length-set epochs k p) ∙ ap length is in
    omega (arith, length-append epochs (q ∷ []))
