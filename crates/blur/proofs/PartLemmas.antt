-- Parts of timelines, and what is gathered part by part.
use Rattle.std.proofs.Common.{◌≡◌, ℕ, ◌+◌, ◌-◌, ◌<◌, ◌≤◌, Bool, true, false, ◌&&◌, ◌||◌, ℤ, nat_le, nat_lt, inl, inr, Option, None, Some, List, refl, sym, ap, ◌∙◌, arith}
use Rattle.std.specs.Prelude.{option_and_then, slice_index_or}
use Rattle.std.specs.Option.{IfNone, IfSome, option_copied, option_map, option_map_or}
use Rattle.std.proofs.lemmas.Bool.{cases_Bool, cases_lt}
use Rattle.std.proofs.lemmas.Bool.Decides.{nat_tests}
use Rattle.case_table.specs.declared.compare.Op.{Op}
use Rattle.fixed_point.specs.declared.number.Point.{Point}
use Rattle.linear_crossing.specs.declared.quad.Line.{Line}
use Rattle.linear_crossing.specs.Moving.{position_after}
use Rattle.motion.specs.Timeline.{Epoch, epoch_at}
use Rattle.courses.specs.Places.{place_at, place_of}
use Rattle.courses.specs.declared.parts.Common.{Common}
use Rattle.courses.specs.CommonParts.{place_in}
use Rattle.tick_set.specs.Runs.{spans_have}
use Rattle.tick_set.specs.Ticks.{within}
use Rattle.tick_set.specs.declared.spans.Span.{Span}
use Rattle.worlds.specs.Apart.{distance_compares_by, farthest_square, nearest_square}
use Rattle.worlds.specs.Blurred.{distance_holds_by}
use Rattle.blur.specs.Added.{Adds, EndBefore}
use Rattle.atoms.specs.Gathered.{IsGathered}
use Rattle.exact.proofs.Truths.{and_false, is_or_false}

-- ---- one part

guarded : (lo hi t : ℕ) (x y : Bool) → (lo ≤ t → t ≤ hi → x ≡ y) → (within lo hi t && x) ≡ (within lo hi t && y)
guarded lo hi t x y same =
    elim (cases_Bool (within lo hi t)) [
      | inl inside ↦
          let from : lo ≤ t = grind (arith, nat_tests) in
          let up_to : t ≤ hi = grind (arith, nat_tests) in
          ap (λ b. within lo hi t && b) (same from up_to)
      | inr outside ↦ (λ i. outside i && x) ∙ sym (λ i. outside i && y)
    ]

-- where the line is told, the places are those along it, and elsewhere there is none
pub line_places : (lo hi : ℕ) (line : Option Line) (place : ℕ → Option Point) →
    IfSome line (λ l. (t : ℕ) → lo ≤ t → t ≤ hi → place t ≡ Some (position_after l (t - lo))) → IfNone line ((t : ℕ) → place t ≡ None) →
    (t : ℕ) → lo ≤ t → t ≤ hi → place t ≡ option_map (λ l. position_after l (t - lo)) line
line_places lo hi None place along none t from up_to = none t
line_places lo hi (Some l) place along none t from up_to = along t from up_to

-- a line tells the places of an object in a part, None that it has none
abbrev pub TellsPlaces : ℕ → ℕ → Option Line → (ℕ → Option Point) → Type 0
TellsPlaces lo hi told place = (t : ℕ) → lo ≤ t → t ≤ hi → place t ≡ option_map (λ l. position_after l (t - lo)) told

place_on : (lo hi : ℕ) (told : Option Line) (l : Line) (place : ℕ → Option Point) → TellsPlaces lo hi told place → told ≡ Some l
    → (t : ℕ) → lo ≤ t → t ≤ hi → place t ≡ Some (position_after l (t - lo))
place_on lo hi told l place tells is t from up_to = tells t from up_to ∙ ap (option_map (λ m. position_after m (t - lo))) is

no_place : (lo hi : ℕ) (told : Option Line) (place : ℕ → Option Point) → TellsPlaces lo hi told place → told ≡ None
    → (t : ℕ) → lo ≤ t → t ≤ hi → place t ≡ None
no_place lo hi told place tells is t from up_to = tells t from up_to ∙ ap (option_map (λ m. position_after m (t - lo))) is

pub seen_along : (lo hi a b : ℕ) → a ≡ lo → b ≡ hi → (told : Option Line) (l : Line) (place : ℕ → Option Point) → TellsPlaces lo hi told place → told ≡ Some l
    → (test : Point → Bool) (t : ℕ) → (within a b t && test (position_after l (t - a))) ≡ (within lo hi t && option_map_or test (place t) false)
seen_along lo hi a b begins ends told l place tells is test t =
    (λ i. within (begins i) (ends i) t && test (position_after l (t - begins i)))
    ∙ guarded lo hi t (test (position_after l (t - lo))) (option_map_or test (place t) false)
    (λ from up_to. sym (ap (λ (o : Option Point). option_map_or test o false) (place_on lo hi told l place tells is t from up_to)))

-- nothing is added where a test never holds in the part
pub none_added : (lo hi : ℕ) (test : ℕ → Bool) (runs : List Span) → ((t : ℕ) → lo ≤ t → t ≤ hi → test t ≡ false) → Adds (λ t. within lo hi t && test t) runs runs
none_added lo hi test runs never t =
    is_or_false (spans_have runs t) ∙ ap (λ b. spans_have runs t || b) (sym (guarded lo hi t (test t) false (never t) ∙ and_false (within lo hi t)))

pub unseen : (lo hi : ℕ) (told : Option Line) (place : ℕ → Option Point) → TellsPlaces lo hi told place → told ≡ None → (test : Point → Bool)
    → (t : ℕ) → lo ≤ t → t ≤ hi → option_map_or test (place t) false ≡ false
unseen lo hi told place tells is test t from up_to = ap (λ (o : Option Point). option_map_or test o false) (no_place lo hi told place tells is t from up_to)

-- ---- two objects in one part

pub apart_along : (lo hi a b : ℕ) → a ≡ lo → b ≡ hi → (told other : Option Line) (l m : Line) (from to : ℕ → Option Point) → TellsPlaces lo hi told from → TellsPlaces lo hi other to
    → told ≡ Some l → other ≡ Some m → (test : Op → ℤ → ℤ → ℤ → Bool) (error : ℕ) (op : Op) (c : ℤ) (t : ℕ)
    → (within a b t && distance_compares_by test op c (nearest_square error (position_after l (t - a)) (position_after m (t - a))) (farthest_square error (position_after l (t - a)) (position_after m (t - a))))
    ≡ (within lo hi t && distance_holds_by test error op c (from t) (to t))
apart_along lo hi a b begins ends told other l m from to of_from of_to is are test error op c t =
    let holds = distance_holds_by test error op c in
    (λ i. within (begins i) (ends i) t && holds (Some (position_after l (t - begins i))) (Some (position_after m (t - begins i))))
    ∙ guarded lo hi t (holds (Some (position_after l (t - lo))) (Some (position_after m (t - lo)))) (holds (from t) (to t))
    (λ begun up_to. sym (λ i. holds (place_on lo hi told l from of_from is t begun up_to i) (place_on lo hi other m to of_to are t begun up_to i)))

no_second : (test : Op → ℤ → ℤ → ℤ → Bool) (error : ℕ) (op : Op) (c : ℤ) (from : Option Point) → distance_holds_by test error op c from None ≡ false
no_second test error op c None = refl
no_second test error op c (Some p) = refl

pub second_unseen : (lo hi : ℕ) (told : Option Line) (from to : ℕ → Option Point) → TellsPlaces lo hi told to → told ≡ None → (test : Op → ℤ → ℤ → ℤ → Bool) (error : ℕ) (op : Op) (c : ℤ)
    → (t : ℕ) → lo ≤ t → t ≤ hi → distance_holds_by test error op c (from t) (to t) ≡ false
second_unseen lo hi told from to tells is test error op c t begun up_to =
    ap (λ (o : Option Point). distance_holds_by test error op c (from t) o) (no_place lo hi told to tells is t begun up_to) ∙ no_second test error op c (from t)

-- ---- part by part

pub place_along : (epochs : List Epoch) (common : Common) (k t : ℕ) → epoch_at epochs t ≡ option_copied (slice_index_or common.epochs k None) →
    place_in common k t ≡ place_at epochs t
place_along epochs common k t is = sym (ap (option_and_then (λ p. place_of p t)) is)

one_more : (lo at end t : ℕ) (x y : Bool) → lo ≤ at → at ≤ end → (at ≤ t → t ≤ end → x ≡ y) →
    ((nat_le lo t && nat_lt t at && y) || (within at end t && x)) ≡ (nat_le lo t && nat_lt t (end + 1) && y)
one_more lo at end t x y begun order same =
    elim (cases_lt t at) [
      | inl before ↦ grind (arith, nat_tests)
      | inr from ↦ elim (cases_lt end t) [
        | inl past ↦ grind (arith, nat_tests)
        | inr up_to ↦ let is = same from up_to in grind (arith, nat_tests)
      ]
    ]

pub gathered_none : (test : ℕ → Bool) (lo : ℕ) (runs : List Span) → ((t : ℕ) → spans_have runs t ≡ false) → IsGathered test lo lo runs
gathered_none test lo runs none t = none t ∙ grind (arith, nat_tests)

pub gathered_more : (test seen : ℕ → Bool) (lo at : ℕ) (span : Span) (old new : List Span) → lo ≤ at → span.lo ≡ at
    → ((t : ℕ) → span.lo ≤ t → t ≤ span.hi → seen t ≡ test t) → IsGathered test lo at old → Adds (λ t. within span.lo span.hi t && seen t) old new
    → IsGathered test lo (span.hi + 1) new
gathered_more test seen lo at span old new begun begins same gathered adds t =
    adds t
    ∙ (λ i. gathered t i || (within (begins i) span.hi t && seen t))
    ∙ one_more lo at span.hi t (seen t) (test t) begun (omega (arith, begins, span.ordered)) (λ from up_to. same t (omega (arith, begins, from)) up_to)

pub gathered_before : (test : ℕ → Bool) (lo at from : ℕ) (runs : List Span) → from ≡ at → IsGathered test lo at runs → EndBefore from runs
gathered_before test lo at from runs begins gathered t had =
    let is : (nat_le lo t && nat_lt t at && test t) ≡ true = sym (gathered t) ∙ had in
    let before : t < at = grind (arith, nat_tests) in
    omega (arith, begins, before)
