-- Runs that ascend with a tick between two are told by their ticks, also where those before some tick are left out.
use Rattle.std.proofs.Common.{◌≡◌, ◌∙◌, ℕ, zero, suc, ◌+◌, ◌-◌, ◌<◌, ◌≤◌, ◌==◌, max, Bool, true, false, ◌&&◌, ◌||◌, cond, List, [], ◌∷◌, ◌++◌, refl, ap, sym, arith, inl, inr}
use Rattle.std.proofs.lemmas.Bool.{cases_Bool, false≢true, or_left}
use Rattle.std.proofs.lemmas.Bool.Decides.{nat_tests}
use Rattle.std.specs.Prelude.{filter, if◌then◌else◌, nat_le, nat_lt}
use Rattle.std.specs.List.{flat_map, list_any, range_with_len}
use Rattle.meaning.specs.Answer.{has_ticks}
use Rattle.tick_set.specs.Runs.{runs_of, with_tick}
use Rattle.tick_set.specs.Ticks.{between, listed, within}
use Rattle.replica.specs.Rows.{run_text, span_text}
use Rattle.replica.specs.Ticks.{have}
use Rattle.exact.proofs.Truths.{false_is_and}

abbrev pub Ascend : ℕ → List (ℕ × ℕ) → Type 0
Ascend least [] = Unit {0}
Ascend least (s ∷ spans) = (least ≤ s.0) × (s.0 ≤ s.1) × Ascend (s.1 + 2) spans

weaker : (a b : ℕ) (spans : List (ℕ × ℕ)) → a ≤ b → Ascend b spans → Ascend a spans
weaker a b [] upto are = tt
weaker a b (s ∷ spans) upto are = (omega (arith, are.0), are.1, are.2)

none_before : (least : ℕ) (spans : List (ℕ × ℕ)) → Ascend least spans → (t : ℕ) → t < least → have spans t ≡ false
none_before least [] are t early = refl
none_before least (s ∷ spans) are t early =
    let first : least ≤ s.0 = are.0 in
    let order : s.0 ≤ s.1 = are.1 in
    let outside : within s.0 s.1 t ≡ false = grind (arith, nat_tests) in
    rw outside (none_before (s.1 + 2) spans are.2 t (omega arith))

begins : (s : ℕ × ℕ) (spans : List (ℕ × ℕ)) → s.0 ≤ s.1 → have (s ∷ spans) s.0 ≡ true
begins s spans order = or_left (within s.0 s.1 s.0) (have spans s.0) (grind (arith, nat_tests))

-- ---- The same ticks are the same runs

Same : (a b : List (ℕ × ℕ)) → Type 0
Same a b = (t : ℕ) → have a t ≡ have b t

first_upto : (s u : ℕ × ℕ) (a b : List (ℕ × ℕ)) → s.0 ≤ s.1 → Ascend u.0 (u ∷ b) → ((t : ℕ) → have (s ∷ a) t ≡ have (u ∷ b) t) → u.0 ≤ s.0
first_upto s u a b order hb same = elim (cases_Bool (nat_lt s.0 u.0)) [
  | inl early ↦
      let before : s.0 < u.0 = grind (arith, nat_tests) in
      absurd (false≢true (sym (none_before u.0 (u ∷ b) hb s.0 before) ∙ sym (same s.0) ∙ begins s a order))
  | inr other ↦ grind (arith, nat_tests)
]

last_upto : (s u : ℕ × ℕ) (a b : List (ℕ × ℕ)) → s.0 ≡ u.0 → s.0 ≤ s.1 → Ascend (s.1 + 2) a → ((t : ℕ) → have (s ∷ a) t ≡ have (u ∷ b) t) → u.1 ≤ s.1
last_upto s u a b first order ha same = elim (cases_Bool (nat_lt s.1 u.1)) [
  | inl early ↦
      let before : s.1 < u.1 = grind (arith, nat_tests) in
      let there : have (u ∷ b) (s.1 + 1) ≡ true = or_left (within u.0 u.1 (s.1 + 1)) (have b (s.1 + 1)) (grind (arith, nat_tests)) in
      let outside : within s.0 s.1 (s.1 + 1) ≡ false = grind (arith, nat_tests) in
      let gone : have (s ∷ a) (s.1 + 1) ≡ false = rw outside (none_before (s.1 + 2) a ha (s.1 + 1) (omega arith)) in
      absurd (false≢true (sym gone ∙ same (s.1 + 1) ∙ there))
  | inr other ↦ grind (arith, nat_tests)
]

later_same : (s u : ℕ × ℕ) (a b : List (ℕ × ℕ)) → s.1 ≡ u.1 → Ascend (s.1 + 2) a → Ascend (u.1 + 2) b → ((t : ℕ) → have (s ∷ a) t ≡ have (u ∷ b) t) → (t : ℕ) → have a t ≡ have b t
later_same s u a b last ha hb same t = elim (cases_Bool (nat_lt t (s.1 + 2))) [
  | inl early ↦
      let before : t < s.1 + 2 = grind (arith, nat_tests) in
      none_before (s.1 + 2) a ha t before ∙ sym (none_before (u.1 + 2) b hb t (omega (arith, before, last)))
  | inr late ↦
      let after : s.1 + 2 ≤ t = grind (arith, nat_tests) in
      let out : within s.0 s.1 t ≡ false = grind (arith, nat_tests) in
      let out' : within u.0 u.1 t ≡ false = grind (arith, nat_tests, last) in
      sym (ap (λ b. b || have a t) out) ∙ same t ∙ ap (λ x. x || have b t) out'
]

pub unique : (n m : ℕ) (a b : List (ℕ × ℕ)) → Ascend n a → Ascend m b → ((t : ℕ) → have a t ≡ have b t) → a ≡ b
unique n m [] [] ha hb same = refl
unique n m [] (u ∷ b) ha hb same = absurd (false≢true (same u.0 ∙ begins u b hb.1))
unique n m (s ∷ a) [] ha hb same = absurd (false≢true (sym (same s.0) ∙ begins s a ha.1))
unique n m (s ∷ a) (u ∷ b) ha hb same =
    let back : (t : ℕ) → have (u ∷ b) t ≡ have (s ∷ a) t = λ t. sym (same t) in
    let low = first_upto s u a b ha.1 (omega arith, hb.1, hb.2) same in
    let high = first_upto u s b a hb.1 (omega arith, ha.1, ha.2) back in
    let first : s.0 ≡ u.0 = omega (arith, low, high) in
    let below = last_upto s u a b first ha.1 ha.2 same in
    let above = last_upto u s b a (sym first) hb.1 hb.2 back in
    let last : s.1 ≡ u.1 = omega (arith, below, above) in
    let rest : a ≡ b = unique (s.1 + 2) (u.1 + 2) a b ha.2 hb.2 (later_same s u a b last ha.2 hb.2 same) in
    λ i. (first i, last i) ∷ rest i

-- ---- Listed ticks

joined : (b : Bool) (t lo hi : ℕ) (runs : List (ℕ × ℕ)) → (lo == t + 1) ≡ b → Ascend (t + 1) ((lo, hi) ∷ runs) → Ascend t (cond b ((t, hi) ∷ runs) ((t, t) ∷ (lo, hi) ∷ runs))
joined true t lo hi runs is are =
    let order : lo ≤ hi = are.1 in
    let next : lo ≡ t + 1 = grind (arith, nat_tests) in
    (omega arith, omega arith, are.2)
joined false t lo hi runs is are =
    let least : t + 1 ≤ lo = are.0 in
    let apart : t + 2 ≤ lo = grind (arith, nat_tests) in
    (omega arith, omega arith, (apart, are.1, are.2))

with_tick_ascends : (t : ℕ) (runs : List (ℕ × ℕ)) → Ascend (t + 1) runs → Ascend t (with_tick t runs)
with_tick_ascends t [] are = (omega arith, omega arith, tt)
with_tick_ascends t ((lo, hi) ∷ runs) are = joined (lo == t + 1) t lo hi runs refl are

ranged : (p : ℕ → Bool) (n a : ℕ) → Ascend a (runs_of (filter p (range_with_len a n)))
ranged p zero a = tt
ranged p (suc n) a =
    let later : Ascend (a + 1) (runs_of (filter p (range_with_len (a + 1) n))) = ranged p n (a + 1) in
    elim (cases_Bool (p a)) [
      | inl passes ↦ rw passes (with_tick_ascends a (runs_of (filter p (range_with_len (a + 1) n))) later)
      | inr other ↦ rw other (weaker a (a + 1) (runs_of (filter p (range_with_len (a + 1) n))) (omega arith) later)
    ]

pub listed_ascend : (p : ℕ → Bool) (from e : ℕ) → Ascend 0 (runs_of (listed p from e))
unfolding listed between
listed_ascend p from e = weaker 0 from (runs_of (filter p (range_with_len from (e + 1 - from)))) (omega arith) (ranged p (e + 1 - from) from)

-- ---- Without the ticks before one

abbrev pub clip : ℕ → List (ℕ × ℕ) → List (ℕ × ℕ)
clip first [] = []
clip first (s ∷ spans) = if nat_le first s.1 then (max first s.0, s.1) ∷ clip first spans else clip first spans

pub clip_ascends : (first n : ℕ) (spans : List (ℕ × ℕ)) → Ascend n spans → Ascend n (clip first spans)
clip_ascends first n [] are = tt
clip_ascends first n (s ∷ spans) are = by (nat_le first s.1) refl (clip_ascends first (s.1 + 2) spans are.2)
  where
    by : (b : Bool) → nat_le first s.1 ≡ b → Ascend (s.1 + 2) (clip first spans) → Ascend n (if b then (max first s.0, s.1) ∷ clip first spans else clip first spans)
    by true upto later =
        let least : n ≤ s.0 = are.0 in
        let order : s.0 ≤ s.1 = are.1 in
        let within_it : first ≤ s.1 = grind (arith, nat_tests) in
        (omega arith, omega arith, later)
    by false early later =
        let least : n ≤ s.0 = are.0 in
        let order : s.0 ≤ s.1 = are.1 in
        weaker n (s.1 + 2) (clip first spans) (omega arith) later

clip_one : (first lo hi t : ℕ) (later more : Bool) → later ≡ (nat_le first t && more) → (b : Bool) → nat_le first hi ≡ b →
    (if b then within (max first lo) hi t || later else later) ≡ (nat_le first t && (within lo hi t || more))
clip_one first lo hi t later more is true upto = rw is (grind (arith, nat_tests))
clip_one first lo hi t later more is false early = rw is (grind (arith, nat_tests))

have_if : (b : Bool) (s : ℕ × ℕ) (spans : List (ℕ × ℕ)) (t : ℕ) → have (if b then s ∷ spans else spans) t ≡ (if b then within s.0 s.1 t || have spans t else have spans t)
have_if true s spans t = refl
have_if false s spans t = refl

pub clip_has : (first : ℕ) (spans : List (ℕ × ℕ)) (t : ℕ) → have (clip first spans) t ≡ (nat_le first t && have spans t)
clip_has first [] t = false_is_and (nat_le first t)
clip_has first (s ∷ spans) t =
    have_if (nat_le first s.1) (max first s.0, s.1) (clip first spans) t
    ∙ clip_one first s.0 s.1 t (have (clip first spans) t) (have spans t) (clip_has first spans t) (nat_le first s.1) refl

pub clip_text : (first : ℕ) (spans : List (ℕ × ℕ)) → flat_map (span_text first) spans ≡ flat_map run_text (clip first spans)
clip_text first [] = refl
clip_text first (s ∷ spans) = by (nat_le first s.1) (clip_text first spans)
  where
    by : (b : Bool) → flat_map (span_text first) spans ≡ flat_map run_text (clip first spans) →
        (if b then run_text (max first s.0, s.1) else []) ++ flat_map (span_text first) spans ≡ flat_map run_text (if b then (max first s.0, s.1) ∷ clip first spans else clip first spans)
    by true later = ap (λ text. run_text (max first s.0, s.1) ++ text) later
    by false later = later

pub clip_some : (first : ℕ) (spans : List (ℕ × ℕ)) → list_any (λ s. nat_le first s.1) spans ≡ has_ticks (clip first spans)
clip_some first [] = refl
clip_some first (s ∷ spans) = by (nat_le first s.1) (clip_some first spans)
  where
    by : (b : Bool) → list_any (λ s. nat_le first s.1) spans ≡ has_ticks (clip first spans) →
        (b || list_any (λ s. nat_le first s.1) spans) ≡ has_ticks (if b then (max first s.0, s.1) ∷ clip first spans else clip first spans)
    by true later = refl
    by false later = later

-- runs with a tick have one
pub some_tick : (n : ℕ) (spans : List (ℕ × ℕ)) → Ascend n spans → has_ticks spans ≡ true → (t : ℕ) × (have spans t ≡ true)
some_tick n [] are there = absurd (false≢true there)
some_tick n (s ∷ spans) are there = (s.0, begins s spans are.1)
