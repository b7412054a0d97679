-- When legs end, and how a value moves between two such ticks.
use Rattle.std.proofs.Common.{◌≡◌, ℕ, ℤ, pos, suc, ◌+◌, ◌-◌, ◌*ℤ◌, ◌+ℤ◌, ◌<◌, ◌≤◌, true, false, List, [], ◌∷◌, length, drop, drop_of_length-le, get_or, refl, sym, ◌∙◌, ap, arith, inl, inr}
use Rattle.std.proofs.lemmas.Bool.{cases_lt}
use Rattle.std.proofs.lemmas.Bool.Decides.{nat_tests}
use Rattle.std.proofs.lemmas.Int.{ints}
use Rattle.std.proofs.Math.Seq.{drop-cons}
use Rattle.motion.specs.Function.{Function, legs_rise, legs_rest, legs_slope, leg_ends, rest, rise, slope, shortened, IsNextTurn}
use Rattle.motion.specs.Dynamic.{Dynamic, moved, slope_at, turned, value_at}

-- the leg in force ends when what is left of it has passed
next_of_rest : (legs : List (ℤ × ℕ)) (d : ℕ) (leg : ℤ × ℕ) (more : List (ℤ × ℕ)) → legs_rest legs d ≡ leg ∷ more → IsNextTurn (leg_ends legs) d (d + leg.1)
next_of_rest [] d leg more is = cc
next_of_rest (first ∷ legs) d leg more is =
    elim (cases_lt d first.1) [
      | inl runs ↦
          let left : leg.1 ≡ first.1 - d = grind (arith, nat_tests) in
          record {
            past = omega arith;
            at_next = grind (arith, nat_tests);
            none = λ u past before. grind (arith, nat_tests);
          }
      | inr ended ↦
          let later : IsNextTurn (leg_ends legs) (d - first.1) (d - first.1 + leg.1) = next_of_rest legs (d - first.1) leg more (grind (arith, nat_tests)) in
          let from_here : d + leg.1 - first.1 ≡ d - first.1 + leg.1 = omega arith in
          let end : leg_ends legs (d + leg.1 - first.1) ≡ true = rw from_here later.at_next in
          record {
            past = omega (arith, later.past);
            at_next = grind (arith, nat_tests, later.past, end);
            none = λ u past before. grind (arith, nat_tests, later.none (u - first.1) (omega arith) (omega arith));
          }
    ]

-- where none is left, no leg ends later
none_of_rest : (legs : List (ℤ × ℕ)) (d : ℕ) → legs_rest legs d ≡ [] → (u : ℕ) → d < u → leg_ends legs u ≡ false
none_of_rest [] d is u past = refl
none_of_rest (first ∷ legs) d is u past =
    elim (cases_lt d first.1) [
      | inl runs ↦ grind (arith, nat_tests)
      | inr ended ↦
          let later : leg_ends legs (u - first.1) ≡ false = none_of_rest legs (d - first.1) (grind (arith, nat_tests)) (u - first.1) (omega arith) in
          grind (arith, nat_tests)
    ]

-- the same by the index of the leg in force
pub next_end : (firsts : List (ℤ × ℕ)) (ticks ended passed : ℕ) (leg : ℤ × ℕ) → legs_rest firsts ticks ≡ shortened (drop ended firsts) passed
    → ended < length firsts → leg ≡ get_or firsts ended leg → IsNextTurn (leg_ends firsts) ticks (ticks + (leg.1 - passed))
next_end firsts ticks ended passed leg rest within is =
    let left : drop ended firsts ≡ leg ∷ drop (suc ended) firsts = drop-cons firsts ended leg within ∙ ap (λ x. x ∷ drop (suc ended) firsts) (sym is) in
    next_of_rest firsts ticks (leg.0, leg.1 - passed) (drop (suc ended) firsts) (rest ∙ ap (λ legs. shortened legs passed) left)

pub no_end : (firsts : List (ℤ × ℕ)) (ticks ended passed : ℕ) → legs_rest firsts ticks ≡ shortened (drop ended firsts) passed
    → length firsts ≤ ended → (u : ℕ) → ticks < u → leg_ends firsts u ≡ false
no_end firsts ticks ended passed rest past =
    none_of_rest firsts ticks (rest ∙ ap (λ legs. shortened legs passed) (drop_of_length-le firsts past))

-- no leg ends past d, up to u
abbrev pub NoneEnds : List (ℤ × ℕ) → ℕ → ℕ → Type 0
NoneEnds legs d u = (w : ℕ) → d < w → w ≤ u → leg_ends legs w ≡ false

-- then none of the legs after the first does
NoneEnds-later : (first : ℤ × ℕ) (legs : List (ℤ × ℕ)) (d u : ℕ) → first.1 ≤ d → NoneEnds (first ∷ legs) d u → NoneEnds legs (d - first.1) (u - first.1)
NoneEnds-later first legs d u ended none w past by =
    let back : w + first.1 - first.1 ≡ w = omega arith in
    grind (arith, nat_tests, none (w + first.1) (omega arith) (omega arith), back)

-- and the first doesn't
still_runs : (first : ℤ × ℕ) (legs : List (ℤ × ℕ)) (d u : ℕ) → d < first.1 → NoneEnds (first ∷ legs) d u → u < first.1
still_runs first legs d u runs none =
    elim (cases_lt u first.1) [
      | inl before ↦ before
      | inr past ↦ let ends : leg_ends (first ∷ legs) first.1 ≡ false = none first.1 runs past in grind (arith, nat_tests)
    ]

-- the slope in force stays until a leg ends
pub legs_slope-steady : (legs : List (ℤ × ℕ)) (last : ℤ) (d u : ℕ) → d ≤ u → NoneEnds legs d u → legs_slope (legs_rest legs u) last ≡ legs_slope (legs_rest legs d) last
legs_slope-steady [] last d u h none = refl
legs_slope-steady (first ∷ legs) last d u h none =
    elim (cases_lt d first.1) [
      | inl runs ↦ let before : u < first.1 = still_runs first legs d u runs none in grind (arith, nat_tests)
      | inr ended ↦
          let later : legs_slope (legs_rest legs (u - first.1)) last ≡ legs_slope (legs_rest legs (d - first.1)) last
          = legs_slope-steady legs last (d - first.1) (u - first.1) (omega arith) (NoneEnds-later first legs d u ended none) in
          grind (arith, nat_tests)
    ]

climbed : (k : ℤ) (d w : ℕ) → k *ℤ pos (d + w) ≡ k *ℤ pos d +ℤ k *ℤ pos w
climbed k d w = omega (arith, ints)

climbed_to : (k : ℤ) (d u : ℕ) → d ≤ u → k *ℤ pos u ≡ k *ℤ pos d +ℤ k *ℤ pos (u - d)
climbed_to k d u h = let parts : u ≡ d + (u - d) = omega arith in ap (λ n. k *ℤ pos n) parts ∙ climbed k d (u - d)

climbed-zero : (k : ℤ) → k *ℤ pos 0 ≡ pos 0
climbed-zero k = omega (arith, ints)

legs_rise_zero : (legs : List (ℤ × ℕ)) (last : ℤ) → legs_rise legs last 0 ≡ pos 0
legs_rise_zero [] last = climbed-zero last
legs_rise_zero (first ∷ legs) last = grind (arith, nat_tests, climbed-zero first.0)

legs_rise-first : (first : ℤ × ℕ) (legs : List (ℤ × ℕ)) (last : ℤ) (d : ℕ) → d ≤ first.1 → legs_rise (first ∷ legs) last d ≡ first.0 *ℤ pos d
legs_rise-first first legs last d h = grind (arith, nat_tests)

legs_rest-first : (first : ℤ × ℕ) (legs : List (ℤ × ℕ)) (d : ℕ) → d < first.1 → legs_rest (first ∷ legs) d ≡ (first.0, first.1 - d) ∷ legs
legs_rest-first first legs d h = grind (arith, nat_tests)

legs_rest-past : (first : ℤ × ℕ) (legs : List (ℤ × ℕ)) (d : ℕ) → first.1 ≤ d → legs_rest (first ∷ legs) d ≡ legs_rest legs (d - first.1)
legs_rest-past first legs d h = grind (arith, nat_tests)

-- what has risen once the first leg has ended
legs_rise-past : (first : ℤ × ℕ) (legs : List (ℤ × ℕ)) (last : ℤ) (d : ℕ) → first.1 ≤ d
    → legs_rise (first ∷ legs) last d ≡ first.0 *ℤ pos first.1 +ℤ legs_rise legs last (d - first.1)
legs_rise-past first legs last d ended =
    elim (cases_lt first.1 d) [
      | inl past ↦ grind (arith, nat_tests)
      | inr same ↦
          let now : d - first.1 ≡ 0 = omega arith in
          let is : d ≡ first.1 = omega arith in
          let none : legs_rise legs last (d - first.1) ≡ pos 0 = ap (legs_rise legs last) now ∙ legs_rise_zero legs last in
          let climb : first.0 *ℤ pos d ≡ first.0 *ℤ pos first.1 = ap (λ n. first.0 *ℤ pos n) is in
          legs_rise-first first legs last d same ∙ omega (arith, ints, none, climb)
    ]

-- the value moves by the slope in force until a leg ends
pub legs_rise-steady : (legs : List (ℤ × ℕ)) (last : ℤ) (d u : ℕ) → d ≤ u → NoneEnds legs d u
    → legs_rise legs last u ≡ legs_rise legs last d +ℤ legs_slope (legs_rest legs d) last *ℤ pos (u - d)
legs_rise-steady [] last d u h none = climbed_to last d u h
legs_rise-steady (first ∷ legs) last d u h none =
    elim (cases_lt d first.1) [
      | inl runs ↦
          let before : u < first.1 = still_runs first legs d u runs none in
          rw (legs_rise-first first legs last u (omega arith), legs_rise-first first legs last d (omega arith), legs_rest-first first legs d runs)
          (climbed_to first.0 d u h)
      | inr ended ↦
          let later : legs_rise legs last (u - first.1) ≡ legs_rise legs last (d - first.1) +ℤ legs_slope (legs_rest legs (d - first.1)) last *ℤ pos (u - first.1 - (d - first.1))
          = legs_rise-steady legs last (d - first.1) (u - first.1) (omega arith) (NoneEnds-later first legs d u ended none) in
          let same : u - first.1 - (d - first.1) ≡ u - d = omega arith in
          let climb = ap (λ n. legs_slope (legs_rest legs (d - first.1)) last *ℤ pos n) same in
          rw (legs_rise-past first legs last u (omega arith), legs_rise-past first legs last d ended, legs_rest-past first legs d ended)
          (omega (arith, ints, later, climb))
    ]

-- in one tick the value rises by the slope in force
legs_rise_next : (legs : List (ℤ × ℕ)) (last : ℤ) (d : ℕ) → legs_rise legs last (d + 1) ≡ legs_rise legs last d +ℤ legs_slope (legs_rest legs d) last
legs_rise_next [] last d = omega (arith, ints)
legs_rise_next (first ∷ legs) last d =
    elim (cases_lt d first.1) [
      | inl runs ↦
          rw (legs_rise-first first legs last (d + 1) (omega arith), legs_rise-first first legs last d (omega arith), legs_rest-first first legs d runs)
          (omega (arith, ints))
      | inr ended ↦
          let back : d + 1 - first.1 ≡ d - first.1 + 1 = omega arith in
          let later : legs_rise legs last (d + 1 - first.1) ≡ legs_rise legs last (d - first.1) +ℤ legs_slope (legs_rest legs (d - first.1)) last
          = ap (legs_rise legs last) back ∙ legs_rise_next legs last (d - first.1) in
          rw (legs_rise-past first legs last (d + 1) (omega arith), legs_rise-past first legs last d ended, legs_rest-past first legs d ended)
          (omega (arith, ints, later))
    ]

-- what is left of legs rises as they do from then on
legs_rise_rest : (legs : List (ℤ × ℕ)) (last : ℤ) (d k : ℕ) → legs_rise legs last (d + k) ≡ legs_rise legs last d +ℤ legs_rise (legs_rest legs d) last k
legs_rise_rest [] last d k = climbed last d k
legs_rise_rest (first ∷ legs) last d k =
    elim (cases_lt d first.1) [
      | inl runs ↦
          elim (cases_lt first.1 (d + k)) [
            | inl past ↦
                let back : k - (first.1 - d) ≡ d + k - first.1 = omega arith in
                let later = ap (legs_rise legs last) back in
                let climb = climbed_to first.0 d first.1 (omega arith) in
                rw (
                  legs_rise-past first legs last (d + k) (omega arith),
                  legs_rise-first first legs last d (omega arith),
                  legs_rest-first first legs d runs,
                  legs_rise-past (first.0, first.1 - d) legs last k (omega arith),
                )
                (omega (arith, ints, later, climb))
            | inr by ↦
                rw (
                  legs_rise-first first legs last (d + k) by,
                  legs_rise-first first legs last d (omega arith),
                  legs_rest-first first legs d runs,
                  legs_rise-first (first.0, first.1 - d) legs last k (omega arith),
                )
                (climbed first.0 d k)
          ]
      | inr ended ↦
          let back : d + k - first.1 ≡ d - first.1 + k = omega arith in
          let later : legs_rise legs last (d + k - first.1) ≡ legs_rise legs last (d - first.1) +ℤ legs_rise (legs_rest legs (d - first.1)) last k
          = ap (legs_rise legs last) back ∙ legs_rise_rest legs last (d - first.1) k in
          rw (legs_rise-past first legs last (d + k) (omega arith), legs_rise-past first legs last d ended, legs_rest-past first legs d ended)
          (omega (arith, ints, later))
    ]

-- what is left of what is left
legs_rest-rest : (legs : List (ℤ × ℕ)) (d k : ℕ) → legs_rest (legs_rest legs d) k ≡ legs_rest legs (d + k)
legs_rest-rest [] d k = refl
legs_rest-rest (first ∷ legs) d k =
    elim (cases_lt d first.1) [
      | inl runs ↦
          elim (cases_lt (d + k) first.1) [
            | inl before ↦
                let left : first.1 - d - k ≡ first.1 - (d + k) = omega arith in
                rw (legs_rest-first first legs d runs, legs_rest-first (first.0, first.1 - d) legs k (omega arith), legs_rest-first first legs (d + k) before)
                (ap (λ n. (first.0, n) ∷ legs) left)
            | inr past ↦
                let back : k - (first.1 - d) ≡ d + k - first.1 = omega arith in
                rw (legs_rest-first first legs d runs, legs_rest-past (first.0, first.1 - d) legs k (omega arith), legs_rest-past first legs (d + k) past)
                (ap (legs_rest legs) back)
          ]
      | inr ended ↦
          let back : d - first.1 + k ≡ d + k - first.1 = omega arith in
          rw (legs_rest-past first legs d ended, legs_rest-past first legs (d + k) (omega arith))
          (legs_rest-rest legs (d - first.1) k ∙ ap (legs_rest legs) back)
    ]

-- the same of functions
pub rise_zero : (f : Function) → rise f 0 ≡ pos 0
rise_zero f = legs_rise_zero f.firsts f.last

pub rise_next : (f : Function) (d : ℕ) → rise f (d + 1) ≡ rise f d +ℤ slope f d
rise_next f d = legs_rise_next f.firsts f.last d

pub rise_rest : (f : Function) (d k : ℕ) → rise f (d + k) ≡ rise f d +ℤ rise (rest f d) k
rise_rest f d k = legs_rise_rest f.firsts f.last d k

-- legs that are written alone begin at the value that is implied
pub turned_value : (s : ℕ) (v : Dynamic) (f : Function) → value_at (turned s v f) s ≡ value_at v s
turned_value s v f =
    let none : s - s ≡ 0 = omega arith in
    let zero : rise f (s - s) ≡ pos 0 = ap (rise f) none ∙ rise_zero f in
    omega (arith, ints, zero)

-- a value that is written alone leaves the slopes from then on
pub moved_slope : (s : ℕ) (v : Dynamic) (n : ℤ) (t : ℕ) → v.updatetime ≤ s → s ≤ t → slope_at (moved s v n) t ≡ slope_at v t
moved_slope s v n t after from =
    let passed : s - v.updatetime + (t - s) ≡ t - v.updatetime = omega arith in
    ap (λ legs. legs_slope legs v.function.last)
    (legs_rest-rest v.function.firsts (s - v.updatetime) (t - s) ∙ ap (legs_rest v.function.firsts) passed)
