-- Numbers without ticks, by their bits.
use Rattle.std.proofs.Common.{◌≡◌, ℕ, zero, suc, ◌*◌, ◌/◌, ◌%◌, ◌^◌, ◌<◌, Bool, true, false, not, eqb, Some, List, [], ◌∷◌, length, set, refl, ap, sym, ◌∙◌, inl, inr, arith, w64, if◌then◌else◌}
use Rattle.std.specs.Prelude.{slice_get}
use Rattle.std.specs.Int.{bit_at, bit_not}
use Rattle.std.specs.Int.Bits.{bit_and, bit_or}
use Rattle.std.specs.Option.{option_map_or}
use Rattle.std.proofs.lemmas.Bool.{cases_eq, eq-eqb, ne_eqb}
use Rattle.std.proofs.lemmas.Bool.Decides.{nat_tests}
use Rattle.std.proofs.lemmas.Nat.Bits.{bit_at-lt, bit_at_clear_other, bit_at_clear_same, bit_at_set_other, bit_at_set_same, shr_and_one}
use Rattle.kept_rows.specs.Flags.{is_flagged}
use Rattle.exact.proofs.Naturals.{eqb-suc}

-- rows that are alike
pub flagged_alike : (rows rows' : ℕ → ℕ → Bool) (words : List ℕ) → ((c t : ℕ) → rows' c t ≡ rows c t) →
    ((c t : ℕ) → is_flagged words c ≡ false → rows c t ≡ false) → (c t : ℕ) → is_flagged words c ≡ false → rows' c t ≡ false
flagged_alike rows rows' words same f c t e = same c t ∙ f c t e

-- ---- one bit of a word

no_other_digit : (n : ℕ) → n < 2 → eqb n 0 ≡ not (eqb n 1)
no_other_digit zero h = refl
no_other_digit (suc zero) h = refl
no_other_digit (suc (suc n)) h = absurd (omega (arith, h))

-- whether it is 0
pub is_zero : (word k : ℕ) → eqb (bit_and (word / 2 ^ k) 1) 0 ≡ not (eqb (bit_at word k) 1)
is_zero word k = ap (λ n. eqb n 0) (shr_and_one word k) ∙ no_other_digit (bit_at word k) (bit_at-lt word k)

-- it is set
pub bit_set : (word k i : ℕ) → k < 64 →
    eqb (bit_at (bit_or word (1 * 2 ^ k % 2 ^ 64)) i) 1 ≡ (if eqb i k then true else eqb (bit_at word i) 1)
bit_set word k i h =
    elim (cases_eq i k) [
      | inl e ↦
          ap (λ j. eqb (bit_at (bit_or word (1 * 2 ^ k % 2 ^ 64)) j) 1) e ∙ ap (λ n. eqb n 1) (bit_at_set_same w64 word k h)
          ∙ ap (λ b. if b then true else eqb (bit_at word i) 1) (sym (eq-eqb i k e))
      | inr other ↦
          ap (λ n. eqb n 1) (bit_at_set_other w64 word k h i other)
          ∙ ap (λ b. if b then true else eqb (bit_at word i) 1) (sym (ne_eqb i k other))
    ]

-- it is cleared
pub bit_cleared : (word k i : ℕ) → k < 64 → i < 64 →
    eqb (bit_at (bit_and word (bit_not w64 (1 * 2 ^ k % 2 ^ 64))) i) 1 ≡ (if eqb i k then false else eqb (bit_at word i) 1)
bit_cleared word k i h g =
    elim (cases_eq i k) [
      | inl e ↦
          ap (λ j. eqb (bit_at (bit_and word (bit_not w64 (1 * 2 ^ k % 2 ^ 64))) j) 1) e ∙ ap (λ n. eqb n 1) (bit_at_clear_same w64 word k h)
          ∙ ap (λ b. if b then false else eqb (bit_at word i) 1) (sym (eq-eqb i k e))
      | inr other ↦
          ap (λ n. eqb n 1) (bit_at_clear_other w64 word k h i g other)
          ∙ ap (λ b. if b then false else eqb (bit_at word i) 1) (sym (ne_eqb i k other))
    ]

-- ---- the word of a number is written

eqb-first : (a : ℕ) → eqb zero (suc a) ≡ false
eqb-first a = grind (arith, nat_tests)

eqb-later : (a : ℕ) → eqb (suc a) zero ≡ false
eqb-later a = grind (arith, nat_tests)

word_set : (test : ℕ → Bool) (words : List ℕ) (at word k : ℕ) → at < length words →
    option_map_or test (slice_get (set words at word) k) true ≡ (if eqb k at then test word else option_map_or test (slice_get words k) true)
word_set test [] at word k h = absurd (omega (arith, h))
word_set test (y ∷ ys) zero word zero h = refl
word_set test (y ∷ ys) zero word (suc k) h = ap (λ b. if b then test word else option_map_or test (slice_get ys k) true) (sym (eqb-later k))
word_set test (y ∷ ys) (suc at) word zero h = ap (λ b. if b then test word else test y) (sym (eqb-first at))
word_set test (y ∷ ys) (suc at) word (suc k) h =
    word_set test ys at word k (omega (arith, h)) ∙ ap (λ b. if b then test word else option_map_or test (slice_get ys k) true) (sym (eqb-suc k at))

word_here : (test : ℕ → Bool) (words : List ℕ) (at word : ℕ) → slice_get words at ≡ Some word → option_map_or test (slice_get words at) true ≡ test word
word_here test words at word is = ap (λ o. option_map_or test o true) is

-- a number's bit tells whether it has ticks, and the others tell what they told
pub flag_set : (rows : ℕ → ℕ → Bool) (ticks : ℕ → Bool) (number : ℕ) (has : Bool) (words : List ℕ) (old new : ℕ) → number / 64 < length words →
    slice_get words (number / 64) ≡ Some old →
    ((i : ℕ) → i < 64 → eqb (bit_at new i) 1 ≡ (if eqb i (number % 64) then has else eqb (bit_at old i) 1)) →
    (has ≡ false → (t : ℕ) → ticks t ≡ false) → ((c t : ℕ) → is_flagged words c ≡ false → rows c t ≡ false) →
    (c t : ℕ) → is_flagged (set words (number / 64) new) c ≡ false → (if eqb c number then ticks t else rows c t) ≡ false
flag_set rows ticks number has words old new there is bits none before c t unset =
    let written : is_flagged (set words (number / 64) new) c ≡ (if eqb (c / 64) (number / 64) then eqb (bit_at new (c % 64)) 1 else is_flagged words c) =
    word_set (λ word. eqb (bit_at word (c % 64)) 1) words (number / 64) new (c / 64) there in
    elim (cases_eq (c / 64) (number / 64)) [
      | inr other ↦
          ap (λ b. if b then ticks t else rows c t) (ne_eqb c number (λ e. other (ap (λ k. k / 64) e)))
          ∙ before c t (ap (λ b. if b then eqb (bit_at new (c % 64)) 1 else is_flagged words c) (sym (ne_eqb (c / 64) (number / 64) other)) ∙ sym written ∙ unset)
      | inl same ↦
          let bit : (if eqb (c % 64) (number % 64) then has else eqb (bit_at old (c % 64)) 1) ≡ false =
          sym (bits (c % 64) (omega arith)) ∙ ap (λ b. if b then eqb (bit_at new (c % 64)) 1 else is_flagged words c) (sym (eq-eqb (c / 64) (number / 64) same)) ∙ sym written ∙ unset in
          elim (cases_eq c number) [
            | inl own ↦
                ap (λ b. if b then ticks t else rows c t) (eq-eqb c number own)
                ∙ none (ap (λ b. if b then has else eqb (bit_at old (c % 64)) 1) (sym (eq-eqb (c % 64) (number % 64) (ap (λ k. k % 64) own))) ∙ bit) t
            | inr differs ↦
                ap (λ b. if b then ticks t else rows c t) (ne_eqb c number differs)
                ∙ before c t
                (ap (λ k. option_map_or (λ word. eqb (bit_at word (c % 64)) 1) (slice_get words k) true) same
                ∙ word_here (λ word. eqb (bit_at word (c % 64)) 1) words (number / 64) old is
                ∙ ap (λ b. if b then has else eqb (bit_at old (c % 64)) 1) (sym (ne_eqb (c % 64) (number % 64) (λ e. differs (omega (arith, same, e))))) ∙ bit)
          ]
    ]
