-- The bindings of one variable: its objects.
use Rattle.std.proofs.Common.{◌≡◌, ℕ, ◌/◌, ◌%◌, ◌<◌, ◌≤◌, Bool, true, false, ◌&&◌, ◌||◌, eqb, ltb, [], ◌∷◌, refl, ap, ◌∙◌, sym, inl, inr, arith, if◌then◌else◌}
use Rattle.std.specs.Prelude.{nat_le}
use Rattle.std.proofs.lemmas.Bool.{cases_eq, cases_lt, eq-eqb, ne_eqb, lt-ltb, le-ltb}
use Rattle.kept_rows.specs.declared.binding.Variable.{Variable}
use Rattle.kept_rows.specs.Numbers.{counts, holds_written}
use Rattle.exact.proofs.Truths.{and_false}

and-true : (b x : Bool) → ((b && true) && (x || false)) ≡ (b && x)
and-true false x = refl
and-true true true = refl
and-true true false = refl

-- a number is the place of the object, if the object is there
one-held : (v : Variable) (c : ℕ) → (counts (v ∷ []) c && holds_written (v ∷ []) c) ≡ (ltb c v.count && eqb c v.own)
one-held v c =
    let place : c / 1 ≡ c = omega arith in
    let rest : c % 1 ≡ 0 = omega arith in
    ap (λ k. (ltb k v.count && eqb (c % 1) 0) && (eqb k v.own || false)) place
    ∙ ap (λ k. (ltb c v.count && eqb k 0) && (eqb c v.own || false)) rest
    ∙ and-true (ltb c v.count) (eqb c v.own)

-- the binding of the object is judged anew from a tick on
pub one-judged : (v : Variable) (from : ℕ) (full rows : ℕ → ℕ → Bool) (ticks : ℕ → Bool) → v.own < v.count → ((t : ℕ) → ticks t ≡ full v.own t) → (c t : ℕ) →
    (if eqb c v.own && nat_le from t then ticks t else rows c t)
    ≡ (if (counts (v ∷ []) c && holds_written (v ∷ []) c) && nat_le from t then full c t else rows c t)
one-judged v from full rows ticks there same c t =
    elim (cases_eq c v.own) [
      | inl e ↦
          ap (λ b. if b && nat_le from t then ticks t else rows c t) (eq-eqb c v.own e)
          ∙ ap (λ b. if nat_le from t then b else rows c t) (same t ∙ ap (λ k. full k t) (sym e))
          ∙ sym (ap (λ b. if b && nat_le from t then full c t else rows c t)
          (one-held v c ∙ ap (λ b. b && eqb c v.own) (lt-ltb c v.count (omega (arith, e, there))) ∙ eq-eqb c v.own e))
      | inr other ↦
          ap (λ b. if b && nat_le from t then ticks t else rows c t) (ne_eqb c v.own other)
          ∙ sym (ap (λ b. if b && nat_le from t then full c t else rows c t)
          (one-held v c ∙ ap (λ b. ltb c v.count && b) (ne_eqb c v.own other) ∙ and_false (ltb c v.count)))
    ]

-- the object isn't there
pub none-judged : (v : Variable) (from : ℕ) (full rows : ℕ → ℕ → Bool) → v.count ≤ v.own → (c t : ℕ) →
    rows c t ≡ (if (counts (v ∷ []) c && holds_written (v ∷ []) c) && nat_le from t then full c t else rows c t)
none-judged v from full rows away c t =
    sym (ap (λ b. if b && nat_le from t then full c t else rows c t) (one-held v c ∙ apart))
  where
    apart : (ltb c v.count && eqb c v.own) ≡ false
    apart = elim (cases_lt c v.count) [
      | inl l ↦ ap (λ b. ltb c v.count && b) (ne_eqb c v.own (λ e. omega (arith, e, l, away))) ∙ and_false (ltb c v.count)
      | inr l ↦ ap (λ b. b && eqb c v.own) (le-ltb c v.count l)
    ]
