-- Spans as pairs, and the ticks of two sets that are kept.
use Rattle.std.proofs.Common.{◌≡◌, ◌∙◌, ℕ, ◌≤◌, max, Bool, true, false, ◌&&◌, ◌||◌, List, [], ◌∷◌, refl, ap, sym, inl, inr, arith}
use Rattle.std.specs.List.{list_any}
use Rattle.std.proofs.lemmas.Bool.Decides.{nat_tests}
use Rattle.std.proofs.lemmas.Bool.{false≢true, or_cases}
use Rattle.tick_set.specs.declared.operation.SetOperation.{SetOperation}
use Rattle.tick_set.specs.declared.operation.SetOperation.TheVariants.{Union, Meet, Without}
use Rattle.tick_set.specs.declared.spans.Span.{Span}
use Rattle.tick_set.specs.Runs.{IsNormal, pairs, spans_have}
use Rattle.tick_set.specs.SetOperation.{kept}
use Rattle.tick_set.specs.Ticks.{within}
use Rattle.tick_set.proofs.RunLemmas.{runs_of_listed}
use Rattle.replica.specs.Ticks.{combined, have, last_of}

pub any_pairs : (test : ℕ × ℕ → Bool) (spans : List Span) → list_any test (pairs spans) ≡ list_any (λ s. test (s.lo, s.hi)) spans
any_pairs test [] = refl
any_pairs test (s ∷ spans) = ap (λ rest. test (s.lo, s.hi) || rest) (any_pairs test spans)

pub have_pairs : (spans : List Span) (t : ℕ) → have (pairs spans) t ≡ spans_have spans t
have_pairs [] t = refl
have_pairs (s ∷ spans) t = ap (λ b. within s.lo s.hi t || b) (have_pairs spans t)

upto_last : (spans : List (ℕ × ℕ)) (t : ℕ) → have spans t ≡ true → t ≤ last_of spans
upto_last [] t h = absurd (false≢true h)
upto_last (s ∷ spans) t h = elim (or_cases (within s.0 s.1 t) (have spans t) h) [
  | inl here ↦ grind (arith, nat_tests)
  | inr later ↦ let below : t ≤ last_of spans = upto_last spans t later in omega (arith, below)
]

pub kept_within : (operation : SetOperation) (x y w : Bool) → (x ≡ true → w ≡ true) → (y ≡ true → w ≡ true) → kept operation x y ≡ (w && kept operation x y)
kept_within Union true y w h k = rw (h refl) refl
kept_within Union false true w h k = rw (k refl) refl
kept_within Union false false true h k = refl
kept_within Union false false false h k = refl
kept_within Meet true y w h k = rw (h refl) refl
kept_within Meet false y true h k = refl
kept_within Meet false y false h k = refl
kept_within Without true y w h k = rw (h refl) refl
kept_within Without false y true h k = refl
kept_within Without false y false h k = refl

pub within_last : (spans : List (ℕ × ℕ)) (most t : ℕ) → last_of spans ≤ most → have spans t ≡ true → within 0 most t ≡ true
within_last spans most t upto h =
    let below : t ≤ last_of spans = upto_last spans t h in grind (arith, nat_tests)

-- the maximal runs of what the operation keeps
pub combined_is : (operation : SetOperation) (old told r : List Span) → IsNormal r
    → ((t : ℕ) → spans_have r t ≡ kept operation (spans_have old t) (spans_have told t))
    → pairs r ≡ combined operation (pairs old) (pairs told)
combined_is operation old told r normal ticks =
    let most = max (last_of (pairs old)) (last_of (pairs told)) in
    let test = λ (t : ℕ). kept operation (have (pairs old) t) (have (pairs told) t) in
    runs_of_listed (spans_have r) test 0 most r (record { normal = normal; ticks = λ t. refl })
    (λ t. ticks t
    ∙ (ap (λ b. kept operation b (spans_have told t)) (sym (have_pairs old t)) ∙ ap (λ b. kept operation (have (pairs old) t) b) (sym (have_pairs told t)))
    ∙ kept_within operation (have (pairs old) t) (have (pairs told) t) (within 0 most t)
    (within_last (pairs old) most t (omega arith)) (within_last (pairs told) most t (omega arith)))
