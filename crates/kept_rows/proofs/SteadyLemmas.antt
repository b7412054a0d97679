-- Rows that stay as they are.
use Rattle.std.proofs.Common.{◌≡◌, ℕ, ◌+◌, ◌<◌, ◌≤◌, Bool, List, Some, length, ap, sym, ◌∙◌, inl, inr, arith}
use Rattle.std.specs.Prelude.{slice_get}
use Rattle.std.proofs.lemmas.Bool.{cases_lt}
use Rattle.kept_rows.specs.declared.turns.Turns.{Turns}
use Rattle.kept_rows.specs.Rows.{page_has}
use Rattle.kept_rows.specs.Turning.{AreSteadyIn, AreSteadyToEnds, IsSteady}
use Rattle.kept_rows.proofs.NextLemmas.{page_has-at, page_has-past}

-- rows that are alike
pub steady-alike : (rows rows' : ℕ → ℕ → Bool) (turns : Turns) → ((c t : ℕ) → rows' c t ≡ rows c t) → AreSteadyToEnds rows turns → AreSteadyToEnds rows' turns
steady-alike rows rows' turns same steady = record {
  pages = λ c u h k. same c u ∙ steady.pages c u h k ∙ sym (same c turns.seen);
  groups = λ c u h k. same c u ∙ steady.groups c u h k ∙ sym (same c turns.seen);
}

-- two ranges one after the other
pub steady-more : (rows : ℕ → ℕ → Bool) (seen now from m to : ℕ) → AreSteadyIn rows seen now from m → AreSteadyIn rows seen now m to →
    AreSteadyIn rows seen now from to
steady-more rows seen now from m to first second c h k =
    elim (cases_lt c m) [
      | inl l ↦ first c h l
      | inr l ↦ second c l k
    ]

-- ---- the places of a page
module _ {S : Type 0} (member : S → ℕ → Bool) (page : List S) (t : ℕ) where
  -- one place more
  pub place-more : (at end next new : ℕ) (x : S) → new ≤ end → new ≤ next → ((i : ℕ) → i < at → IsSteady (page_has member page i) t end) →
      slice_get page at ≡ Some x → IsSteady (member x) t next → (i : ℕ) → i < at + 1 → IsSteady (page_has member page i) t new
  place-more at end next new x least below before is here i h u k l =
      elim (cases_lt i at) [
        | inl m ↦ before i m u k (omega (arith, l, least))
        | inr m ↦
            let e : i ≡ at = omega (arith, h, m) in
            ap (λ j. page_has member page j u) e ∙ page_has-at member page at u x is ∙ here u k (omega (arith, l, below))
            ∙ sym (ap (λ j. page_has member page j t) e ∙ page_has-at member page at t x is)
      ]

  -- past the last place there are no ticks
  pub places-done : (at end : ℕ) → length page ≤ at → ((i : ℕ) → i < at → IsSteady (page_has member page i) t end) →
      (i : ℕ) → IsSteady (page_has member page i) t end
  places-done at end past before i u k l =
      elim (cases_lt i at) [
        | inl m ↦ before i m u k l
        | inr m ↦ page_has-past member page i u (omega (arith, past, m)) ∙ sym (page_has-past member page i t (omega (arith, past, m)))
      ]
