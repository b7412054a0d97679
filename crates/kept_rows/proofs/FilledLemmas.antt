-- Numbers without ticks, by their flags.
use Rattle.std.proofs.Common.{◌≡◌, ℕ, ◌/◌, Bool, true, false, eqb, List, ap, sym, ◌∙◌, inl, inr, if◌then◌else◌}
use Rattle.std.specs.Prelude.{slice_index_or}
use Rattle.std.proofs.lemmas.Bool.{both_ways, cases_eq, ne_eqb}
use Rattle.kept_rows.specs.declared.filled.Filled.{Filled}
use Rattle.kept_rows.specs.Filled.{AreFilled}

-- rows that are alike
pub filled-alike : (rows rows' : ℕ → ℕ → Bool) (filled : Filled) → ((c t : ℕ) → rows' c t ≡ rows c t) → AreFilled rows filled → AreFilled rows' filled
filled-alike rows rows' filled same f c t e = same c t ∙ f c t e

-- the row of a number is written, and the flag of its group is set
pub group-set : (rows : ℕ → ℕ → Bool) (ticks : ℕ → Bool) (number : ℕ) (old new : List Bool) → slice_index_or new (number / 1024) true ≡ true →
    ((i : ℕ) → slice_index_or new i true ≡ false → eqb i (number / 1024) ≡ false → slice_index_or old i true ≡ false) →
    ((c t : ℕ) → slice_index_or old (c / 1024) true ≡ false → rows c t ≡ false) →
    (c t : ℕ) → slice_index_or new (c / 1024) true ≡ false → (if eqb c number then ticks t else rows c t) ≡ false
group-set rows ticks number old new here others before c t unset =
    elim (cases_eq (c / 1024) (number / 1024)) [
      | inl e ↦ absurd (both_ways (slice_index_or new (number / 1024) true) (ap (λ i. slice_index_or new i true) (sym e) ∙ unset) here)
      | inr other ↦
          ap (λ b. if b then ticks t else rows c t) (ne_eqb c number (λ e. other (ap (λ k. k / 1024) e)))
          ∙ before c t (others (c / 1024) unset (ne_eqb (c / 1024) (number / 1024) other))
    ]
