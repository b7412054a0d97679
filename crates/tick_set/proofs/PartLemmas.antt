-- Where two spans share a tick.
use Rattle.std.proofs.Common.{◌≡◌, ℕ, ◌≤◌, min, max, true, false, ◌&&◌, Option, None, Some, IsSome, IsNone, ◌↔◌, refl, ◌∙◌, sym, arith}
use Rattle.std.proofs.lemmas.Bool.{false≢true, and_parts, and_from, false_from_ne_true}
use Rattle.tick_set.specs.declared.spans.Span.{Span}
use Rattle.tick_set.specs.Ticks.{within}
use Rattle.tick_set.proofs.Between.{within_parts, within_from}

-- lo and hi are the ends of what both have, if lo is not above hi
module _ (a b : Span) (lo hi : ℕ) (begins : lo ≡ max a.lo b.lo) (ends : hi ≡ min a.hi b.hi) where
  shared_between : (t : ℕ) → (within a.lo a.hi t && within b.lo b.hi t) ≡ true → lo ≤ hi
  shared_between t e =
      let parts = and_parts (within a.lo a.hi t) (within b.lo b.hi t) e in
      let first = within_parts a.lo a.hi t parts.0 in
      let second = within_parts b.lo b.hi t parts.1 in
      omega (arith, begins, ends, first.0, first.1, second.0, second.1)

  shares_first : lo ≤ hi → (within a.lo a.hi lo && within b.lo b.hi lo) ≡ true
  shares_first l =
      and_from (within a.lo a.hi lo) (within b.lo b.hi lo)
      (within_from a.lo a.hi lo (omega (arith, begins)) (omega (arith, ends, l)))
      (within_from b.lo b.hi lo (omega (arith, begins)) (omega (arith, ends, l)))

  pub none_shared : (r : Option Span) → (IsSome r ↔ ((lo ≤ hi) × (hi ≤ 1000000000))) → IsNone r ↔ ((t : ℕ) → (within a.lo a.hi t && within b.lo b.hi t) ≡ false)
  none_shared None valid = (
    λ _ t. false_from_ne_true (within a.lo a.hi t && within b.lo b.hi t) (λ e.
        let last : a.hi ≤ 1000000000 = a.in_range in
        false≢true (valid.1 (shared_between t e, omega (arith, ends, last)))),
    λ _. refl,
  )
  none_shared (Some s) valid = (
    λ e. absurd (false≢true (sym e)),
    λ none. absurd (false≢true (sym (none lo) ∙ shares_first (valid.0 refl).0)),
  )
