-- For this crate and for the crates above: spans from a tick on, and runs added to them.
use Rattle.std.proofs.Common.{◌≡◌, ℕ, ◌+◌, ◌-◌, ◌<◌, ◌≤◌, Bool, true, false, ◌&&◌, ◌||◌, eqb, leb, ltb, List, [], ◌∷◌, ◌++◌, length, append_assoc, refl, sym, ap, ◌∙◌, IsTrue, ◌↔◌, inl, inr, arith}
use Rattle.std.proofs.lemmas.Bool.{false≢true, cases_lt, eqb-true, and_parts}
use Rattle.std.proofs.lemmas.Bool.Decides.{nat_tests}
use Rattle.std.specs.Cmp.Lexicographic.{pointwise}
use Rattle.tick_set.specs.declared.spans.Span.{Span}
use Rattle.tick_set.specs.Runs.{spans_have, IsNormal, IsNormalFrom, pairs}
use Rattle.tick_set.proofs.RunLemmas.{spans_have-below, spans_have-append, IsNormalFrom-push, IsNormalFrom-weaker, pairs_same}
use Rattle.interval_set.specs.Cursor.{EndsFrom}

-- rest is the spans without some that end before a tick
pub record IsRestFrom (at : ℕ) (spans rest : List Span) : Type 0 where
  pub normal : IsNormal rest
  pub dropped : List Span
  pub whole : spans ≡ dropped ++ rest
  pub ended : (u : ℕ) → spans_have dropped u ≡ true → u < at

pub rest_none : (at : ℕ) (spans : List Span) → IsNormal spans → IsRestFrom at spans spans
rest_none at spans h = record { normal = h; dropped = []; whole = refl; ended = λ u e. absurd (false≢true e) }

pub rest_later : (at : ℕ) (spans rest : List Span) (s : Span) (later : List Span) → IsRestFrom at spans rest → rest ≡ s ∷ later → s.hi < at → IsRestFrom at spans later
rest_later at spans rest s later h e l =
    let normal = rw e at h.normal in
    let whole : spans ≡ (h.dropped ++ s ∷ []) ++ later = h.whole ∙ rw e (sym (append_assoc h.dropped (s ∷ []) later)) in
    record {
      normal = IsNormalFrom-weaker (s.hi + 2) 0 later (omega arith) normal.1;
      dropped = h.dropped ++ s ∷ [];
      whole = whole;
      ended = λ u k. grind (arith, nat_tests, h.ended u, spans_have-append h.dropped (s ∷ []) u);
    }

-- from the tick on they have the same ticks
pub rest_ticks : (at : ℕ) (spans rest : List Span) → IsRestFrom at spans rest → (u : ℕ) → at ≤ u → spans_have rest u ≡ spans_have spans u
rest_ticks at spans rest h u l = rw h.whole (grind (arith, h.ended u, spans_have-append h.dropped rest u))

-- no span of a normal list has a tick before its start
pub ticks_from : (spans : List Span) (from t : ℕ) → IsNormalFrom from spans → spans_have spans t ≡ true → from ≤ t
ticks_from spans from t h had =
    elim (cases_lt t from) [
      | inl below ↦ absurd (false≢true (sym (spans_have-below spans from t h below) ∙ had))
      | inr past ↦ past
    ]

-- a list that begins later than a tick has no span that ends before it
pub ends_later : (later : List Span) (at from : ℕ) → at ≤ from → IsNormalFrom from later → EndsFrom at later
ends_later [] at from l h = tt
ends_later (s ∷ later) at from l h = let order : s.lo ≤ s.hi = s.ordered in omega (arith, h.0)

-- no tick up to `upto` is in a list without a span, or whose first span begins later
pub none_by : (spans : List Span) (upto : ℕ) → length spans ≡ 0 → (t : ℕ) → t ≤ upto → spans_have spans t ≡ false
none_by [] upto none t l = refl
none_by (s ∷ later) upto none t l = absurd (omega arith)

pub late_by : (spans later : List Span) (s : Span) (upto : ℕ) → IsNormal spans → spans ≡ s ∷ later → upto < s.lo → (t : ℕ) → t ≤ upto → spans_have spans t ≡ false
late_by spans later s upto normal begins late t l =
    let from_start : IsNormalFrom s.lo spans = rw begins (omega arith, (rw begins at normal).1) in
    spans_have-below spans s.lo t from_start (omega arith)

-- one run more, from `from` up to `until`
pub normal_more : (made : List Span) (s : Span) → IsNormal made → ((u : ℕ) → spans_have made u ≡ true → u + 2 ≤ s.lo) → IsNormal (made ++ s ∷ [])
normal_more made s h apart = IsNormalFrom-push made 0 s h apart (omega arith)

pub ticks_more : (made : List Span) (s : Span) (from until : ℕ) → s.lo ≡ from → s.hi ≡ until - 1 → from < until → (u : ℕ) → spans_have (made ++ s ∷ []) u ≡ (spans_have made u || (leb from u && ltb u until))
ticks_more made s from until lo hi l u = spans_have-append made (s ∷ []) u ∙ grind (arith, nat_tests)

-- a set without a span has no tick
pub none_iff : (spans : List Span) (len : ℕ) → len ≡ length spans → IsTrue (eqb len 0) ↔ ((t : ℕ) → spans_have spans t ≡ false)
none_iff [] len e = (λ _ t. refl, λ _. grind (arith, nat_tests))
none_iff (s ∷ rest) len e =
    let order : s.lo ≤ s.hi = s.ordered in
    (λ h. absurd (omega (arith, e, eqb-true len 0 h)), λ h. absurd (false≢true (grind (arith, nat_tests, h s.lo))))

pub no_ticks : (spans : List Span) → ((t : ℕ) → spans_have spans t ≡ false) → spans ≡ []
no_ticks [] h = refl
no_ticks (s ∷ rest) h = let order : s.lo ≤ s.hi = s.ordered in absurd (false≢true (grind (arith, nat_tests, h s.lo)))

module _ (same : Span → Span → Bool) (same_is : (a b : Span) → same a b ≡ (eqb a.lo b.lo && eqb a.hi b.hi)) where
  pairs_of_same : (xs ys : List Span) → pointwise same xs ys ≡ true → pairs xs ≡ pairs ys
  pairs_of_same [] [] h = refl
  pairs_of_same [] (y ∷ ys) h = absurd (false≢true h)
  pairs_of_same (x ∷ xs) [] h = absurd (false≢true h)
  pairs_of_same (x ∷ xs) (y ∷ ys) h =
      let parts = and_parts (same x y) (pointwise same xs ys) h in
      let ends = and_parts (eqb x.lo y.lo) (eqb x.hi y.hi) (sym (same_is x y) ∙ parts.0) in
      rw (eqb-true x.lo y.lo ends.0, eqb-true x.hi y.hi ends.1, pairs_of_same xs ys parts.1)

  same_of_pairs : (xs ys : List Span) → pairs xs ≡ pairs ys → pointwise same xs ys ≡ true
  same_of_pairs [] [] h = refl
  same_of_pairs [] (y ∷ ys) h = absurd (cc)
  same_of_pairs (x ∷ xs) [] h = absurd (cc)
  same_of_pairs (x ∷ xs) (y ∷ ys) h =
      let first : ◌≡◌ {A = ℕ × ℕ} (x.lo, x.hi) (y.lo, y.hi) = cc in
      let lo : x.lo ≡ y.lo = ap (λ (p : ℕ × ℕ). p.0) first in
      let hi : x.hi ≡ y.hi = ap (λ (p : ℕ × ℕ). p.1) first in
      let rest : pairs xs ≡ pairs ys = cc in
      grind (arith, nat_tests, same_is x y, same_of_pairs xs ys rest)

  have_of_pairs : (xs ys : List Span) → pairs xs ≡ pairs ys → (t : ℕ) → spans_have xs t ≡ spans_have ys t
  have_of_pairs [] [] h t = refl
  have_of_pairs [] (y ∷ ys) h t = absurd (cc)
  have_of_pairs (x ∷ xs) [] h t = absurd (cc)
  have_of_pairs (x ∷ xs) (y ∷ ys) h t =
      let first : ◌≡◌ {A = ℕ × ℕ} (x.lo, x.hi) (y.lo, y.hi) = cc in
      let lo : x.lo ≡ y.lo = ap (λ (p : ℕ × ℕ). p.0) first in
      let hi : x.hi ≡ y.hi = ap (λ (p : ℕ × ℕ). p.1) first in
      let rest : pairs xs ≡ pairs ys = cc in
      rw (lo, hi, have_of_pairs xs ys rest t)

  -- what `==` on the spans of two sets says of their ticks
  pub equal_iff : (xs ys : List Span) → IsNormal xs → IsNormal ys → IsTrue (pointwise same xs ys) ↔ ((t : ℕ) → spans_have xs t ≡ spans_have ys t)
  equal_iff xs ys h k = (
    λ e. have_of_pairs xs ys (pairs_of_same xs ys e),
    λ e. same_of_pairs xs ys (pairs_same (spans_have xs) (spans_have ys) xs ys (record { normal = h; ticks = λ t. refl }) (record { normal = k; ticks = λ t. refl }) e),
  )
