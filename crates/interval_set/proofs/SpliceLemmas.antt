-- Spans of one list before a tick, and of another from it on.
use Rattle.std.proofs.Common.{◌≡◌, ℕ, ◌+◌, ◌<◌, ◌≤◌, min, max, Bool, true, false, Option, Some, option_to_list, ◌&&◌, ◌||◌, leb, ltb, if◌then◌else◌, List, [], ◌∷◌, refl, subst, sym, ◌∙◌, inl, inr, arith}
use Rattle.std.proofs.lemmas.Bool.{cases_lt, or_cases, false_from_ne_true}
use Rattle.std.proofs.lemmas.Bool.Decides.{nat_tests}
use Rattle.tick_set.specs.declared.spans.Span.{Span}
use Rattle.tick_set.specs.Ticks.{within}
use Rattle.tick_set.specs.Runs.{IsRuns, spans_have, IsNormal, IsNormalFrom}
use Rattle.tick_set.proofs.RunLemmas.{spans_have-below, spans_have-in_range, IsNormalFrom-weaker}
use Rattle.interval_set.proofs.SpanLemmas.{ticks_from}

-- whether u is from one tick up to another, without that
abbrev pub in_part : ℕ → ℕ → ℕ → Bool
in_part from until u = leb from u && ltb u until

-- the ticks of the spans that are done are added to old in made, if they are in the part, and the rest is left
pub record PartSoFar (from until : ℕ) (old spans made rest : List Span) : Type 0 where
  pub normal : IsNormal rest
  pub apart : (u v : ℕ) → spans_have made u ≡ true → spans_have rest v ≡ true → from ≤ v → u < v
  pub all : (u : ℕ) → (spans_have old u || (in_part from until u && spans_have spans u)) ≡ (spans_have made u || (in_part from until u && spans_have rest u))

pub part_none : (from until : ℕ) (old spans : List Span) → IsNormal spans → ((u : ℕ) → spans_have old u ≡ true → u < from) → PartSoFar from until old spans old spans
part_none from until old spans h before = record { normal = h; apart = λ u v e k l. omega (arith, before u e); all = λ u. refl }

module _ (from until : ℕ) (old spans made rest : List Span) (s : Span) (later : List Span) (so_far : PartSoFar from until old spans made rest) (begins : rest ≡ s ∷ later) where
  later_normal : IsNormalFrom (s.hi + 2) later
  later_normal = (rw begins at so_far.normal).1

  -- what is added of the first span comes past all that is there
  pub part_past : (lo end : ℕ) → lo ≡ max s.lo from → end ≡ min until (s.hi + 1) → (u v : ℕ) → in_part lo end v ≡ true → spans_have made u ≡ true → u < v
  part_past lo end e f u v i h =
      let in_span : within s.lo s.hi v ≡ true = grind (arith, nat_tests) in
      so_far.apart u v h (rw begins (grind (arith, in_span))) (grind (arith, nat_tests))

  pub part_more : (made' : List Span) (lo end : ℕ) → lo ≡ max s.lo from → end ≡ min until (s.hi + 1)
      → ((u : ℕ) → spans_have made' u ≡ (spans_have made u || (leb lo u && ltb u end))) → PartSoFar from until old spans made' later
  part_more made' lo end e f more = record {
    normal = IsNormalFrom-weaker (s.hi + 2) 0 later (omega arith) later_normal;
    apart = λ u v h k l.
        let past : s.hi + 2 ≤ v = ticks_from later (s.hi + 2) v later_normal k in
        elim (or_cases (spans_have made u) (leb lo u && ltb u end) (sym (more u) ∙ h)) [
          | inl before ↦ so_far.apart u v before (rw begins (grind (arith, k))) l
          | inr added ↦ grind (arith, nat_tests)
        ];
    all = λ u.
        let left : (spans_have old u || (in_part from until u && spans_have spans u)) ≡ (spans_have made u || (in_part from until u && (within s.lo s.hi u || spans_have later u))) = rw begins at (so_far.all u) in
        left ∙ grind (arith, nat_tests, more u);
  }

  -- where the first span begins past the part, so does all that is left
  pub part_done : until ≤ s.lo → (u : ℕ) → spans_have made u ≡ (spans_have old u || (in_part from until u && spans_have spans u))
  part_done l u =
      let left : (spans_have old u || (in_part from until u && spans_have spans u)) ≡ (spans_have made u || (in_part from until u && (within s.lo s.hi u || spans_have later u))) = rw begins at (so_far.all u) in
      grind (arith, nat_tests, left, spans_have-below later (s.hi + 2) u later_normal, s.ordered)

-- a stretch has its own first tick
pub first_in_part : (from until : ℕ) (r : Option Span) (x : Span) → IsRuns (in_part from until) (option_to_list r) → r ≡ Some x → in_part from until x.lo ≡ true
first_in_part from until r x h e =
    let P : Option Span → Type 0 = λ o. spans_have (option_to_list o) x.lo ≡ in_part from until x.lo in
    let ticks : (within x.lo x.hi x.lo || false) ≡ in_part from until x.lo = subst P e (h.ticks x.lo) in
    let order : x.lo ≤ x.hi = x.ordered in
    sym ticks ∙ grind (arith, nat_tests)

past_last : (spans : List Span) (t : ℕ) → 1000000000 < t → spans_have spans t ≡ false
past_last spans t l = false_from_ne_true (spans_have spans t) (λ e. let bound = spans_have-in_range spans t e in absurd (omega arith))

-- the ticks of a list before a tick, and those of another from it on
pub spliced_ticks : (first second rest front made : List Span) (at until : ℕ) → until ≡ min at 1000000001 → ((u : ℕ) → at ≤ u → spans_have rest u ≡ spans_have second u)
    → ((u : ℕ) → spans_have front u ≡ (spans_have [] u || (in_part 0 until u && spans_have first u)))
    → ((u : ℕ) → spans_have made u ≡ (spans_have front u || (in_part at 1000000001 u && spans_have rest u)))
    → (t : ℕ) → spans_have made t ≡ if ltb t at then spans_have first t else spans_have second t
spliced_ticks first second rest front made at until e past f g t =
    elim (cases_lt 1000000000 t) [
      | inl out ↦ grind (arith, nat_tests, f t, g t, past_last first t out, past_last second t out)
      | inr known ↦ elim (cases_lt t at) [
        | inl before ↦ grind (arith, nat_tests, f t, g t)
        | inr from ↦ grind (arith, nat_tests, f t, g t, past t from)
      ]
    ]
