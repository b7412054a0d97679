-- Slots of ticks by their bits, rows without a tick in some of them, and marks.
use Rattle.std.proofs.Common.{◌≡◌, ℕ, zero, suc, ◌+◌, ◌*◌, ◌/◌, ◌-◌, ◌%◌, ◌^◌, ◌<◌, ◌≤◌, Bool, true, false, ◌&&◌, ◌||◌, eqb, max, min, Option, None, Some, List, [], ◌∷◌, ◌++◌, length, refl, ap, sym, ◌∙◌, inl, inr, arith, w64, if◌then◌else◌}
use Rattle.std.specs.Prelude.{IfNone, IfSome, slice_get}
use Rattle.std.specs.Int.{bit_at}
use Rattle.std.specs.Int.Bits.{bit_and, bit_or}
use Rattle.std.proofs.lemmas.Bool.{and_parts, both_ways, cases_eq, cases_lt, eq-eqb, false_from_ne_true, ne_eqb, or_cases, or_left, or_right}
use Rattle.tick_set.specs.Ticks.{within}
use Rattle.tick_set.proofs.Between.{within_parts}
use Rattle.std.proofs.lemmas.Nat.Bits.{bit_at-lt, bit_at-zero, bit_at_and, bit_at_ones, bit_at_or, bit_at_set_other, bit_at_set_same}
use Rattle.kept_rows.specs.declared.marks.Marks.{Marks}
use Rattle.kept_rows.specs.declared.slots.Slots.{Slots}
use Rattle.kept_rows.specs.Listing.{HaveNone, IsNext}
use Rattle.kept_rows.specs.Rows.{page_has}
use Rattle.kept_rows.specs.Slots.{AreIn, AreMarked, HaveNoneAt, IsNextAt, has_slot, may_have}
use Rattle.kept_rows.proofs.NextLemmas.{page_has-at, page_has-past}
use Rattle.exact.proofs.Truths.{is_or_false, or_grouped}

-- ---- bits
pub has_none : (i : ℕ) → eqb (bit_at 0 i) 1 ≡ false
has_none i = ap (λ b. eqb b 1) (bit_at-zero i)

pub has_all : (t : ℕ) → eqb (bit_at (2 ^ 64 - 1) (t / 64 % 64)) 1 ≡ true
has_all t = ap (λ b. eqb b 1) (bit_at_ones 64 (t / 64 % 64) (omega arith))

either : (x y : ℕ) → x < 2 → y < 2 → eqb (max x y) 1 ≡ (eqb x 1 || eqb y 1)
either zero zero h k = refl
either zero (suc zero) h k = refl
either (suc zero) zero h k = refl
either (suc zero) (suc zero) h k = refl
either zero (suc (suc y)) h k = absurd (omega (arith, k))
either (suc zero) (suc (suc y)) h k = absurd (omega (arith, k))
either (suc (suc x)) y h k = absurd (omega (arith, h))

both : (x y : ℕ) → x < 2 → y < 2 → eqb (min x y) 1 ≡ (eqb x 1 && eqb y 1)
both zero zero h k = refl
both zero (suc zero) h k = refl
both (suc zero) zero h k = refl
both (suc zero) (suc zero) h k = refl
both zero (suc (suc y)) h k = absurd (omega (arith, k))
both (suc zero) (suc (suc y)) h k = absurd (omega (arith, k))
both (suc (suc x)) y h k = absurd (omega (arith, h))

pub has_or : (a b i : ℕ) → eqb (bit_at (bit_or a b) i) 1 ≡ (eqb (bit_at a i) 1 || eqb (bit_at b i) 1)
has_or a b i = ap (λ n. eqb n 1) (bit_at_or a b i) ∙ either (bit_at a i) (bit_at b i) (bit_at-lt a i) (bit_at-lt b i)

pub has_both : (a b i : ℕ) → bit_and a b ≡ 0 → (eqb (bit_at a i) 1 && eqb (bit_at b i) 1) ≡ false
has_both a b i e =
    sym (both (bit_at a i) (bit_at b i) (bit_at-lt a i) (bit_at-lt b i))
    ∙ ap (λ n. eqb n 1) (sym (bit_at_and a b i) ∙ ap (λ n. bit_at n i) e ∙ bit_at-zero i)

pub has_set : (a k i : ℕ) → k < 64 → eqb (bit_at (bit_or a (1 * 2 ^ k % 2 ^ 64)) i) 1 ≡ (eqb (bit_at a i) 1 || eqb i k)
has_set a k i h =
    elim (cases_eq i k) [
      | inl e ↦
          ap (λ j. eqb (bit_at (bit_or a (1 * 2 ^ k % 2 ^ 64)) j) 1) e ∙ ap (λ n. eqb n 1) (bit_at_set_same w64 a k h)
          ∙ sym (or_right (eqb (bit_at a i) 1) (eqb i k) (eq-eqb i k e))
      | inr other ↦
          ap (λ n. eqb n 1) (bit_at_set_other w64 a k h i other) ∙ is_or_false (eqb (bit_at a i) 1)
          ∙ ap (λ b. eqb (bit_at a i) 1 || b) (sym (ne_eqb i k other))
    ]

-- ---- fewer ticks
pub in_less : (p q r : ℕ → Bool) (slots : Slots) → AreIn p slots → ((t : ℕ) → q t ≡ (p t && r t)) → AreIn q slots
in_less p q r slots ticks is t e = ticks t (and_parts (p t) (r t) (sym (is t) ∙ e)).0

-- ---- the next row
module _ (rows : ℕ → ℕ → Bool) (slots : Slots) (from to : ℕ) where
  -- a row without a tick has none in the slots
  pub next_at : (o : Option ℕ) → IfSome o (IsNext rows from to) → IfSome o (IsNextAt rows slots from to)
  next_at None next = tt
  next_at (Some n) next = record { least = next.least; below = next.below; before = λ c t h k _. next.before c t h k }

  pub none_at : (o : Option ℕ) → IfNone o (HaveNone rows from to) → IfNone o (HaveNoneAt rows slots from to)
  none_at None none = λ c t h k _. none c t h k
  none_at (Some n) none = tt

-- ---- marks
-- rows that are alike
pub marked_alike : (rows rows' : ℕ → ℕ → Bool) (marks : Marks) → ((c t : ℕ) → rows' c t ≡ rows c t) → AreMarked rows marks → AreMarked rows' marks
marked_alike rows rows' marks same m c t e = same c t ∙ m c t e

-- two ranges one after the other
pub free_more : (rows : ℕ → ℕ → Bool) (slots : Slots) (from m to : ℕ) → HaveNoneAt rows slots from m → HaveNoneAt rows slots m to → HaveNoneAt rows slots from to
free_more rows slots from m to first second c t h k has =
    elim (cases_lt c m) [
      | inl l ↦ first c t h l has
      | inr l ↦ second c t l k has
    ]

-- ---- the slots of a span
pub slot_more : (old new : Slots) (first slot : ℕ) → ((t : ℕ) → has_slot new t ≡ (has_slot old t || eqb (t / 64 % 64) (slot % 64))) →
    ((t : ℕ) → first ≤ t / 64 → t / 64 < slot → has_slot old t ≡ true) → (t : ℕ) → first ≤ t / 64 → t / 64 < slot + 1 → has_slot new t ≡ true
slot_more old new first slot is done t h k =
    is t
    ∙ elim (cases_lt (t / 64) slot) [
      | inl l ↦ or_left (has_slot old t) (eqb (t / 64 % 64) (slot % 64)) (done t h l)
      | inr l ↦
          let e : t / 64 ≡ slot = omega (arith, l, k) in
          or_right (has_slot old t) (eqb (t / 64 % 64) (slot % 64)) (eq-eqb (t / 64 % 64) (slot % 64) (ap (λ n. n % 64) e))
    ]

pub span_done : (self slots : Slots) (lo hi slot : ℕ) → ((t : ℕ) → has_slot self t ≡ true → has_slot slots t ≡ true) →
    ((t : ℕ) → lo / 64 ≤ t / 64 → t / 64 < slot → has_slot slots t ≡ true) → hi / 64 < slot →
    (t : ℕ) → (has_slot self t || within lo hi t) ≡ true → has_slot slots t ≡ true
span_done self slots lo hi slot kept done past t e =
    elim (or_cases (has_slot self t) (within lo hi t) e) [
      | inl f ↦ kept t f
      | inr f ↦ let parts = within_parts lo hi t f in done t (omega (arith, parts.0)) (omega (arith, parts.1, past))
    ]

pub or_grown : (old new first later : Bool) → ((old || first) ≡ true → new ≡ true) → (old || (first || later)) ≡ true → (new || later) ≡ true
or_grown old new first later up e =
    elim (or_cases (old || first) later (or_grouped old first later ∙ e)) [
      | inl f ↦ or_left new later (up f)
      | inr f ↦ or_right new later f
    ]

-- ---- marks of places
pub out_of : (ticks : ℕ → Bool) (slots : Slots) (t : ℕ) → AreIn ticks slots → has_slot slots t ≡ false → ticks t ≡ false
out_of ticks slots t in_slots f = false_from_ne_true (ticks t) (λ e. both_ways (has_slot slots t) f (in_slots t e))

may_have_kept : (marks : List Slots) (m : Slots) (c t : ℕ) → c < length marks → may_have (marks ++ m ∷ []) c t ≡ may_have marks c t
may_have_kept [] m c t h = absurd (omega (arith, h))
may_have_kept (x ∷ xs) m zero t h = refl
may_have_kept (x ∷ xs) m (suc c) t h = may_have_kept xs m c t (omega (arith, h))

may_have_last : (marks : List Slots) (m : Slots) (t : ℕ) → may_have (marks ++ m ∷ []) (length marks) t ≡ has_slot m t
may_have_last [] m t = refl
may_have_last (x ∷ xs) m t = may_have_last xs m t

may_have_past : (marks : List Slots) (m : Slots) (c t : ℕ) → length marks < c → may_have (marks ++ m ∷ []) c t ≡ true
may_have_past [] m zero t h = absurd (omega (arith, h))
may_have_past [] m (suc c) t h = refl
may_have_past (x ∷ xs) m zero t h = absurd (omega (arith, h))
may_have_past (x ∷ xs) m (suc c) t h = may_have_past xs m c t (omega (arith, h))

-- a mark more
pub pages_pushed : (rows : ℕ → ℕ → Bool) (old new : List Slots) (m : Slots) (page : ℕ) → new ≡ old ++ m ∷ [] → page ≡ length old →
    ((c t : ℕ) → may_have old (c / 16) t ≡ false → rows c t ≡ false) → ((c : ℕ) → c / 16 ≡ page → AreIn (rows c) m) →
    (c t : ℕ) → may_have new (c / 16) t ≡ false → rows c t ≡ false
pages_pushed rows old new m page pushed len before here c t e =
    let free : may_have (old ++ m ∷ []) (c / 16) t ≡ false = ap (λ xs. may_have xs (c / 16) t) (sym pushed) ∙ e in
    elim (cases_lt (c / 16) (length old)) [
      | inl l ↦ before c t (sym (may_have_kept old m (c / 16) t l) ∙ free)
      | inr l ↦
          elim (cases_lt (length old) (c / 16)) [
            | inl k ↦ absurd (both_ways true (sym (may_have_past old m (c / 16) t k) ∙ free) refl)
            | inr k ↦
                let same : c / 16 ≡ length old = omega (arith, l, k) in
                out_of (rows c) m t (here c (same ∙ sym len)) (sym (may_have_last old m t) ∙ ap (λ n. may_have (old ++ m ∷ []) n t) (sym same) ∙ free)
          ]
    ]

not_left : (a b : Bool) → (a && b) ≡ false → b ≡ true → a ≡ false
not_left false b e f = refl
not_left true b e f = absurd (both_ways b e f)

module _ (rows : ℕ → ℕ → Bool) where
  pub page_free : (marks : Marks) (slots mark : Slots) (number : ℕ) → AreMarked rows marks → ((t : ℕ) → has_slot mark t ≡ may_have marks.pages.items (number / 16) t) →
      ((t : ℕ) → (has_slot mark t && has_slot slots t) ≡ false) → HaveNoneAt rows slots number ((number / 16 + 1) * 16)
  page_free marks slots mark number marked is apart c t h k has =
      let e : c / 16 ≡ number / 16 = omega (arith, h, k) in
      marked c t (ap (λ i. may_have marks.pages.items i t) e ∙ sym (is t) ∙ not_left (has_slot mark t) (has_slot slots t) (apart t) has)

  pub row_free : (slots mark : Slots) (number : ℕ) → AreIn (rows number) mark → ((t : ℕ) → (has_slot mark t && has_slot slots t) ≡ false) →
      HaveNoneAt rows slots number (number + 1)
  row_free slots mark number in_mark apart c t h k has =
      let e : c ≡ number = omega (arith, h, k) in
      ap (λ n. rows n t) e ∙ out_of (rows number) mark t in_mark (not_left (has_slot mark t) (has_slot slots t) (apart t) has)

-- the places of a page up to one more
module _ {S : Type 0} (member : S → ℕ → Bool) (page : List S) (at : ℕ) (slots : Slots) where
  pub place_in_more : (mark new : Slots) (x : S) → ((i : ℕ) → i < at → AreIn (page_has member page i) slots) → slice_get page at ≡ Some x → AreIn (member x) mark →
      ((t : ℕ) → has_slot new t ≡ (has_slot slots t || has_slot mark t)) → (i : ℕ) → i < at + 1 → AreIn (page_has member page i) new
  place_in_more mark new x before is here or i h t has =
      elim (cases_lt i at) [
        | inl l ↦ or t ∙ or_left (has_slot slots t) (has_slot mark t) (before i l t has)
        | inr l ↦
            let e : i ≡ at = omega (arith, l, h) in
            or t ∙ or_right (has_slot slots t) (has_slot mark t) (here t (sym (ap (λ j. page_has member page j t) e ∙ page_has-at member page at t x is) ∙ has))
      ]

  pub places_in : length page ≤ at → ((i : ℕ) → i < at → AreIn (page_has member page i) slots) → (i : ℕ) → AreIn (page_has member page i) slots
  places_in past before i t has =
      elim (cases_lt i at) [
        | inl l ↦ before i l t has
        | inr l ↦ absurd (both_ways (page_has member page i t) (page_has-past member page i t (omega (arith, past, l))) has)
      ]

-- a page is marked anew, the rows of which alone were written
pub marked_anew : (rows old_rows : ℕ → ℕ → Bool) (old new : List Slots) (mark : Slots) (page : ℕ) →
    ((i t : ℕ) → may_have new i t ≡ (if eqb i page then has_slot mark t else may_have old i t)) → ((c : ℕ) → c / 16 ≡ page → AreIn (rows c) mark) →
    ((c t : ℕ) → may_have old (c / 16) t ≡ false → old_rows c t ≡ false) → ((c t : ℕ) → eqb (c / 16) page ≡ false → rows c t ≡ old_rows c t) →
    (c t : ℕ) → may_have new (c / 16) t ≡ false → rows c t ≡ false
marked_anew rows old_rows old new mark page set here before others c t free =
    elim (cases_eq (c / 16) page) [
      | inl e ↦
          out_of (rows c) mark t (here c e)
          (sym (ap (λ b. if b then has_slot mark t else may_have old (c / 16) t) (eq-eqb (c / 16) page e)) ∙ sym (set (c / 16) t) ∙ free)
      | inr other ↦
          others c t (ne_eqb (c / 16) page other)
          ∙ before c t (sym (ap (λ b. if b then has_slot mark t else may_have old (c / 16) t) (ne_eqb (c / 16) page other)) ∙ sym (set (c / 16) t) ∙ free)
    ]
