-- Numbers in buckets.
use Rattle.std.proofs.Common.{◌≡◌, ℕ, zero, suc, ◌+◌, ◌*◌, ◌/◌, ◌%◌, ◌<◌, ◌≤◌, Bool, true, false, not, ◌&&◌, ◌||◌, eqb, max, Option, None, Some, List, [], ◌∷◌, length, refl, ap, subst, sym, ◌∙◌, inl, inr, arith, if◌then◌else◌}
use Rattle.std.specs.Prelude.{IfNone, IfSome, slice_index_or}
use Rattle.std.proofs.lemmas.Bool.{and_parts, both_ways, cases_Bool, cases_eq, cases_lt, eq-eqb, eqb-true, false_from_ne_true, ne_eqb, or_cases, or_left, or_right}
use Rattle.std.proofs.lemmas.List.{get_or_past}
use Rattle.tick_set.specs.TickList.{has}
use Rattle.tick_set.specs.Ticks.{between, within}
use Rattle.tick_set.proofs.Between.{any_between_at, any_between_found, within_parts}
use Rattle.kept_rows.specs.declared.near.Ends.{Ends}
use Rattle.kept_rows.specs.declared.near.Near.{Near}
use Rattle.kept_rows.specs.Near.{AreInBuckets, bucket_at, is_cell, is_length, is_near_by, is_near_in, may_have_number, may_have_tick}
use Rattle.kept_rows.specs.Rows.{page_has, row_has}
use Rattle.exact.proofs.Truths.{false_from_not}

abbrev cell : List ℕ → ℕ → ℕ
cell cells i = slice_index_or cells i 0

true-of : (b : Bool) → b ≡ false → not b ≡ true
true-of false e = refl
true-of true e = absurd (both_ways true e refl)

pub is_cell-at : (cells : List ℕ) (bucket number i : ℕ) → bucket * 32 ≤ i → i < bucket * 32 + 32 → cell cells i ≡ number → is_cell cells bucket number ≡ true
is_cell-at cells bucket number i h k e =
    any_between_at (λ j. eqb (cell cells j) number) (bucket * 32) (bucket * 32 + 32) i h k (eq-eqb (cell cells i) number e)

-- ---- a cell is written
module _ (old new : List ℕ) (bucket at number : ℕ) (others : (i : ℕ) → eqb i at ≡ false → cell new i ≡ cell old i) where
  pub put-others : cell old at ≡ 4294967295 → cell new at ≡ number → number < 4294967295 → (b c : ℕ) → may_have_number old b c ≡ true → may_have_number new b c ≡ true
  put-others free is small b c e =
      elim (cases_Bool (is_cell new b 4294967295)) [
        | inr full ↦ or_right (is_cell new b c) (not (is_cell new b 4294967295)) (true-of (is_cell new b 4294967295) full)
        | inl room ↦
            let s = any_between_found (λ j. eqb (cell new j) 4294967295) (b * 32) (b * 32 + 32) room in
            let apart : eqb s.tick at ≡ false = ne_eqb s.tick at (λ f. omega (arith, small, eqb-true (cell new s.tick) 4294967295 s.passes, ap (λ j. cell new j) f, is)) in
            let was : is_cell old b 4294967295 ≡ true = is_cell-at old b 4294967295 s.tick s.from s.below (sym (others s.tick apart) ∙ eqb-true (cell new s.tick) 4294967295 s.passes) in
            elim (or_cases (is_cell old b c) (not (is_cell old b 4294967295)) e) [
              | inr full ↦ absurd (both_ways (is_cell old b 4294967295) (false_from_not (is_cell old b 4294967295) full) was)
              | inl here ↦
                  let p = any_between_found (λ j. eqb (cell old j) c) (b * 32) (b * 32 + 32) here in
                  let value : cell old p.tick ≡ c = eqb-true (cell old p.tick) c p.passes in
                  or_left (is_cell new b c) (not (is_cell new b 4294967295))
                  (elim (cases_eq p.tick at) [
                    | inl same ↦ ap (λ n. is_cell new b n) (sym value ∙ ap (λ j. cell old j) same ∙ free) ∙ room
                    | inr other ↦ is_cell-at new b c p.tick p.from p.below (others p.tick (ne_eqb p.tick at other) ∙ value)
                  ])
            ]
      ]

  pub put-here : bucket * 32 ≤ at → at < bucket * 32 + 32 → cell new at ≡ number → may_have_number new bucket number ≡ true
  put-here h k is = or_left (is_cell new bucket number) (not (is_cell new bucket 4294967295)) (is_cell-at new bucket number at h k is)

  pub take-others : bucket * 32 ≤ at → at < bucket * 32 + 32 → cell old at ≡ number → is_cell old bucket 4294967295 ≡ true →
      (b c : ℕ) → eqb c number ≡ false → may_have_number old b c ≡ true → may_have_number new b c ≡ true
  take-others h k was room b c apart e =
      elim (or_cases (is_cell old b c) (not (is_cell old b 4294967295)) e) [
        | inl here ↦
            let p = any_between_found (λ j. eqb (cell old j) c) (b * 32) (b * 32 + 32) here in
            let value : cell old p.tick ≡ c = eqb-true (cell old p.tick) c p.passes in
            let other : eqb p.tick at ≡ false = ne_eqb p.tick at (λ f. both_ways (eqb c number) apart (eq-eqb c number (sym value ∙ ap (λ j. cell old j) f ∙ was))) in
            or_left (is_cell new b c) (not (is_cell new b 4294967295)) (is_cell-at new b c p.tick p.from p.below (others p.tick other ∙ value))
        | inr full ↦
            let none : is_cell old b 4294967295 ≡ false = false_from_not (is_cell old b 4294967295) full in
            or_right (is_cell new b c) (not (is_cell new b 4294967295))
            (true-of (is_cell new b 4294967295) (false_from_ne_true (is_cell new b 4294967295) (λ f.
            let p = any_between_found (λ j. eqb (cell new j) 4294967295) (b * 32) (b * 32 + 32) f in
            elim (cases_eq p.tick at) [
              | inl same ↦
                  let one : b ≡ bucket = omega (arith, same, p.from, p.below, h, k) in
                  both_ways (is_cell old b 4294967295) none (ap (λ x. is_cell old x 4294967295) one ∙ room)
              | inr other ↦
                  both_ways (is_cell old b 4294967295) none
                  (is_cell-at old b 4294967295 p.tick p.from p.below (sym (others p.tick (ne_eqb p.tick at other)) ∙ eqb-true (cell new p.tick) 4294967295 p.passes))
            ])))
      ]

-- no cell is free
pub full-here : (cells : List ℕ) (bucket number : ℕ) → is_cell cells bucket 4294967295 ≡ false → may_have_number cells bucket number ≡ true
full-here cells bucket number none = or_right (is_cell cells bucket number) (not (is_cell cells bucket 4294967295)) (true-of (is_cell cells bucket 4294967295) none)

-- there are no cells
pub full-none : (bucket number : ℕ) → may_have_number [] bucket number ≡ true
full-none bucket number = full-here [] bucket number (false_from_ne_true (is_cell [] bucket 4294967295) (λ f.
    let p = any_between_found (λ j. eqb (cell [] j) 4294967295) (bucket * 32) (bucket * 32 + 32) f in
    omega (arith, eqb-true (cell [] p.tick) 4294967295 p.passes)))

-- a cell that isn't 0 is there
pub cell-there : (cells : List ℕ) (i n : ℕ) → cell cells i ≡ suc n → i < length cells
cell-there [] i n e = absurd (omega (arith, e))
cell-there (x ∷ xs) zero n e = omega arith
cell-there (x ∷ xs) (suc i) n e = let h = cell-there xs i n e in omega (arith, h)

-- ---- the buckets of a row
module _ (has_long : Bool) (cells : List ℕ) (width c t : ℕ) where
  pub near-short : is_near_by 16 cells width c t ≡ true → is_near_in has_long cells width c t ≡ true
  near-short e = or_left (is_near_by 16 cells width c t) (has_long && (is_near_by 1024 cells width c t || is_near_by 4294967296 cells width c t)) e

  near-longer : has_long ≡ true → (is_near_by 1024 cells width c t || is_near_by 4294967296 cells width c t) ≡ true → is_near_in has_long cells width c t ≡ true
  near-longer h e =
      or_right (is_near_by 16 cells width c t) (has_long && (is_near_by 1024 cells width c t || is_near_by 4294967296 cells width c t))
      (ap (λ b. b && (is_near_by 1024 cells width c t || is_near_by 4294967296 cells width c t)) h ∙ e)

  pub near-long : has_long ≡ true → is_near_by 1024 cells width c t ≡ true → is_near_in has_long cells width c t ≡ true
  near-long h e = near-longer h (or_left (is_near_by 1024 cells width c t) (is_near_by 4294967296 cells width c t) e)

  pub near-any : has_long ≡ true → is_near_by 4294967296 cells width c t ≡ true → is_near_in has_long cells width c t ≡ true
  near-any h e = near-longer h (or_right (is_near_by 1024 cells width c t) (is_near_by 4294967296 cells width c t) e)

pub near-none : (has_long : Bool) (width c t : ℕ) → is_near_in has_long [] width c t ≡ true
near-none has_long width c t =
    near-short has_long [] width c t
    (or_left (may_have_number [] (bucket_at 0 (c / max width 1) 16 (t / 16)) c) (may_have_number [] (bucket_at 0 (c / max width 1) 16 (t / 16 + 1)) c)
    (full-none (bucket_at 0 (c / max width 1) 16 (t / 16)) c))

-- a row of these ends is in the stretch after that of its first tick
module _ (cells : List ℕ) (width c lo t : ℕ) (h : lo ≤ t) where
  in-first-or-next : (size : ℕ) → (if eqb (t / size) (lo / size) then true else eqb (t / size) (lo / size + 1)) ≡ true →
      may_have_number cells (bucket_at (length cells) (c / max width 1) size (lo / size + 1)) c ≡ true → is_near_by size cells width c t ≡ true
  in-first-or-next size is e =
      let q : ℕ = c / max width 1 in
      elim (cases_eq (t / size) (lo / size)) [
        | inl same ↦
            or_right (may_have_number cells (bucket_at (length cells) q size (t / size)) c) (may_have_number cells (bucket_at (length cells) q size (t / size + 1)) c)
            (ap (λ s. may_have_number cells (bucket_at (length cells) q size (s + 1)) c) same ∙ e)
        | inr other ↦
            let next : t / size ≡ lo / size + 1 = eqb-true (t / size) (lo / size + 1) (ap (λ b. if b then true else eqb (t / size) (lo / size + 1)) (sym (ne_eqb (t / size) (lo / size) other)) ∙ is) in
            or_left (may_have_number cells (bucket_at (length cells) q size (t / size)) c) (may_have_number cells (bucket_at (length cells) q size (t / size + 1)) c)
            (ap (λ s. may_have_number cells (bucket_at (length cells) q size s) c) next ∙ e)
      ]

  first-or-next : (a b : ℕ) → b ≤ a → a ≤ b + 1 → (if eqb a b then true else eqb a (b + 1)) ≡ true
  first-or-next a b least most =
      elim (cases_eq a b) [
        | inl same ↦ ap (λ x. if x then true else eqb a (b + 1)) (eq-eqb a b same)
        | inr other ↦ ap (λ x. if x then true else eqb a (b + 1)) (ne_eqb a b other) ∙ eq-eqb a (b + 1) (omega (arith, least, most, other))
      ]

  pub near-row : (has_long : Bool) (size : ℕ) → is_length size ≡ true → t < lo + size →
      may_have_number cells (bucket_at (length cells) (c / max width 1) size (lo / size + 1)) c ≡ true → (eqb size 16 ≡ false → has_long ≡ true) →
      is_near_in has_long cells width c t ≡ true
  near-row has_long size is below e told =
      elim (or_cases (eqb size 16) (eqb size 1024 || eqb size 4294967296) is) [
        | inl f ↦
            let s : size ≡ 16 = eqb-true size 16 f in
            near-short has_long cells width c t (in-first-or-next 16 (first-or-next (t / 16) (lo / 16) (omega (arith, h)) (omega (arith, h, below, s)))
            (ap (λ n. may_have_number cells (bucket_at (length cells) (c / max width 1) n (lo / n + 1)) c) (sym s) ∙ e))
        | inr g ↦
            elim (or_cases (eqb size 1024) (eqb size 4294967296) g) [
              | inl f ↦
                  let s : size ≡ 1024 = eqb-true size 1024 f in
                  near-long has_long cells width c t (told (ne_eqb size 16 (λ f. omega (arith, f, s)))) (in-first-or-next 1024 (first-or-next (t / 1024) (lo / 1024) (omega (arith, h)) (omega (arith, h, below, s)))
                  (ap (λ n. may_have_number cells (bucket_at (length cells) (c / max width 1) n (lo / n + 1)) c) (sym s) ∙ e))
              | inr f ↦
                  let s : size ≡ 4294967296 = eqb-true size 4294967296 f in
                  near-any has_long cells width c t (told (ne_eqb size 16 (λ f. omega (arith, f, s)))) (in-first-or-next 4294967296 (first-or-next (t / 4294967296) (lo / 4294967296) (omega (arith, h)) (omega (arith, h, below, s)))
                  (ap (λ n. may_have_number cells (bucket_at (length cells) (c / max width 1) n (lo / n + 1)) c) (sym s) ∙ e))
            ]
      ]

-- no cell has the number
pub none-here : (cells : List ℕ) (bucket number at : ℕ) → bucket * 32 + 32 ≤ at →
    ((i : ℕ) → bucket * 32 ≤ i → i < at → eqb (cell cells i) number ≡ false) → is_cell cells bucket number ≡ false
none-here cells bucket number at past none = false_from_ne_true (is_cell cells bucket number) (λ f.
    let p = any_between_found (λ j. eqb (cell cells j) number) (bucket * 32) (bucket * 32 + 32) f in
    both_ways (eqb (cell cells p.tick) number) (none p.tick p.from (omega (arith, p.below, past))) p.passes)

-- a bucket with a free cell has the numbers of its cells alone
pub number-in : (cells : List ℕ) (bucket c at : ℕ) (goal : Bool) → is_cell cells bucket 4294967295 ≡ true → bucket * 32 + 32 ≤ at →
    ((i : ℕ) → bucket * 32 ≤ i → i < at → cell cells i ≡ c → goal ≡ true) → may_have_number cells bucket c ≡ true → goal ≡ true
number-in cells bucket c at goal room past here e =
    elim (or_cases (is_cell cells bucket c) (not (is_cell cells bucket 4294967295)) e) [
      | inl f ↦
          let p = any_between_found (λ j. eqb (cell cells j) c) (bucket * 32) (bucket * 32 + 32) f in
          here p.tick p.from (omega (arith, p.below, past)) (eqb-true (cell cells p.tick) c p.passes)
      | inr full ↦ absurd (both_ways (is_cell cells bucket 4294967295) (false_from_not (is_cell cells bucket 4294967295) full) room)
    ]

-- the number of one cell more was looked at
pub found-more : (cells : List ℕ) (at number from to first : ℕ) (old new : List ℕ) → number ≡ cell cells at →
    ((c : ℕ) → has old c ≡ true → has new c ≡ true) → (from ≤ number → number < to → has new number ≡ true) →
    ((i c : ℕ) → first ≤ i → i < at → cell cells i ≡ c → from ≤ c → c < to → has old c ≡ true) →
    (i c : ℕ) → first ≤ i → i < at + 1 → cell cells i ≡ c → from ≤ c → c < to → has new c ≡ true
found-more cells at number from to first old new is more here before i c h k e l m =
    elim (cases_lt i at) [
      | inl b ↦ more c (before i c h b e l m)
      | inr b ↦
          let same : i ≡ at = omega (arith, b, k) in
          let own : number ≡ c = is ∙ ap (λ j. cell cells j) (sym same) ∙ e in
          ap (λ n. has new n) (sym own) ∙ here (subst (λ n. from ≤ n) (sym own) l) (subst (λ n. n < to) (sym own) m)
    ]

-- ---- rows and their ends
-- where there are no cells, a row may have any tick
pub near-without-cells : (near : Near) (c t : ℕ) → near.cells.items ≡ [] → may_have_tick near c t ≡ true
near-without-cells near c t none = subst (λ (xs : List ℕ). is_near_in near.has_long xs near.width c t ≡ true) (sym none) (near-none near.has_long near.width c t)

no-items : (xs : List ℕ) → length xs ≡ 0 → xs ≡ []
no-items [] e = refl
no-items (x ∷ xs) e = absurd (omega (arith, e))

pub near-when-empty : (near : Near) (is : Bool) (c t : ℕ) → is ≡ eqb (length near.cells.items) 0 → is ≡ true → may_have_tick near c t ≡ true
near-when-empty near is c t told e =
    near-without-cells near c t (no-items near.cells.items (eqb-true (length near.cells.items) 0 (sym told ∙ e)))

pub any-here : (o : Option Ends) (near : ℕ → Bool) → ((t : ℕ) → near t ≡ true) → IfSome o (λ ends. (t : ℕ) → within ends.lo ends.hi t ≡ true → near t ≡ true)
any-here None near all = tt
any-here (Some ends) near all = λ t e. all t

-- what a row has between its ends is filed
pub filed-here : (o : Option Ends) (ticks near : ℕ → Bool) → IfSome o (λ ends. (t : ℕ) → ticks t ≡ true → within ends.lo ends.hi t ≡ true) →
    IfNone o ((t : ℕ) → ticks t ≡ false) → IfSome o (λ ends. (t : ℕ) → within ends.lo ends.hi t ≡ true → near t ≡ true) → (t : ℕ) → ticks t ≡ true → near t ≡ true
filed-here None ticks near some none here t e = absurd (both_ways (ticks t) (none t) e)
filed-here (Some ends) ticks near some none here t e = here t (some t e)

-- a row is filed anew
pub filed-anew : (rows after : ℕ → ℕ → Bool) (number : ℕ) (ticks : ℕ → Bool) (old new : Near) (o : Option Ends) →
    ((c t : ℕ) → after c t ≡ (if eqb c number then ticks t else rows c t)) →
    IfSome o (λ ends. (t : ℕ) → ticks t ≡ true → within ends.lo ends.hi t ≡ true) → IfNone o ((t : ℕ) → ticks t ≡ false) →
    ((c t : ℕ) → eqb c number ≡ false → may_have_tick old c t ≡ true → may_have_tick new c t ≡ true) →
    IfSome o (λ ends. (t : ℕ) → within ends.lo ends.hi t ≡ true → may_have_tick new number t ≡ true) →
    AreInBuckets rows old → AreInBuckets after new
filed-anew rows after number ticks old new o written some none others here before c t e =
    elim (cases_eq c number) [
      | inl same ↦
          ap (λ n. may_have_tick new n t) same
          ∙ filed-here o ticks (λ u. may_have_tick new number u) some none here t
          (ap (λ b. if b then ticks t else rows c t) (sym (eq-eqb c number same)) ∙ sym (written c t) ∙ e)
      | inr other ↦
          others c t (ne_eqb c number other)
          (before c t (ap (λ b. if b then ticks t else rows c t) (sym (ne_eqb c number other)) ∙ sym (written c t) ∙ e))
    ]

-- past the last page there are no ticks
pub row-past : {S : Type 0} (member : S → ℕ → Bool) (pages : List (List S)) (c t : ℕ) → length pages * 16 ≤ c → row_has member pages c t ≡ false
row-past member pages c t h =
    let past : length pages ≤ c / 16 = omega (arith, h) in
    ap (λ page. page_has member page (c % 16) t) (get_or_past pages (c / 16) [] past)

-- the row of one number more is filed
pub filed-more : (rows : ℕ → ℕ → Bool) (number : ℕ) (old new : Near) (o : Option Ends) →
    IfSome o (λ ends. (t : ℕ) → rows number t ≡ true → within ends.lo ends.hi t ≡ true) → IfNone o ((t : ℕ) → rows number t ≡ false) →
    ((c t : ℕ) → may_have_tick old c t ≡ true → may_have_tick new c t ≡ true) →
    IfSome o (λ ends. (t : ℕ) → within ends.lo ends.hi t ≡ true → may_have_tick new number t ≡ true) →
    ((c t : ℕ) → c < number → rows c t ≡ true → may_have_tick old c t ≡ true) →
    (c t : ℕ) → c < number + 1 → rows c t ≡ true → may_have_tick new c t ≡ true
filed-more rows number old new o some none others here before c t h e =
    elim (cases_eq c number) [
      | inl same ↦
          ap (λ n. may_have_tick new n t) same
          ∙ filed-here o (λ u. rows number u) (λ u. may_have_tick new number u) some none here t (ap (λ n. rows n t) (sym same) ∙ e)
      | inr other ↦ others c t (before c t (omega (arith, h, other)) e)
    ]

-- what a near query finds is what the rows have
pub found-rows : (rows : ℕ → ℕ → Bool) (near : Near) (o : Option Ends) (ticks : ℕ → Bool) (from to : ℕ) (c t : ℕ) (goal : Bool) → AreInBuckets rows near →
    IfSome o (λ ends. (u : ℕ) → ticks u ≡ true → within ends.lo ends.hi u ≡ true) → IfNone o ((u : ℕ) → ticks u ≡ false) →
    IfSome o (λ ends. within ends.lo ends.hi t ≡ true → may_have_tick near c t ≡ true → goal ≡ true) → ticks t ≡ true → rows c t ≡ true → goal ≡ true
found-rows rows near None ticks from to c t goal filed some none here e f = absurd (both_ways (ticks t) (none t) e)
found-rows rows near (Some ends) ticks from to c t goal filed some none here e f = here (some t e) (filed c t f)
