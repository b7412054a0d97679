-- The next row that has a tick.
use Rattle.std.proofs.Common.{◌≡◌, ℕ, zero, suc, ◌+◌, ◌*◌, ◌/◌, ◌%◌, ◌<◌, ◌≤◌, Bool, true, false, eqb, Option, None, Some, List, [], ◌∷◌, length, refl, ap, subst, sym, ◌∙◌, inl, inr, arith}
use Rattle.std.specs.Prelude.{IfNone, IfSome, is_some, slice_get, slice_index_or}
use Rattle.std.specs.Option.{SomeIff, option_map_or}
use Rattle.std.proofs.lemmas.Bool.{both_ways, cases_lt, eqb-true, or_cases}
use Rattle.kept_rows.specs.Listing.{IsNext, HaveNone}
use Rattle.kept_rows.specs.Rows.{IsPage, is_whole, page_has, row_has}

-- past the end of a page there are no ticks
pub page_has-past : {S : Type 0} (member : S → ℕ → Bool) (xs : List S) (i t : ℕ) → length xs ≤ i → page_has member xs i t ≡ false
page_has-past member [] i t h = refl
page_has-past member (x ∷ xs) zero t h = absurd (omega (arith, h))
page_has-past member (x ∷ xs) (suc i) t h = page_has-past member xs i t (omega (arith, h))

pub page_has-at : {S : Type 0} (member : S → ℕ → Bool) (xs : List S) (i t : ℕ) (x : S) → slice_get xs i ≡ Some x → page_has member xs i t ≡ member x t
page_has-at member xs i t x e = ap (λ o. option_map_or (λ s. member s t) o false) e

-- a page has sixteen sets at most
pub page-small : {S : Type 0} (xs : List S) → IsPage xs → length xs ≤ 16
page-small xs p =
    elim (or_cases (is_whole xs) (eqb (length xs) 0) p) [
      | inl e ↦ let s : length xs ≡ 16 = eqb-true (length xs) 16 e in omega (arith, s)
      | inr e ↦ let s : length xs ≡ 0 = eqb-true (length xs) 0 e in omega (arith, s)
    ]

pub get-below : {S : Type 0} (xs : List S) (i : ℕ) (x : S) → slice_get xs i ≡ Some x → i < length xs
get-below [] i x e = absurd (both_ways false refl (ap is_some e))
get-below (y ∷ ys) zero x e = omega arith
get-below (y ∷ ys) (suc i) x e = let s : i < length ys = get-below ys i x e in omega (arith, s)

pub get-none : {S : Type 0} (xs : List S) (i : ℕ) → slice_get xs i ≡ None → length xs ≤ i
get-none [] i e = omega arith
get-none (y ∷ ys) zero e = absurd (both_ways true (ap is_some e) refl)
get-none (y ∷ ys) (suc i) e = let s : length ys ≤ i = get-none ys i e in omega (arith, s)

-- what there is below `to`
pub below-if : (o : Option ℕ) (number to : ℕ) (P : ℕ → Type 0) → SomeIff o (number < to) number → (number < to → P number) → IfSome o P
below-if None number to P s f = tt
below-if (Some x) number to P s f = subst P (sym s.1) (f s.0)

pub past-if : (o : Option ℕ) (number to : ℕ) (P : Type 0) → SomeIff o (number < to) number → (to ≤ number → P) → IfNone o P
past-if None number to P s f = f (omega (arith, s))
past-if (Some x) number to P s f = tt

-- one more set without ticks
pub none-more : {S : Type 0} (member : S → ℕ → Bool) (xs : List S) (from at : ℕ) (x : S) →
    ((i t : ℕ) → from ≤ i → i < at → page_has member xs i t ≡ false) → slice_get xs at ≡ Some x → ((t : ℕ) → member x t ≡ false) →
    (i t : ℕ) → from ≤ i → i < at + 1 → page_has member xs i t ≡ false
none-more member xs from at x before is none i t h k =
    elim (cases_lt i at) [
      | inl l ↦ before i t h l
      | inr l ↦ let e : i ≡ at = omega (arith, k, l) in ap (λ j. page_has member xs j t) e ∙ page_has-at member xs at t x is ∙ none t
    ]

pub none-past : {S : Type 0} (member : S → ℕ → Bool) (xs : List S) (from at : ℕ) →
    ((i t : ℕ) → from ≤ i → i < at → page_has member xs i t ≡ false) → length xs ≤ at →
    (i t : ℕ) → from ≤ i → page_has member xs i t ≡ false
none-past member xs from at before end i t h =
    elim (cases_lt i at) [
      | inl l ↦ before i t h l
      | inr l ↦ page_has-past member xs i t (omega (arith, end, l))
    ]

-- the rows of a page
row-of-page : {S : Type 0} (member : S → ℕ → Bool) (pages : List (List S)) (page : List S) (page_at c t : ℕ) →
    page ≡ slice_index_or pages page_at [] → page_at * 16 ≤ c → c < page_at * 16 + 16 → row_has member pages c t ≡ page_has member page (c % 16) t
row-of-page member pages page page_at c t is h k =
    let e : c / 16 ≡ page_at = omega (arith, h, k) in
    ap (λ j. page_has member (slice_index_or pages j []) (c % 16) t) e ∙ ap (λ p. page_has member p (c % 16) t) (sym is)

-- up to a place of the page
pub none-upto : {S : Type 0} (member : S → ℕ → Bool) (pages : List (List S)) (page : List S) (from page_at at i : ℕ) →
    page ≡ slice_index_or pages page_at [] → i ≤ 16 →
    ((c t : ℕ) → from ≤ c → c < page_at * 16 + at → row_has member pages c t ≡ false) →
    ((j t : ℕ) → at ≤ j → j < i → page_has member page j t ≡ false) →
    (c t : ℕ) → from ≤ c → c < page_at * 16 + i → row_has member pages c t ≡ false
none-upto member pages page from page_at at i is small before none c t h k =
    elim (cases_lt c (page_at * 16 + at)) [
      | inl l ↦ before c t h l
      | inr l ↦
          let m : c ≡ page_at * 16 + c % 16 = omega (arith, k, l, small) in
          row-of-page member pages page page_at c t is (omega (arith, l)) (omega (arith, k, small))
          ∙ none (c % 16) t (omega (arith, l, m)) (omega (arith, k, m))
    ]

pub next-found : {S : Type 0} (member : S → ℕ → Bool) (pages : List (List S)) (page : List S) (from to page_at at i number : ℕ) →
    page ≡ slice_index_or pages page_at [] → from ≤ page_at * 16 + at →
    ((c t : ℕ) → from ≤ c → c < page_at * 16 + at → row_has member pages c t ≡ false) →
    IsNext (page_has member page) at 16 i → number ≡ page_at * 16 + i → number < to → IsNext (row_has member pages) from to number
next-found member pages page from to page_at at i number is start before next number-is small =
    let up : at ≤ i = next.least in
    let low : i < 16 = next.below in
    let rem : number % 16 ≡ i = omega (arith, number-is, low) in
    record {
      least = omega (arith, start, up, number-is);
      below = small;
      before = λ c t h k. none-upto member pages page from page_at at i is (omega (arith, low)) before next.before c t h (omega (arith, k, number-is));
      tick = λ none. next.tick (λ t.
          ap (λ j. page_has member page j t) (sym rem)
          ∙ sym (row-of-page member pages page page_at number t is (omega (arith, number-is)) (omega (arith, number-is, low)))
          ∙ none t);
    }

pub none-below : {S : Type 0} (member : S → ℕ → Bool) (pages : List (List S)) (page : List S) (from to page_at at i : ℕ) →
    page ≡ slice_index_or pages page_at [] →
    ((c t : ℕ) → from ≤ c → c < page_at * 16 + at → row_has member pages c t ≡ false) →
    IsNext (page_has member page) at 16 i → to ≤ page_at * 16 + i → HaveNone (row_has member pages) from to
none-below member pages page from to page_at at i is before next small c t h k =
    let low : i < 16 = next.below in
    none-upto member pages page from page_at at i is (omega (arith, low)) before next.before c t h (omega (arith, k, small))

pub none-at-end : {S : Type 0} (member : S → ℕ → Bool) (pages : List (List S)) (from to page_at at : ℕ) →
    ((c t : ℕ) → from ≤ c → c < page_at * 16 + at → row_has member pages c t ≡ false) →
    ((c t : ℕ) → page_at * 16 ≤ c → c < to → row_has member pages c t ≡ false) → HaveNone (row_has member pages) from to
none-at-end member pages from to page_at at before after c t h k =
    elim (cases_lt c (page_at * 16 + at)) [
      | inl l ↦ before c t h l
      | inr l ↦ after c t (omega (arith, l)) k
    ]

-- past the last page
pub none-past-pages : {S : Type 0} (member : S → ℕ → Bool) (pages : List (List S)) (page_at c t : ℕ) → length pages ≤ page_at → page_at * 16 ≤ c →
    row_has member pages c t ≡ false
none-past-pages member pages page_at c t h k =
    ap (λ p. page_has member p (c % 16) t) (past pages (c / 16) (omega (arith, h, k)))
  where
    past : {S : Type 0} (xs : List (List S)) (i : ℕ) → length xs ≤ i → slice_index_or xs i [] ≡ []
    past [] i h = refl
    past (x ∷ xs) zero h = absurd (omega (arith, h))
    past (x ∷ xs) (suc i) h = past xs i (omega (arith, h))
