-- Candidates by the places that are marked.
use Rattle.std.proofs.Common.{◌≡◌, ℕ, zero, suc, ◌+◌, ◌-◌, ◌<◌, ◌≤◌, Bool, true, false, ◌&&◌, ◌||◌, nat_le, unsigned_abs, Option, None, Some, List, [], ◌∷◌, ◌++◌, length, map, take, refl, sym, ap, ◌∙◌, arith}
use Rattle.std.specs.Prelude.{slice_index, slice_set, if◌then◌else◌}
use Rattle.std.specs.List.{filter, list_any, range_with_len}
use Rattle.std.proofs.lemmas.Int.{ints}
use Rattle.std.proofs.lemmas.Bool.Decides.{nat_tests}
use Rattle.std.proofs.lemmas.List.{append-nil, map-append, take-set, take_more_set}
use Rattle.fixed_point.specs.declared.number.TheConstants.{FIX_LIMIT}
use Rattle.tick_set.specs.Ticks.{between}
use Rattle.plane.specs.Boxes.{Grid, Strips, lies_on, slice_first, slice_last, slice_meets, strips_meet}
use Rattle.plane_index.specs.Held.{kept_strips, no_strips}
use Rattle.exact.proofs.Truths.{or_false}
use Rattle.exact.proofs.Naturals.{test_at_most}

-- ---- one of the slices

any_added : (p : ℕ → Bool) (n a : ℕ) → list_any p (range_with_len a (suc n)) ≡ (list_any p (range_with_len a n) || p (a + n))
any_added p zero a = let e : a + 0 ≡ a = omega arith in let same = ap p e in grind (arith, nat_tests, same)
any_added p (suc n) a =
    let later = any_added p n (a + 1) in
    let e : a + 1 + n ≡ a + suc n = omega arith in
    let same = ap p e in
    grind (arith, nat_tests, later, same)

pub any_more : (p : ℕ → Bool) (n : ℕ) → list_any p (between 0 (n + 1)) ≡ (list_any p (between 0 n) || p n)
unfolding between
any_more p n =
    let more : n + 1 - 0 ≡ suc n = omega arith in
    let none : n ≡ n - 0 = omega arith in
    let at : 0 + n ≡ n = omega arith in
    ap (λ m. list_any p (range_with_len 0 m)) more ∙ any_added p n 0 ∙ (λ i. list_any p (range_with_len 0 (none i)) || p (at i))

none_in : (p : ℕ → Bool) (n a : ℕ) → ((j : ℕ) → a ≤ j → j < a + n → p j ≡ false) → list_any p (range_with_len a n) ≡ false
none_in p zero a none = refl
none_in p (suc n) a none =
    let first = none a (omega arith) (omega arith) in
    let later = none_in p n (a + 1) (λ j from below. none j (omega arith) (omega arith)) in
    λ i. first i || later i

pub none_before : (p : ℕ → Bool) (n : ℕ) → ((j : ℕ) → j < n → p j ≡ false) → list_any p (between 0 n) ≡ false
unfolding between
none_before p n none = none_in p (n - 0) 0 (λ j from below. none j (omega arith))

all_same : (p q : ℕ → Bool) (n a : ℕ) → ((j : ℕ) → a ≤ j → j < a + n → p j ≡ q j) → list_any p (range_with_len a n) ≡ list_any q (range_with_len a n)
all_same p q zero a same = refl
all_same p q (suc n) a same =
    let first = same a (omega arith) (omega arith) in
    let later = all_same p q n (a + 1) (λ j from below. same j (omega arith) (omega arith)) in
    λ i. first i || later i

pub any_same : (p q : ℕ → Bool) (n : ℕ) → ((j : ℕ) → j < n → p j ≡ q j) → list_any p (between 0 n) ≡ list_any q (between 0 n)
unfolding between
any_same p q n same = all_same p q (n - 0) 0 (λ j from below. same j (omega arith))

-- where none of the others passes
pub any_up_to : (p : ℕ → Bool) (n more : ℕ) → ((j : ℕ) → n ≤ j → p j ≡ false) → list_any p (between 0 (n + more)) ≡ list_any p (between 0 n)
any_up_to p n zero none = ap (λ m. list_any p (between 0 m)) (omega arith)
any_up_to p n (suc more) none =
    ap (λ m. list_any p (between 0 m)) (omega arith)
    ∙ any_more p (n + more)
    ∙ (λ i. any_up_to p n more none i || none (n + more) (omega arith) i)
    ∙ or_false (list_any p (between 0 n))

-- ---- strips that are kept

nothing_met : (asked : Strips) → unsigned_abs asked.last ≤ FIX_LIMIT → strips_meet asked no_strips ≡ false
nothing_met asked size = grind (arith, ints, nat_tests)

pub kept_lie : (asked : Strips) (strips : Option Strips) → unsigned_abs asked.last ≤ FIX_LIMIT → strips_meet asked (kept_strips strips) ≡ lies_on asked strips
kept_lie asked None size = nothing_met asked size
kept_lie asked (Some strips) size = refl

-- ---- the objects of the places that pass

with_first : (f : ℕ → ℕ) (a id : ℕ) (xs ys : List ℕ) (x y : Bool) → x ≡ y → f a ≡ id → map f xs ≡ ys →
    map f (if x then a ∷ xs else xs) ≡ (if y then id ∷ ys else ys)
with_first f a id xs ys true true same at later = λ i. at i ∷ later i
with_first f a id xs ys false false same at later = later
with_first f a id xs ys true false same at later = absurd (grind (arith, nat_tests, same))
with_first f a id xs ys false true same at later = absurd (grind (arith, nat_tests, same))

placed : (all : List ℕ) (p : ℕ → Bool) (q : ℕ → Bool) (a : ℕ) (ids : List ℕ) → ((k : ℕ) → k < length ids → slice_index all (a + k) ≡ slice_index ids k) →
    ((k : ℕ) → k < length ids → p (a + k) ≡ q (slice_index ids k)) →
    map (slice_index all) (filter p (range_with_len a (length ids))) ≡ filter q ids
placed all p q a [] at same = refl
placed all p q a (id ∷ ids) at same =
    let here : a + 0 ≡ a = omega arith in
    let first : slice_index all a ≡ id = ap (slice_index all) (sym here) ∙ at 0 (omega arith) in
    let test : p a ≡ q id = ap p (sym here) ∙ same 0 (omega arith) in
    let next : (k : ℕ) → a + 1 + k ≡ a + suc k = λ k. omega arith in
    let later = placed all p q (a + 1) ids (λ k l. ap (slice_index all) (next k) ∙ at (suc k) (omega arith)) (λ k l. ap p (next k) ∙ same (suc k) (omega arith)) in
    with_first (slice_index all) a id (filter p (range_with_len (a + 1) (length ids))) (filter q ids) (p a) (q id) test first later

pub by_places : (p q : ℕ → Bool) (ids : List ℕ) → ((k : ℕ) → k < length ids → p k ≡ q (slice_index ids k)) →
    map (slice_index ids) (filter p (between 0 (length ids))) ≡ filter q ids
unfolding between
by_places p q ids same =
    let none : length ids - 0 ≡ length ids = omega arith in
    let at : (k : ℕ) → 0 + k ≡ k = λ k. omega arith in
    ap (λ n. map (slice_index ids) (filter p (range_with_len 0 n))) none
    ∙ placed ids p q 0 ids (λ k l. ap (slice_index ids) (at k)) (λ k l. ap p (at k) ∙ same k l)

-- ---- one more place

first_more : (b : Bool) (a : ℕ) (all some last : List ℕ) → all ≡ some ++ last → (if b then a ∷ all else all) ≡ (if b then a ∷ some else some) ++ last
first_more true a all some last is = ap (λ xs. a ∷ xs) is
first_more false a all some last is = is

filtered : (p : ℕ → Bool) (n a : ℕ) → filter p (range_with_len a (suc n)) ≡ filter p (range_with_len a n) ++ filter p ((a + n) ∷ [])
filtered p zero a =
    let e : a ≡ a + 0 = omega arith in
    ap (λ m. filter p (m ∷ [])) e
filtered p (suc n) a =
    let e : a + 1 + n ≡ a + suc n = omega arith in
    first_more (p a) a (filter p (range_with_len (a + 1) (suc n))) (filter p (range_with_len (a + 1) n)) (filter p ((a + suc n) ∷ []))
    (filtered p n (a + 1) ∙ ap (λ m. filter p (range_with_len (a + 1) n) ++ filter p (m ∷ [])) e)

pub filter_more : (p : ℕ → Bool) (n : ℕ) → filter p (between 0 (n + 1)) ≡ filter p (between 0 n) ++ filter p (n ∷ [])
unfolding between
filter_more p n =
    let more : n + 1 - 0 ≡ suc n = omega arith in
    let none : n ≡ n - 0 = omega arith in
    let at : 0 + n ≡ n = omega arith in
    ap (λ m. filter p (range_with_len 0 m)) more ∙ filtered p n 0 ∙ (λ i. filter p (range_with_len 0 (none i)) ++ filter p (at i ∷ []))

-- ---- the slices of a window

pub not_yet_met : (g : Grid) (from e s j : ℕ) → slice_first g s ≤ from → j < s → slice_meets g from e j ≡ false
not_yet_met g from e s j first below = grind (arith, nat_tests)

pub no_more_met : (g : Grid) (from e s j : ℕ) → e ≤ slice_last g s → s + 1 ≤ j → slice_meets g from e j ≡ false
no_more_met g from e s j last above = grind (arith, nat_tests)

pub met : (g : Grid) (from e first last s : ℕ) → from ≤ slice_last g first → slice_first g last ≤ e → first ≤ s → s ≤ last → slice_meets g from e s ≡ true
met g from e first last s begins ends above below = grind (arith, nat_tests)

-- ---- slice by slice

not_from : (first j : ℕ) (b : Bool) → j < first → (nat_le first j && b) ≡ false
not_from first j b below = grind (arith, nat_tests)

regroup : (a b c d : Bool) → c ≡ true → ((a || b) || d) ≡ (a || (b || (c && d)))
regroup a b c d is = grind (arith, nat_tests)

pub none_yet : (b : Bool) (p : ℕ → Bool) (first : ℕ) → b ≡ (b || list_any (λ j. nat_le first j && p j) (between 0 first))
none_yet b p first =
    sym (or_false b)
    ∙ ap (λ x. b || x) (sym (none_before (λ j. nat_le first j && p j) first (λ j below. not_from first j (p j) below)))

pub one_more_slice : (now old : Bool) (p : ℕ → Bool) (first s : ℕ) → first ≤ s → now ≡ (old || list_any (λ j. nat_le first j && p j) (between 0 s)) →
    (now || p s) ≡ (old || list_any (λ j. nat_le first j && p j) (between 0 (s + 1)))
one_more_slice now old p first s from is =
    ap (λ b. b || p s) is
    ∙ regroup old (list_any (λ j. nat_le first j && p j) (between 0 s)) (nat_le first s) (p s) (test_at_most first s from)
    ∙ ap (λ b. old || b) (sym (any_more (λ j. nat_le first j && p j) s))

pub nothing_found : (f : ℕ → ℕ) (p : ℕ → Bool) → [] ≡ map f (filter p (between 0 0))
unfolding between
nothing_found f p = refl

by_test : (f : ℕ → ℕ) (n : ℕ) (b : Bool) → map f (if b then n ∷ [] else []) ≡ (if b then f n ∷ [] else [])
by_test f n true = refl
by_test f n false = refl

pub place_more : (f : ℕ → ℕ) (p : ℕ → Bool) (n : ℕ) → map f (filter p (between 0 (n + 1))) ≡ map f (filter p (between 0 n)) ++ (if p n then f n ∷ [] else [])
place_more f p n =
    ap (map f) (filter_more p n)
    ∙ map-append f (filter p (between 0 n)) (filter p (n ∷ []))
    ∙ ap (λ xs. map f (filter p (between 0 n)) ++ xs) (by_test f n (p n))

-- what is put behind those that were found before, and counted if it is one of them
pub gathered : (xs : List ℕ) (n more x : ℕ) (b : Bool) → n < length xs → more ≡ (if b then 1 else 0) → take (n + more) (slice_set xs n x) ≡ take n xs ++ (if b then x ∷ [] else [])
gathered xs n more x true below is = ap (λ m. take (n + m) (slice_set xs n x)) is ∙ take_more_set xs n x below
gathered xs n more x false below is =
    let none : n + 0 ≡ n = omega arith in
    ap (λ m. take (n + m) (slice_set xs n x)) is ∙ ap (λ m. take m (slice_set xs n x)) none ∙ take-set xs n x ∙ sym (append-nil (take n xs))

pub few_more : (more n place : ℕ) (b : Bool) → more ≡ (if b then 1 else 0) → n ≤ place → n + more ≤ place + 1
few_more more n place true is few = omega (arith, is, few)
few_more more n place false is few = omega (arith, is, few)
