-- For this crate and for the crates above: lists of what there is of each number, and the ticks of the rows of some numbers.
use Rattle.std.proofs.Common.{◌≡◌, ℕ, zero, suc, ◌+◌, ◌*◌, ◌/◌, ◌-◌, ◌<◌, ◌≤◌, Bool, true, false, ◌||◌, Option, None, Some, List, [], ◌∷◌, ◌++◌, refl, ap, sym, ◌∙◌, inl, inr, append_assoc, arith, if◌then◌else◌}
use Rattle.std.specs.Prelude.{option_to_list}
use Rattle.std.specs.List.{range_with_len, list_any, cons_option, filter_map, filter}
use Rattle.std.proofs.lemmas.Bool.{both_ways, cases_lt, false_from_ne_true}
use Rattle.std.proofs.lemmas.List.Folds.{list_any-append}
use Rattle.std.proofs.lemmas.Nat.{div-add-mod', div_below, le-div, mod_below, mul-le, row_fits}
use Rattle.tick_set.specs.Runs.{runs_of}
use Rattle.tick_set.specs.Ticks.{between, listed}
use Rattle.tick_set.proofs.Between.{any_between_at, any_between_found}
use Rattle.kept_rows.specs.Listing.{HaveNone, line_of, lines_between, some_row, target_has, with_runs}
use Rattle.exact.proofs.Truths.{is_or_false, or_grouped, same_truth}

-- ---- numbers from a up to b
pub between-first : (a b : ℕ) → a < b → between a b ≡ a ∷ between (a + 1) b
unfolding between
between-first a b h = let e : b - a ≡ suc (b - (a + 1)) = omega (arith, h) in ap (range_with_len a) e

pub between-none : (a b : ℕ) → b ≤ a → between a b ≡ []
unfolding between
between-none a b h = let e : b - a ≡ zero = omega (arith, h) in ap (range_with_len a) e

-- ---- the ticks of the rows of some numbers
pub some_row-none : (rows : ℕ → ℕ → Bool) (a b t : ℕ) → HaveNone rows a b → some_row rows a b t ≡ false
some_row-none rows a b t none =
    false_from_ne_true (some_row rows a b t) (λ e.
    let s = any_between_found (λ c. rows c t) a b e in both_ways (rows s.tick t) (none s.tick t s.from s.below) s.passes)

pub some_row-skip : (rows : ℕ → ℕ → Bool) (a m b t : ℕ) → a ≤ m → HaveNone rows a m → some_row rows a b t ≡ some_row rows m b t
some_row-skip rows a m b t h none =
    same_truth (some_row rows a b t) (some_row rows m b t)
    (λ e.
    let s = any_between_found (λ c. rows c t) a b e in
    elim (cases_lt s.tick m) [
      | inl l ↦ absurd (both_ways (rows s.tick t) (none s.tick t s.from l) s.passes)
      | inr l ↦ any_between_at (λ c. rows c t) m b s.tick l s.below s.passes
    ])
    (λ e. let s = any_between_found (λ c. rows c t) m b e in any_between_at (λ c. rows c t) a b s.tick (omega (arith, h, s.from)) s.below s.passes)

pub some_row-first : (rows : ℕ → ℕ → Bool) (a b t : ℕ) → a < b → some_row rows a b t ≡ (rows a t || some_row rows (a + 1) b t)
some_row-first rows a b t h = ap (list_any (λ c. rows c t)) (between-first a b h)

-- one row more is joined
pub some_row-joined : (rows : ℕ → ℕ → Bool) (from number to t : ℕ) (ticks whole : Bool) → from ≤ number → number < to → HaveNone rows from number →
    (ticks || some_row rows from to t) ≡ whole → ((ticks || rows number t) || some_row rows (number + 1) to t) ≡ whole
some_row-joined rows from number to t ticks whole h k none before =
    or_grouped ticks (rows number t) (some_row rows (number + 1) to t)
    ∙ ap (λ b. ticks || b) (sym (some_row-first rows number to t k) ∙ sym (some_row-skip rows from number to t h none))
    ∙ before

pub some_row-all : (rows : ℕ → ℕ → Bool) (from to t : ℕ) (ticks whole : Bool) → HaveNone rows from to →
    (ticks || some_row rows from to t) ≡ whole → ticks ≡ whole
some_row-all rows from to t ticks whole none before =
    is_or_false ticks ∙ ap (λ b. ticks || b) (sym (some_row-none rows from to t none)) ∙ before

-- a row more is in the list of rows
pub some_row-pushed : {X : Type 0} (has : X → Bool) (xs ys : List X) (row : X) (rows : ℕ → ℕ → Bool) (from number to t : ℕ) (whole : Bool) →
    ys ≡ xs ++ row ∷ [] → has row ≡ rows number t → from ≤ number → number < to → HaveNone rows from number →
    (list_any has xs || some_row rows from to t) ≡ whole → (list_any has ys || some_row rows (number + 1) to t) ≡ whole
some_row-pushed has xs ys row rows from number to t whole pushed is h k none before =
    ap (λ b. b || some_row rows (number + 1) to t)
    (ap (λ zs. list_any has zs) pushed ∙ list_any-append has xs (row ∷ []) ∙ ap (λ b. list_any has xs || b) (sym (is_or_false (has row)) ∙ is))
    ∙ some_row-joined rows from number to t (list_any has xs) whole h k none before

-- a first row alone, and one with those from the next row on
pub some_row-alone : (rows : ℕ → ℕ → Bool) (first to t : ℕ) → first < to → HaveNone rows (first + 1) to → rows first t ≡ some_row rows first to t
some_row-alone rows first to t k none = some_row-all rows (first + 1) to t (rows first t) _ none (sym (some_row-first rows first to t k))

pub some_row-begun : {X : Type 0} (has : X → Bool) (ys : List X) (row : X) (rows : ℕ → ℕ → Bool) (first second to t : ℕ) →
    ys ≡ row ∷ [] → has row ≡ rows first t → first < to → first + 1 ≤ second → HaveNone rows (first + 1) second →
    (list_any has ys || some_row rows second to t) ≡ some_row rows first to t
some_row-begun has ys row rows first second to t begun is k h none =
    ap (λ b. b || some_row rows second to t) (ap (λ zs. list_any has zs) begun ∙ sym (is_or_false (has row)) ∙ is)
    ∙ ap (λ b. rows first t || b) (sym (some_row-skip rows (first + 1) second to t h none)) ∙ sym (some_row-first rows first to t k)

-- a row without the tick is passed over
pub some_row-over : (rows : ℕ → ℕ → Bool) (from number to t : ℕ) (whole : Bool) → from ≤ number → number < to → HaveNone rows from number → rows number t ≡ false →
    some_row rows from to t ≡ whole → some_row rows (number + 1) to t ≡ whole
some_row-over rows from number to t whole h k none empty before =
    ap (λ b. b || some_row rows (number + 1) to t) (sym empty)
    ∙ sym (some_row-first rows number to t k) ∙ sym (some_row-skip rows from number to t h none) ∙ before

pub some_row-here : (rows : ℕ → ℕ → Bool) (from number to t : ℕ) (whole : Bool) → from ≤ number → number < to → rows number t ≡ true →
    some_row rows from to t ≡ whole → whole ≡ true
some_row-here rows from number to t whole h k here before = sym before ∙ any_between_at (λ c. rows c t) from to number h k here

-- ---- lists of what there is
cons_is : {X : Type 0} (o : Option X) (rest : List X) → cons_option o rest ≡ option_to_list o ++ rest
cons_is None rest = refl
cons_is (Some x) rest = refl

pub lines-first : {X : Type 0} (f : ℕ → Option X) (a n : ℕ) → a < n → lines_between f a n ≡ option_to_list (f a) ++ lines_between f (a + 1) n
unfolding lines_between
lines-first f a n h = ap (filter_map f) (between-first a n h) ∙ cons_is (f a) (filter_map f (between (a + 1) n))

pub lines-none : {X : Type 0} (f : ℕ → Option X) (a n : ℕ) → n ≤ a → lines_between f a n ≡ []
unfolding lines_between
lines-none f a n h = ap (filter_map f) (between-none a n h)

pub lines-skip : {X : Type 0} (f : ℕ → Option X) (d a g n : ℕ) → g ≡ a + d → g ≤ n → ((k : ℕ) → a ≤ k → k < g → f k ≡ None) → lines_between f a n ≡ lines_between f g n
lines-skip f zero a g n e h none = let s : a ≡ g = omega (arith, e) in ap (λ k. lines_between f k n) s
lines-skip f (suc d) a g n e h none =
    lines-first f a n (omega (arith, e, h))
    ∙ ap (λ o. option_to_list o ++ lines_between f (a + 1) n) (none a (omega arith) (omega (arith, e)))
    ∙ lines-skip f d (a + 1) g n (omega (arith, e)) h (λ k l m. none k (omega (arith, l)) m)

-- the lines so far, with what there is of one number more
pub lines-more : {X : Type 0} (f : ℕ → Option X) (lines : List X) (line : Option X) (a g n : ℕ) (whole : List X) → a ≤ g → g < n →
    ((k : ℕ) → a ≤ k → k < g → f k ≡ None) → option_to_list line ≡ option_to_list (f g) →
    lines ++ lines_between f a n ≡ whole → (lines ++ option_to_list line) ++ lines_between f (g + 1) n ≡ whole
lines-more f lines line a g n whole h k none is before =
    append_assoc lines (option_to_list line) (lines_between f (g + 1) n)
    ∙ ap (λ xs. lines ++ (xs ++ lines_between f (g + 1) n)) is
    ∙ ap (λ xs. lines ++ xs) (sym (lines-first f g n k) ∙ sym (lines-skip f (g - a) a g n (omega (arith, h)) (omega (arith, k)) none))
    ∙ before

append-none : {X : Type 0} (xs : List X) → xs ++ [] ≡ xs
append-none [] = refl
append-none (x ∷ xs) = ap (λ ys. x ∷ ys) (append-none xs)

pub lines-end : {X : Type 0} (f : ℕ → Option X) (lines : List X) (a n : ℕ) (whole : List X) → a ≤ n → ((k : ℕ) → a ≤ k → k < n → f k ≡ None) →
    lines ++ lines_between f a n ≡ whole → lines ≡ whole
lines-end f lines a n whole h none before =
    sym (append-none lines) ∙ ap (λ xs. lines ++ xs) (sym (lines-skip f (n - a) a n n (omega (arith, h)) (omega arith) none ∙ lines-none f n n (omega arith))) ∙ before

-- ---- what there is of a target
filter-none : (p : ℕ → Bool) (xs : List ℕ) → ((t : ℕ) → p t ≡ false) → filter p xs ≡ []
filter-none p [] none = refl
filter-none p (x ∷ xs) none = ap (λ b. if b then x ∷ filter p xs else filter p xs) (none x) ∙ filter-none p xs none

pub listed-none : (p : ℕ → Bool) (from e : ℕ) → ((t : ℕ) → p t ≡ false) → listed p from e ≡ []
unfolding listed
listed-none p from e none = filter-none p (between from (e + 1)) none

pub line-none : (target_has : ℕ → ℕ → Bool) (from e k : ℕ) → ((t : ℕ) → target_has k t ≡ false) → line_of target_has from e k ≡ None
line-none target_has from e k none = ap (λ xs. with_runs k (runs_of xs)) (listed-none (target_has k) from e none)

-- the targets before that of the first row have no ticks
pub times-none : (rows : ℕ → ℕ → Bool) (width a k first t : ℕ) → HaveNone rows (a * width) first → a ≤ k → k * width + width ≤ first →
    target_has rows width k t ≡ false
times-none rows width a k first t none h l =
    some_row-none rows (k * width) (k * width + width) t
    (λ c u m n. none c u (omega (arith, m, mul-le a width k width h (omega arith))) (omega (arith, n, l)))

-- the numbers of the target of a number
pub target-below : (first width count : ℕ) → 1 ≤ width → first < count * width → first / width < count
target-below first width count some h = div_below first width count some h

pub target-upto : (k first width : ℕ) → k < first / width → k * width + width ≤ first
target-upto k first width h =
    let s : k * width + width ≤ first / width * width = row_fits k width (first / width) width h (omega arith) in
    omega (arith, s, div-add-mod' first width)

pub target-from : (first width : ℕ) → first / width * width ≤ first
target-from first width = omega (arith, div-add-mod' first width)

pub target-end : (first width : ℕ) → 1 ≤ width → first < first / width * width + width
target-end first width some = omega (arith, div-add-mod' first width, mod_below first width some)

pub target-fits : (first width count : ℕ) → 1 ≤ width → first < count * width → first / width * width + width ≤ count * width
target-fits first width count some h = row_fits (first / width) width count width (target-below first width count some h) (omega arith)

-- a first row from target a on has a target from a on
pub target-after : (a first width : ℕ) → 1 ≤ width → a * width ≤ first → a ≤ first / width
target-after a first width some h = le-div a first width some h

pub target-whole : (k width count : ℕ) → k < count → k * width + width ≤ count * width
target-whole k width count h = row_fits k width count width h (omega arith)
