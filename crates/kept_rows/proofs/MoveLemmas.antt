-- What changes of a target: the rows that changed, and the others.
use Rattle.std.proofs.Common.{◌≡◌, ℕ, zero, suc, ◌+◌, ◌*◌, ◌<◌, ◌≤◌, Bool, true, false, not, ◌&&◌, ◌||◌, eqb, Option, None, Some, List, [], ◌∷◌, ◌++◌, length, map, get_or, take, drop, refl, ap, subst, sym, ◌∙◌, inl, inr, arith, if◌then◌else◌}
use Rattle.std.specs.Prelude.{All, IfNone, is_some, slice_get, unwrap_or}
use Rattle.std.specs.List.{list_any}
use Rattle.std.proofs.lemmas.Bool.{and_from, and_parts, both_ways, cases_Bool, eq-eqb, eqb-true, ne_eqb, not_from_false, or_cases, or_left, or_parts, or_right}
use Rattle.std.proofs.lemmas.List.Folds.{list_any-append}
use Rattle.std.proofs.lemmas.List.Elements.{All-cons, All-head, All-more, All-nil, All-tail}
use Rattle.tick_set.specs.Runs.{runs_of}
use Rattle.tick_set.specs.Ticks.{between, within}
use Rattle.tick_set.proofs.Between.{any_between_at, any_between_found}
use Rattle.kept_rows.specs.declared.change.Change.{Change}
use Rattle.kept_rows.specs.Changes.{rows_after, with_row}
use Rattle.kept_rows.specs.Listing.{HaveNone, some_row, target_has}
use Rattle.kept_rows.specs.Moves.{Moved, difference, if_moved, is_in, move_between, others}
use Rattle.kept_rows.specs.Rising.{AscendsWithin}
use Rattle.kept_rows.specs.declared.slots.Slots.{Slots}
use Rattle.kept_rows.specs.Slots.{AreIn, HaveNoneAt}
use Rattle.kept_rows.proofs.NextLemmas.{get-below}
use Rattle.kept_rows.proofs.ListingLemmas.{listed-none, some_row-first, some_row-none, some_row-skip}
use Rattle.exact.proofs.Truths.{and_not, is_or_false, same_truth}

abbrev numbers : {S : Type 0} → List (Change S) → List ℕ
numbers xs = map (λ x. x.number) xs

-- ---- rows after changes, at one number
-- rows that are alike there are alike there after the changes
pub after-at : {S : Type 0} (member : S → ℕ → Bool) (xs : List (Change S)) (p q : ℕ → ℕ → Bool) (c t : ℕ) → p c t ≡ q c t →
    rows_after member xs p c t ≡ rows_after member xs q c t
after-at member [] p q c t e = e
after-at member (x ∷ xs) p q c t e =
    after-at member xs (with_row member x p) (with_row member x q) c t (ap (λ b. if eqb c x.number then member x.ticks t else b) e)

one-other : {S : Type 0} (member : S → ℕ → Bool) (x : Change S) (p : ℕ → ℕ → Bool) (c t : ℕ) → eqb c x.number ≡ false → with_row member x p c t ≡ p c t
one-other member x p c t e = ap (λ b. if b then member x.ticks t else p c t) e

-- no change is of it
pub after-other : {S : Type 0} (member : S → ℕ → Bool) (xs : List (Change S)) (p : ℕ → ℕ → Bool) (c t : ℕ) → is_in xs c ≡ false → rows_after member xs p c t ≡ p c t
after-other member [] p c t e = refl
after-other member (x ∷ xs) p c t e =
    let parts = or_parts (eqb x.number c) (is_in xs c) e in
    after-other member xs (with_row member x p) c t parts.1
    ∙ one-other member x p c t (ne_eqb c x.number (λ f. both_ways (eqb x.number c) parts.0 (eq-eqb x.number c (sym f))))

-- the numbers of all changes are above it
pub not-in : {S : Type 0} (f to c : ℕ) (xs : List (Change S)) → AscendsWithin f to (numbers xs) → c < f → is_in xs c ≡ false
not-in f to c [] r h = refl
not-in f to c (x ∷ xs) r h =
    ap (λ b. b || is_in xs c) (ne_eqb x.number c (λ e. omega (arith, e, h, r.0))) ∙ not-in (x.number + 1) to c xs r.2 (omega (arith, h, r.0))

pub after-below : {S : Type 0} (member : S → ℕ → Bool) (xs : List (Change S)) (p : ℕ → ℕ → Bool) (f to c t : ℕ) → AscendsWithin f to (numbers xs) → c < f →
    rows_after member xs p c t ≡ p c t
after-below member xs p f to c t r h = after-other member xs p c t (not-in f to c xs r h)

-- ---- the first changes and the later ones
pub after-take : {S : Type 0} (member : S → ℕ → Bool) (n : ℕ) (xs : List (Change S)) (p : ℕ → ℕ → Bool) (f top to c t : ℕ) →
    AscendsWithin f top (numbers xs) → All (λ (x : Change S). to ≤ x.number) (drop n xs) → c < to → rows_after member xs p c t ≡ rows_after member (take n xs) p c t
after-take member zero xs p f top to c t r past h = after-other member xs p c t (past-in xs past)
  where
    past-in : {S : Type 0} (ys : List (Change S)) → All (λ (x : Change S). to ≤ x.number) ys → is_in ys c ≡ false
    past-in [] a = refl
    past-in {S} (y ∷ ys) a =
        let here : to ≤ y.number = All-head (λ (x : Change S). to ≤ x.number) y ys a in
        ap (λ b. b || is_in ys c) (ne_eqb y.number c (λ e. omega (arith, e, h, here))) ∙ past-in ys (All-tail (λ (x : Change S). to ≤ x.number) y ys a)
after-take member (suc n) [] p f top to c t r past h = refl
after-take member (suc n) (x ∷ xs) p f top to c t r past h = after-take member n xs (with_row member x p) (x.number + 1) top to c t r.2 past h

pub after-drop : {S : Type 0} (member : S → ℕ → Bool) (n : ℕ) (xs : List (Change S)) (p : ℕ → ℕ → Bool) (to c t : ℕ) →
    All (λ (x : Change S). x.number < to) (take n xs) → to ≤ c → rows_after member xs p c t ≡ rows_after member (drop n xs) p c t
after-drop member zero xs p to c t below h = refl
after-drop member (suc n) [] p to c t below h = refl
after-drop {S} member (suc n) (x ∷ xs) p to c t below h =
    let here : x.number < to = All-head (λ (y : Change S). y.number < to) x (take n xs) below in
    after-drop member n xs (with_row member x p) to c t (All-tail (λ (y : Change S). y.number < to) x (take n xs) below) h
    ∙ after-at member (drop n xs) (with_row member x p) p c t (one-other member x p c t (ne_eqb c x.number (λ e. omega (arith, e, h, here))))

pub rising-take : {S : Type 0} (n f top to : ℕ) (xs : List (Change S)) → AscendsWithin f top (numbers xs) → All (λ (x : Change S). x.number < to) (take n xs) →
    AscendsWithin f to (numbers (take n xs))
rising-take zero f top to xs r below = tt
rising-take (suc n) f top to [] r below = tt
rising-take {S} (suc n) f top to (x ∷ xs) r below =
    (r.0, All-head (λ (y : Change S). y.number < to) x (take n xs) below, rising-take n (x.number + 1) top to xs r.2 (All-tail (λ (y : Change S). y.number < to) x (take n xs) below))

pub rising-drop : {S : Type 0} (n f top to : ℕ) (xs : List (Change S)) → AscendsWithin f top (numbers xs) → All (λ (x : Change S). to ≤ x.number) (drop n xs) →
    AscendsWithin to top (numbers (drop n xs))
rising-drop zero f top to [] r past = tt
rising-drop {S} zero f top to (x ∷ xs) r past = (All-head (λ (y : Change S). to ≤ y.number) x xs past, r.1, r.2)
rising-drop (suc n) f top to [] r past = tt
rising-drop (suc n) f top to (x ∷ xs) r past = rising-drop n (x.number + 1) top to xs r.2 past

-- from a change on, all numbers are past it
all-above : {S : Type 0} (f top to : ℕ) (xs : List (Change S)) → AscendsWithin f top (numbers xs) → to ≤ f → All (λ (y : Change S). to ≤ y.number) xs
all-above {S} f top to [] r h = All-nil (λ (y : Change S). to ≤ y.number)
all-above {S} f top to (x ∷ xs) r h =
    All-cons (λ (y : Change S). to ≤ y.number) x xs (omega (arith, h, r.0)) (all-above (x.number + 1) top to xs r.2 (omega (arith, h, r.0)))

pub past-from : {S : Type 0} (n f top to : ℕ) (xs : List (Change S)) (x : Change S) → AscendsWithin f top (numbers xs) → slice_get xs n ≡ Some x → to ≤ x.number →
    All (λ (y : Change S). to ≤ y.number) (drop n xs)
past-from {S} zero f top to [] x r is h = All-nil (λ (y : Change S). to ≤ y.number)
past-from {S} (suc n) f top to [] x r is h = All-nil (λ (y : Change S). to ≤ y.number)
past-from {S} zero f top to (y ∷ ys) x r is h =
    let same : y ≡ x = ap (λ o. unwrap_or o y) is in
    let here : to ≤ y.number = subst (λ (z : Change S). to ≤ z.number) (sym same) h in
    All-cons (λ (z : Change S). to ≤ z.number) y ys here (all-above (y.number + 1) top to ys r.2 (omega (arith, here)))
past-from (suc n) f top to (y ∷ ys) x r is h = past-from n (y.number + 1) top to ys x r.2 is h

pub past-end : {S : Type 0} (n to : ℕ) (xs : List (Change S)) → length xs ≤ n → All (λ (y : Change S). to ≤ y.number) (drop n xs)
past-end {S} zero to [] h = All-nil (λ (y : Change S). to ≤ y.number)
past-end {S} (suc n) to [] h = All-nil (λ (y : Change S). to ≤ y.number)
past-end zero to (y ∷ ys) h = absurd (omega (arith, h))
past-end (suc n) to (y ∷ ys) h = past-end n to ys (omega (arith, h))

-- ---- the rows of a target: those that changed, and the others
in-any : {S : Type 0} (f : ℕ → Bool) (xs : List (Change S)) (c : ℕ) → is_in xs c ≡ true → f c ≡ true → list_any (λ x. f x.number) xs ≡ true
in-any f [] c h e = absurd (both_ways false refl h)
in-any f (x ∷ xs) c h e =
    elim (or_cases (eqb x.number c) (is_in xs c) h) [
      | inl here ↦ or_left (f x.number) (list_any (λ y. f y.number) xs) (ap f (eqb-true x.number c here) ∙ e)
      | inr later ↦ or_right (f x.number) (list_any (λ y. f y.number) xs) (in-any f xs c later e)
    ]

any-found : {S : Type 0} (f : ℕ → Bool) (from least to : ℕ) (xs : List (Change S)) → from ≤ least → AscendsWithin least to (numbers xs) → list_any (λ x. f x.number) xs ≡ true →
    list_any f (between from to) ≡ true
any-found f from least to [] k r h = absurd (both_ways false refl h)
any-found f from least to (x ∷ xs) k r h =
    elim (or_cases (f x.number) (list_any (λ y. f y.number) xs) h) [
      | inl here ↦ any_between_at f from to x.number (omega (arith, k, r.0)) r.1 here
      | inr later ↦ any-found f from (x.number + 1) to xs (omega (arith, k, r.0)) r.2 later
    ]

pub any-parts : {S : Type 0} (f : ℕ → Bool) (from to : ℕ) (xs : List (Change S)) → AscendsWithin from to (numbers xs) →
    list_any f (between from to) ≡ (list_any (λ x. f x.number) xs || list_any (λ c. f c && not (is_in xs c)) (between from to))
any-parts f from to xs r =
    let changed : Bool = list_any (λ x. f x.number) xs in
    let left : Bool = list_any (λ c. f c && not (is_in xs c)) (between from to) in
    same_truth (list_any f (between from to)) (changed || left)
    (λ e.
    let s = any_between_found f from to e in
    elim (cases_Bool (is_in xs s.tick)) [
      | inl here ↦ or_left changed left (in-any f xs s.tick here s.passes)
      | inr other ↦
          or_right changed left
          (any_between_at (λ c. f c && not (is_in xs c)) from to s.tick s.from s.below
          (and_from (f s.tick) (not (is_in xs s.tick)) s.passes (not_from_false (is_in xs s.tick) other)))
    ])
    (λ e.
    elim (or_cases changed left e) [
      | inl here ↦ any-found f from from to xs (omega arith) r here
      | inr other ↦
          let s = any_between_found (λ c. f c && not (is_in xs c)) from to other in
          any_between_at f from to s.tick s.from s.below (and_parts (f s.tick) (not (is_in xs s.tick)) s.passes).0
    ])

-- the row of a changed number is that of the change
pub any-anew : {S : Type 0} (member : S → ℕ → Bool) (xs : List (Change S)) (p : ℕ → ℕ → Bool) (from to t : ℕ) → AscendsWithin from to (numbers xs) →
    list_any (λ x. rows_after member xs p x.number t) xs ≡ list_any (λ x. member x.ticks t) xs
any-anew member [] p from to t r = refl
any-anew member (x ∷ xs) p from to t r =
    ap (λ b. b || list_any (λ y. rows_after member xs (with_row member x p) y.number t) xs)
    (after-below member xs (with_row member x p) (x.number + 1) to x.number t r.2 (omega arith)
    ∙ ap (λ b. if b then member x.ticks t else p x.number t) (eq-eqb x.number x.number refl))
    ∙ ap (λ b. member x.ticks t || b) (any-anew member xs (with_row member x p) (x.number + 1) to t r.2)

other-same : {S : Type 0} (member : S → ℕ → Bool) (xs : List (Change S)) (p : ℕ → ℕ → Bool) (c t : ℕ) →
    (rows_after member xs p c t && not (is_in xs c)) ≡ (p c t && not (is_in xs c))
other-same member xs p c t =
    elim (cases_Bool (is_in xs c)) [
      | inl here ↦ ap (λ b. rows_after member xs p c t && not b) here ∙ and-none (rows_after member xs p c t) ∙ sym (ap (λ b. p c t && not b) here ∙ and-none (p c t))
      | inr other ↦ ap (λ b. b && not (is_in xs c)) (after-other member xs p c t other)
    ]
  where
    and-none : (b : Bool) → (b && false) ≡ false
    and-none true = refl
    and-none false = refl

pub rows-before : {S : Type 0} (xs : List (Change S)) (p : ℕ → ℕ → Bool) (from to t : ℕ) → AscendsWithin from to (numbers xs) →
    some_row p from to t ≡ (list_any (λ x. p x.number t) xs || some_row (others xs p) from to t)
rows-before xs p from to t r = any-parts (λ c. p c t) from to xs r

pub rows-after : {S : Type 0} (member : S → ℕ → Bool) (xs : List (Change S)) (p : ℕ → ℕ → Bool) (from to t : ℕ) → AscendsWithin from to (numbers xs) →
    some_row (rows_after member xs p) from to t ≡ (list_any (λ x. member x.ticks t) xs || some_row (others xs p) from to t)
rows-after member xs p from to t r =
    any-parts (λ c. rows_after member xs p c t) from to xs r
    ∙ ap (λ b. b || list_any (λ c. rows_after member xs p c t && not (is_in xs c)) (between from to)) (any-anew member xs p from to t r)
    ∙ (λ i. list_any (λ x. member x.ticks t) xs || list_any (λ c. other-same member xs p c t i) (between from to))

-- what is gained or lost, by the changed rows and the others
pub in-parts : (w u v o : Bool) → ((w && (u && not v)) && not o) ≡ (w && ((u || o) && not (v || o)))
in-parts false u v o = refl
in-parts true false false false = refl
in-parts true false false true = refl
in-parts true false true false = refl
in-parts true false true true = refl
in-parts true true false false = refl
in-parts true true false true = refl
in-parts true true true false = refl
in-parts true true true true = refl

pub changed-ticks : (left clipped : Bool) (w u v o p q : Bool) → left ≡ (clipped && not o) → clipped ≡ (w && (u && not v)) → q ≡ (u || o) → p ≡ (v || o) →
    left ≡ (w && (q && not p))
changed-ticks left clipped w u v o p q is clip of-q of-p =
    is ∙ ap (λ b. b && not o) clip ∙ in-parts w u v o ∙ ap (λ b. w && (b && not (v || o))) (sym of-q) ∙ ap (λ b. w && (q && not b)) (sym of-p)

-- ---- the walk over the others
and-not-or : (g x y : Bool) → ((g && not x) && not y) ≡ (g && not (x || y))
and-not-or false x y = refl
and-not-or true false y = refl
and-not-or true true y = refl

others-none : {S : Type 0} (xs : List (Change S)) (p : ℕ → ℕ → Bool) (a b : ℕ) → HaveNone p a b → HaveNone (others xs p) a b
others-none xs p a b none c t h k = ap (λ b. b && not (is_in xs c)) (none c t h k)

others-step : {S : Type 0} (xs : List (Change S)) (p : ℕ → ℕ → Bool) (at number to t : ℕ) (left new whole : Bool) → at ≤ number → number < to → HaveNone p at number →
    new ≡ (left && not (others xs p number t)) → (left && not (some_row (others xs p) at to t)) ≡ whole →
    (new && not (some_row (others xs p) (number + 1) to t)) ≡ whole
others-step xs p at number to t left new whole h k none is before =
    ap (λ b. b && not (some_row (others xs p) (number + 1) to t)) is
    ∙ and-not-or left (others xs p number t) (some_row (others xs p) (number + 1) to t)
    ∙ ap (λ b. left && not b) (sym (some_row-first (others xs p) number to t k) ∙ sym (some_row-skip (others xs p) at number to t h (others-none xs p at number none)))
    ∙ before

-- the rows that are passed over have no tick that is left
pub others-step-if : {S : Type 0} (xs : List (Change S)) (p : ℕ → ℕ → Bool) (at number to t : ℕ) (left new whole : Bool) → at ≤ number → number < to →
    ((c : ℕ) → at ≤ c → c < number → left ≡ true → p c t ≡ false) →
    new ≡ (left && not (others xs p number t)) → (left && not (some_row (others xs p) at to t)) ≡ whole →
    (new && not (some_row (others xs p) (number + 1) to t)) ≡ whole
others-step-if xs p at number to t false new whole h k none is before = ap (λ b. b && not (some_row (others xs p) (number + 1) to t)) is ∙ before
others-step-if xs p at number to t true new whole h k none is before =
    others-step xs (λ c u. p c t) at number to t true new whole h k (λ c u l m. none c l m refl) is before

others-within : {S : Type 0} (xs : List (Change S)) (p : ℕ → ℕ → Bool) (a b t : ℕ) → some_row (others xs p) a b t ≡ true → some_row p a b t ≡ true
others-within xs p a b t e =
    let s = any_between_found (λ c. others xs p c t) a b e in
    any_between_at (λ c. p c t) a b s.tick s.from s.below (and_parts (p s.tick t) (not (is_in xs s.tick)) s.passes).0

nothing-taken : (g o r : Bool) → (o ≡ true → r ≡ true) → (g && r) ≡ false → g ≡ (g && not o)
nothing-taken false o r up none = refl
nothing-taken true false r up none = refl
nothing-taken true true r up none = absurd (both_ways r none (up refl))

pub others-end : {S : Type 0} (xs : List (Change S)) (p : ℕ → ℕ → Bool) (at to t : ℕ) (left whole : Bool) → (left && some_row p at to t) ≡ false →
    (left && not (some_row (others xs p) at to t)) ≡ whole → left ≡ whole
others-end xs p at to t left whole none before =
    nothing-taken left (some_row (others xs p) at to t) (some_row p at to t) (others-within xs p at to t) none ∙ before

-- where no row has a tick in the slots, none is taken of those that are in them
none-taken : (rows : ℕ → ℕ → Bool) (a b t : ℕ) (left : Bool) → ((c : ℕ) → a ≤ c → c < b → left ≡ true → rows c t ≡ false) → (left && some_row rows a b t) ≡ false
none-taken rows a b t false none = refl
none-taken rows a b t true none = some_row-none (λ c u. rows c t) a b t (λ c u h k. none c h k refl)

pub none-taken-if : (o : Option ℕ) (rows : ℕ → ℕ → Bool) (slots : Slots) (a b : ℕ) (left : ℕ → Bool) → AreIn left slots → IfNone o (HaveNoneAt rows slots a b) →
    IfNone o ((t : ℕ) → (left t && some_row rows a b t) ≡ false)
none-taken-if None rows slots a b left in_slots none = λ t. none-taken rows a b t (left t) (λ c h k e. none c t h k (in_slots t e))
none-taken-if (Some x) rows slots a b left in_slots none = tt

-- ---- one set more
pub any-joined : (ticks x rest whole : Bool) → (ticks || (x || rest)) ≡ whole → ((ticks || x) || rest) ≡ whole
any-joined true x rest whole e = e
any-joined false x rest whole e = e

pub any-ended : {X : Type 0} (has : X → Bool) (xs : List X) (ticks whole : Bool) → length xs ≡ 0 → (ticks || list_any has xs) ≡ whole → ticks ≡ whole
any-ended has [] ticks whole e h = is_or_false ticks ∙ h
any-ended has (x ∷ xs) ticks whole e h = absurd (omega (arith, e))

pub any-pushed : {X : Type 0} (has : X → Bool) (xs ys : List X) (row : X) (x rest whole : Bool) → ys ≡ xs ++ row ∷ [] → has row ≡ x →
    (list_any has xs || (x || rest)) ≡ whole → (list_any has ys || rest) ≡ whole
any-pushed has xs ys row x rest whole pushed is before =
    ap (λ b. b || rest)
    (ap (λ zs. list_any has zs) pushed ∙ list_any-append has xs (row ∷ []) ∙ ap (λ b. list_any has xs || b) (sym (is_or_false (has row)) ∙ is))
    ∙ any-joined (list_any has xs) x rest whole before

-- ---- targets without changes
some_row-alike : (p q : ℕ → ℕ → Bool) (a b t : ℕ) → ((c : ℕ) → a ≤ c → c < b → p c t ≡ q c t) → some_row p a b t ≡ some_row q a b t
some_row-alike p q a b t same =
    same_truth (some_row p a b t) (some_row q a b t)
    (λ e. let s = any_between_found (λ c. p c t) a b e in any_between_at (λ c. q c t) a b s.tick s.from s.below (sym (same s.tick s.from s.below) ∙ s.passes))
    (λ e. let s = any_between_found (λ c. q c t) a b e in any_between_at (λ c. p c t) a b s.tick s.from s.below (same s.tick s.from s.below ∙ s.passes))

pub times-alike : (p q : ℕ → ℕ → Bool) (width target t : ℕ) → ((c : ℕ) → target * width ≤ c → c < target * width + width → p c t ≡ q c t) →
    target_has p width target t ≡ target_has q width target t
times-alike p q width target t same = some_row-alike p q (target * width) (target * width + width) t same

pub unmoved : (p q : ℕ → Bool) (from e now target : ℕ) → ((t : ℕ) → q t ≡ p t) → move_between p q from e now target ≡ None
unmoved p q from e now target same =
    (λ i. move_between p (λ t. same t i) from e now target)
    ∙ ap (λ xs. if_moved (line xs) xs xs) (nothing p from e)
  where
    line : List (ℕ × ℕ) → Moved
    line xs = record { target = target; gained = xs; lost = xs; enters = within from e now && (p now && not (p now)); leaves = within from e now && (p now && not (p now)) }

    nothing : (p : ℕ → Bool) (from e : ℕ) → difference p p from e ≡ []
    nothing p from e = ap runs_of (listed-none (λ t. p t && not (p t)) from e (λ t. and_not (p t)))

-- ---- the first of the changes that are left
pub head-bounds : {S : Type 0} (f top : ℕ) (xs : List (Change S)) (x : Change S) → AscendsWithin f top (numbers xs) → slice_get xs 0 ≡ Some x →
    (f ≤ x.number) × (x.number < top) × AscendsWithin x.number top (numbers xs)
head-bounds f top [] x r e = absurd (both_ways false refl (ap is_some e))
head-bounds {S} f top (y ∷ ys) x r e =
    let same : y ≡ x = ap (λ o. unwrap_or o y) e in (
      subst (λ (z : Change S). f ≤ z.number) same r.0,
      subst (λ (z : Change S). z.number < top) same r.1,
      subst (λ (z : Change S). AscendsWithin z.number top (numbers (y ∷ ys))) same (omega arith, r.1, r.2),
    )

-- the first of them is below `to`, so those past it are not all
pub some-below : {S : Type 0} (n to : ℕ) (xs : List (Change S)) (x : Change S) → slice_get xs 0 ≡ Some x → x.number < to →
    All (λ (y : Change S). to ≤ y.number) (drop n xs) → 1 ≤ n
some-below zero to [] x e h past = absurd (both_ways false refl (ap is_some e))
some-below {S} zero to (y ∷ ys) x e h past =
    let same : y ≡ x = ap (λ o. unwrap_or o y) e in
    let here : to ≤ x.number = subst (λ (z : Change S). to ≤ z.number) same (All-head (λ (z : Change S). to ≤ z.number) y ys past) in
    absurd (omega (arith, h, here))
some-below (suc n) to xs x e h past = omega arith

pub after-none : {S : Type 0} (member : S → ℕ → Bool) (xs : List (Change S)) (p : ℕ → ℕ → Bool) (c t : ℕ) → length xs ≤ 0 → rows_after member xs p c t ≡ p c t
after-none member [] p c t h = refl
after-none member (x ∷ xs) p c t h = absurd (omega (arith, h))

get-is : {S : Type 0} (xs : List (Change S)) (i : ℕ) (x : Change S) → slice_get xs i ≡ Some x → x ≡ get_or xs i x
get-is [] i x e = refl
get-is (y ∷ ys) zero x e = sym (ap (λ o. unwrap_or o y) e)
get-is (y ∷ ys) (suc i) x e = get-is ys i x e

pub below-more : {S : Type 0} (to : ℕ) (xs : List (Change S)) (i : ℕ) (x : Change S) → slice_get xs i ≡ Some x →
    All (λ (y : Change S). y.number < to) (take i xs) → x.number < to → All (λ (y : Change S). y.number < to) (take (i + 1) xs)
below-more {S} to xs i x e below here =
    All-more (λ (y : Change S). y.number < to) xs i x (get-below xs i x e) below (subst (λ (z : Change S). z.number < to) (get-is xs i x e) here)
