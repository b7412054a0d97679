-- For this crate and for the crates above: of some elements in an order, those that enough kept ones stand before may be left out.
use Rattle.std.proofs.Common.{◌≡◌, ℕ, ◌+◌, ◌<◌, ◌≤◌, Bool, true, false, nat_lt, ◌||◌, cond, List, [], ◌∷◌, ◌⊎◌, inl, inr, refl, sym, ap, ◌∙◌, arith}
use Rattle.std.specs.Prelude.{All, count_by, if◌then◌else◌}
use Rattle.std.specs.List.{filter, list_any}
use Rattle.std.proofs.lemmas.Bool.{cases_Bool, cases_lt}
use Rattle.std.proofs.lemmas.Bool.Decides.{nat_tests}
use Rattle.std.proofs.lemmas.List.Elements.{All-head, All-tail, All-weaker}
use Rattle.std.proofs.lemmas.List.Sums.{sum_by-cons}

-- ---- one element

abbrev one_if : Bool → ℕ
one_if b = cond b 1 0

kept_once : (its b : Bool) → cond its (one_if b) 0 ≤ one_if b
kept_once true b = omega arith
kept_once false b = omega arith

kept_surely : (its b : Bool) → (its ≡ false → b ≡ false) → cond its (one_if b) 0 ≡ one_if b
kept_surely true b out = refl
kept_surely false b out = sym (ap one_if (out refl))

counted_once : (f keep g : Bool) → (f ≡ true → (keep ≡ true) × (g ≡ true)) → one_if f ≤ cond keep (one_if g) 0
counted_once true keep g is = let both : cond keep (one_if g) 0 ≡ one_if true = λ i. cond ((is refl).0 i) (one_if ((is refl).1 i)) 0 in omega (arith, both)
counted_once false keep g is = omega arith

more_once : (f g : Bool) → (f ≡ true → g ≡ true) → one_if f ≤ one_if g
more_once true g is = let same : one_if g ≡ one_if true = ap one_if (is refl) in omega (arith, same)
more_once false g is = omega arith

-- ---- counts over some elements

count-cons : {A : Type 0} (f : A → Bool) (x : A) (xs : List A) → count_by f (x ∷ xs) ≡ one_if (f x) + count_by f xs
count-cons f x xs = sum_by-cons (λ y. one_if (f y)) x xs

count-step : {A : Type 0} (f : A → Bool) (x : A) (rest : List A) (its : Bool) →
    count_by f (if its then (x ∷ rest) else rest) ≡ cond its (one_if (f x)) 0 + count_by f rest
count-step f x rest true = count-cons f x rest
count-step f x rest false = omega arith

pub fewer_kept : {A : Type 0} (f keep : A → Bool) (xs : List A) → count_by f (filter keep xs) ≤ count_by f xs
fewer_kept f keep [] = omega arith
fewer_kept f keep (x ∷ xs) =
    let rest = fewer_kept f keep xs in
    let whole = count-cons f x xs in
    let part = count-step f x (filter keep xs) (keep x) in
    let once = kept_once (keep x) (f x) in
    omega (arith, rest, whole, part, once)

-- those that are left out don't count
pub same_count : {A : Type 0} (f keep : A → Bool) (xs : List A) → All (λ x. keep x ≡ false → f x ≡ false) xs → count_by f (filter keep xs) ≡ count_by f xs
same_count f keep [] out = refl
same_count {A} f keep (x ∷ xs) out =
    let P : A → Type 0 = λ y. keep y ≡ false → f y ≡ false in
    let rest = same_count f keep xs (All-tail P x xs out) in
    let whole = count-cons f x xs in
    let part = count-step f x (filter keep xs) (keep x) in
    let once = kept_surely (keep x) (f x) (All-head P x xs out) in
    omega (arith, rest, whole, part, once)

-- those that pass one test are kept, and pass another one
pub counted_among_kept : {A : Type 0} (f keep g : A → Bool) (xs : List A) → All (λ x. f x ≡ true → (keep x ≡ true) × (g x ≡ true)) xs →
    count_by f xs ≤ count_by g (filter keep xs)
counted_among_kept f keep g [] are = omega arith
counted_among_kept {A} f keep g (x ∷ xs) are =
    let P : A → Type 0 = λ y. f y ≡ true → (keep y ≡ true) × (g y ≡ true) in
    let rest = counted_among_kept f keep g xs (All-tail P x xs are) in
    let whole = count-cons f x xs in
    let part = count-step g x (filter keep xs) (keep x) in
    let once = counted_once (f x) (keep x) (g x) (All-head P x xs are) in
    omega (arith, rest, whole, part, once)

more_pass : {A : Type 0} (f g : A → Bool) (xs : List A) → ((x : A) → f x ≡ true → g x ≡ true) → count_by f xs ≤ count_by g xs
more_pass f g [] are = omega arith
more_pass f g (x ∷ xs) are =
    let rest = more_pass f g xs are in
    let first = count-cons f x xs in
    let second = count-cons g x xs in
    let once = more_once (f x) (g x) (are x) in
    omega (arith, rest, first, second, once)

-- ---- some element that passes

any-step : {A : Type 0} (g : A → Bool) (x : A) (rest : List A) (its : Bool) → (its ≡ false → g x ≡ false) →
    list_any g (if its then (x ∷ rest) else rest) ≡ (g x || list_any g rest)
any-step g x rest true out = refl
any-step g x rest false out = sym (ap (λ b. b || list_any g rest) (out refl))

pub any_kept : {A : Type 0} (g keep : A → Bool) (xs : List A) → All (λ x. keep x ≡ false → g x ≡ false) xs → list_any g (filter keep xs) ≡ list_any g xs
any_kept g keep [] out = refl
any_kept {A} g keep (x ∷ xs) out =
    let P : A → Type 0 = λ y. keep y ≡ false → g y ≡ false in
    any-step g x (filter keep xs) (keep x) (All-head P x xs out)
    ∙ ap (λ b. g x || b) (any_kept g keep xs (All-tail P x xs out))

-- ---- the elements before one

none_before : {A : Type 0} (before : A → A → Bool) (passes : (p q o : A) → before p q ≡ true → before q o ≡ true → before p o ≡ true)
    (few : List A) (k : ℕ) (o x : A) → count_by (λ p. before p o) few < k →
    ((other : A) → before x other ≡ false) ⊎ (k ≤ count_by (λ p. before p x) few) → before x o ≡ false
none_before before passes few k o x less (inl never) = never o
none_before before passes few k o x less (inr many) =
    elim (cases_Bool (before x o)) [
      | inl stands ↦
          let more = more_pass (λ p. before p x) (λ p. before p o) few (λ p first. passes p x o first stands) in
          absurd (omega (arith, more, many, less))
      | inr stands ↦ stands
    ]

-- whether fewer than k stand before one can be told by those that are kept
pub few_by_kept : {A : Type 0} (before : A → A → Bool) (passes : (p q o : A) → before p q ≡ true → before q o ≡ true → before p o ≡ true)
    (xs : List A) (keep : A → Bool) (k : ℕ) →
    All (λ x. keep x ≡ false → ((other : A) → before x other ≡ false) ⊎ (k ≤ count_by (λ p. before p x) (filter keep xs))) xs →
    (o : A) → nat_lt (count_by (λ p. before p o) xs) k ≡ nat_lt (count_by (λ p. before p o) (filter keep xs)) k
few_by_kept {A} before passes xs keep k out o =
    elim (cases_lt (count_by (λ p. before p o) (filter keep xs)) k) [
      | inl less ↦
          ap (λ n. nat_lt n k)
          (sym (same_count (λ p. before p o) keep xs
          (All-weaker (λ (x : A). keep x ≡ false → ((other : A) → before x other ≡ false) ⊎ (k ≤ count_by (λ p. before p x) (filter keep xs)))
          (λ (x : A). keep x ≡ false → before x o ≡ false)
          (λ x is left. none_before before passes (filter keep xs) k o x less (is left)) xs out)))
      | inr many ↦ let fewer = fewer_kept (λ p. before p o) keep xs in grind (arith, nat_tests)
    ]
