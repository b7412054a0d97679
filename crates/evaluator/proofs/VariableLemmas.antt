-- The variables that pass a test.
use Rattle.std.proofs.Common.{◌≡◌, ℕ, zero, suc, ◌+◌, ◌<◌, ◌≤◌, Bool, true, false, ◌&&◌, ◌||◌, ◌==◌, nat_lt, if◌then◌else◌, List, [], ◌∷◌, length, get_or, refl, sym, ap, ◌∙◌, subst, inl, inr, arith}
use Rattle.std.specs.List.{filter, list_all}
use Rattle.std.specs.List.Sorted.{IsStrictlyIncreasing}
use Rattle.std.proofs.lemmas.Bool.{and_from, and_parts, cases_Bool, eq-eqb, eqb-true, lt-ltb, ltb-true, or_cases, or_left}
use Rattle.std.proofs.lemmas.List.Kept.{IsStrictlyIncreasing-filter}
use Rattle.formula.specs.Variables.{variables_in}
use Rattle.formula.proofs.CallerLemmas.{variables_same}
use Rattle.relation.specs.Frames.{vars_of_both}
use Rattle.formula.specs.Resolved.{are_distinct}
use Rattle.relation.specs.Key.{are_known, has_id}
use Rattle.relation.proofs.UnionLemmas.{distinct_union, few_in_union}
use Rattle.exact.proofs.Truths.{or_second}

-- a variable of these has a domain
pub known_one : (domains : List (List ℕ)) (vars : List ℕ) (v : ℕ) → are_known domains vars ≡ true → has_id vars v ≡ true → v < length domains
known_one domains [] v known here = absurd (let e : false ≡ true = here in cc)
known_one domains (u ∷ vars) v known here =
    let parts : (nat_lt u (length domains) ≡ true) × (are_known domains vars ≡ true) = and_parts _ _ known in
    elim (or_cases _ _ here) [
      | inl e ↦ subst (λ (w : ℕ). w < length domains) (let same : u ≡ v = eqb-true u v e in same) (ltb-true _ _ parts.0)
      | inr e ↦ known_one domains vars v parts.1 e
    ]

-- what is kept of a list
kept_same : (a h c d : Bool) → a ≡ true → d ≡ c → (if d then a || (h && c) else h && c) ≡ ((a || h) && c)
kept_same true h true true e s = refl
kept_same true true false true e s = absurd (let f : true ≡ false = s in cc)
kept_same true false false true e s = absurd (let f : true ≡ false = s in cc)
kept_same true h true false e s = absurd (let f : false ≡ true = s in cc)
kept_same true true false false e s = refl
kept_same true false false false e s = refl
kept_same false h c d e s = absurd (let f : false ≡ true = e in cc)

kept_other : (a h c d : Bool) → a ≡ false → (if d then a || (h && c) else h && c) ≡ ((a || h) && c)
kept_other false h c true e = refl
kept_other false h c false e = refl
kept_other true h c d e = absurd (let f : true ≡ false = e in cc)

kept_first : (c : Bool) (x v : ℕ) (xs : List ℕ) → has_id (if c then x ∷ xs else xs) v ≡ (if c then (x == v) || has_id xs v else has_id xs v)
kept_first true x v xs = refl
kept_first false x v xs = refl

has_kept : (p : ℕ → Bool) (xs : List ℕ) (v : ℕ) → has_id (filter p xs) v ≡ (has_id xs v && p v)
has_kept p [] v = refl
has_kept p (x ∷ xs) v =
    kept_first (p x) x v (filter p xs)
    ∙ ap (λ (z : Bool). if p x then (x == v) || z else z) (has_kept p xs v)
    ∙ elim (cases_Bool (x == v)) [
      | inl e ↦ kept_same (x == v) (has_id xs v) (p v) (p x) e (ap p (let same : x ≡ v = eqb-true x v e in same))
      | inr e ↦ kept_other (x == v) (has_id xs v) (p v) (p x) e
    ]

four_has : (v : ℕ) → v < 4 → has_id (0 ∷ 1 ∷ 2 ∷ 3 ∷ []) v ≡ true
four_has zero l = refl
four_has (suc zero) l = refl
four_has (suc (suc zero)) l = refl
four_has (suc (suc (suc zero))) l = refl
four_has (suc (suc (suc (suc v)))) l = absurd (omega (arith, l))

pub has_variables : (p : ℕ → Bool) (v : ℕ) → v < 4 → has_id (variables_in p) v ≡ p v
has_variables p v l = has_kept p (0 ∷ 1 ∷ 2 ∷ 3 ∷ []) v ∙ ap (λ (z : Bool). z && p v) (four_has v l)

pub passes_of_variables : (p : ℕ → Bool) (v : ℕ) → has_id (variables_in p) v ≡ true → p v ≡ true
passes_of_variables p v h = right (has_id (0 ∷ 1 ∷ 2 ∷ 3 ∷ []) v) (p v) (sym (has_kept p (0 ∷ 1 ∷ 2 ∷ 3 ∷ []) v) ∙ h)
  where
    right : (x y : Bool) → (x && y) ≡ true → y ≡ true
    right true y e = e
    right false y e = absurd (let f : false ≡ true = e in cc)

-- the variables of two tests together
pub both_variables : (p q : ℕ → Bool) → vars_of_both (variables_in p) (variables_in q) ≡ variables_in (λ v. p v || q v)
both_variables p q =
    variables_same _ _ (λ v l. ap (λ (z : Bool). z || has_id (variables_in q) v) (has_variables p v l) ∙ ap (λ (z : Bool). p v || z) (has_variables q v l))

or_same : (x : Bool) → (x || x) ≡ x
or_same true = refl
or_same false = refl

pub same_variables_twice : (p : ℕ → Bool) → vars_of_both (variables_in p) (variables_in p) ≡ variables_in p
same_variables_twice p = both_variables p p ∙ variables_same _ _ (λ v l. or_same (p v))

pub few_variables : (p : ℕ → Bool) → length (variables_in p) ≤ 4
few_variables p = subst (λ (vs : List ℕ). length vs ≤ 4) (same_variables_twice p) (few_in_union (variables_in p) (variables_in p))

pub distinct_variables : (p : ℕ → Bool) → are_distinct (variables_in p) ≡ true
distinct_variables p = ap are_distinct (sym (same_variables_twice p)) ∙ distinct_union (variables_in p) (variables_in p)

pub ascending_variables : (p : ℕ → Bool) → IsStrictlyIncreasing (variables_in p)
ascending_variables p = IsStrictlyIncreasing-filter p (0 ∷ 1 ∷ 2 ∷ 3 ∷ []) rise
  where
    rise : (k : ℕ) → k + 1 < 4 → get_or (0 ∷ 1 ∷ 2 ∷ 3 ∷ []) k 0 < get_or (0 ∷ 1 ∷ 2 ∷ 3 ∷ []) (k + 1) 0
    rise zero l = let e : 0 < 1 = omega arith in e
    rise (suc zero) l = let e : 1 < 2 = omega arith in e
    rise (suc (suc zero)) l = let e : 2 < 3 = omega arith in e
    rise (suc (suc (suc k))) l = absurd (omega (arith, l))

all_kept : (test p : ℕ → Bool) (xs : List ℕ) → ((x : ℕ) → has_id xs x ≡ true → test x ≡ true → p x ≡ true) → list_all p (filter test xs) ≡ true
all_kept test p [] f = refl
all_kept test p (x ∷ xs) f =
    let later : list_all p (filter test xs) ≡ true = all_kept test p xs (λ y h. f y (or_second (x == y) (has_id xs y) h)) in
    elim (cases_Bool (test x)) [
      | inl e ↦ ap (λ (b : Bool). list_all p (if b then x ∷ filter test xs else filter test xs)) e ∙ and_from _ _ (f x (or_left _ _ (eq-eqb x x refl)) e) later
      | inr e ↦ ap (λ (b : Bool). list_all p (if b then x ∷ filter test xs else filter test xs)) e ∙ later
    ]

below_four : (x : ℕ) → has_id (0 ∷ 1 ∷ 2 ∷ 3 ∷ []) x ≡ true → x < 4
below_four x h =
    elim (or_cases _ _ h) [
      | inl a ↦ (let e : 0 ≡ x = eqb-true 0 x a in omega (arith, e))
      | inr h1 ↦ elim (or_cases _ _ h1) [
        | inl a ↦ (let e : 1 ≡ x = eqb-true 1 x a in omega (arith, e))
        | inr h2 ↦ elim (or_cases _ _ h2) [
          | inl a ↦ (let e : 2 ≡ x = eqb-true 2 x a in omega (arith, e))
          | inr h3 ↦ elim (or_cases _ _ h3) [
            | inl a ↦ (let e : 3 ≡ x = eqb-true 3 x a in omega (arith, e))
            | inr h4 ↦ absurd (let f : false ≡ true = h4 in cc)
          ]
        ]
      ]
    ]

pub known_variables : (domains : List (List ℕ)) (p : ℕ → Bool) → ((v : ℕ) → v < 4 → p v ≡ true → v < length domains) → are_known domains (variables_in p) ≡ true
known_variables domains p f = all_kept p (λ v. nat_lt v (length domains)) (0 ∷ 1 ∷ 2 ∷ 3 ∷ []) (λ x h e. lt-ltb _ _ (f x (below_four x h) e))
