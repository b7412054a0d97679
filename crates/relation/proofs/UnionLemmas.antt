-- For this crate and for the crates above: the variables of two lists.
use Rattle.std.proofs.Common.{◌≡◌, ℕ, suc, ◌+◌, ◌<◌, ◌≤◌, Bool, true, false, not, ◌&&◌, ◌||◌, ◌==◌, nat_lt, List, [], ◌∷◌, if◌then◌else◌, length, get_or, refl, sym, ap, ◌∙◌, subst, inl, inr, arith}
use Rattle.std.specs.List.{filter, list_all}
use Rattle.std.specs.List.Sorted.{IsStrictlyIncreasing}
use Rattle.std.proofs.lemmas.Bool.{and_from, and_parts, cases_Bool, cases_order, eq-eqb, eqb-false, eqb-true, false≢true, lt-ltb, ltb-true, not-true, not_from_false, or_cases, or_from, or_left, or_parts, or_right}
use Rattle.std.proofs.lemmas.List.{map-id}
use Rattle.formula_shape.specs.declared.limits.TheConstants.{OBJECT_LIMIT}
use Rattle.formula.specs.Variables.{variables_in}
use Rattle.relation.specs.Frames.{vars_of_both}
use Rattle.formula.specs.Resolved.{are_distinct}
use Rattle.relation.specs.Key.{are_known, has_id}
use Rattle.relation.specs.Walk.{covers}
use Rattle.relation.proofs.RowLemmas.{all_at}
use Rattle.relation.proofs.SearchLemmas.{has_id-at}
use Rattle.exact.proofs.Items.{all_from_at}

pub covers_nothing : (vars : List ℕ) → covers vars [] ≡ true
covers_nothing [] = refl
covers_nothing (v ∷ vars) = refl

pub covers_itself : (vars : List ℕ) → covers vars vars ≡ true
covers_itself [] = refl
covers_itself (v ∷ vars) =
    ap (λ (b : Bool). if b then covers vars vars else covers vars (v ∷ vars)) (eq-eqb v v refl) ∙ covers_itself vars

-- a list that ascends from a number on
abbrev pub IsFrom : ℕ → List ℕ → Type 0
IsFrom n [] = Unit {0}
IsFrom n (u ∷ us) = (n ≤ u) × IsFrom (u + 1) us

pub from_rising : (n : ℕ) (us : List ℕ) → IsStrictlyIncreasing us → (0 < length us → n ≤ get_or us 0 0) → IsFrom n us
from_rising n [] up first = tt
from_rising n (u ∷ us) up first = (first (omega arith), from_rising (u + 1) us later next)
  where
    later : IsStrictlyIncreasing us
    later = λ k l. subst (λ (m : ℕ). get_or us k 0 < get_or (u ∷ us) m 0) (let e : suc k + 1 ≡ suc (k + 1) = omega arith in e) (up (suc k) (omega arith))

    next : 0 < length us → u + 1 ≤ get_or us 0 0
    next l = let h : u < get_or (u ∷ us) (0 + 1) 0 = up 0 (omega arith) in omega (arith, h)

-- each member passes a test and is below the limit
abbrev passes : (ℕ → Bool) → List ℕ → Bool
passes test us = list_all (λ u. test u && nat_lt u 4) us

covers_step : (test : ℕ → Bool) (c : ℕ) (cs us : List ℕ) → IsFrom c us → passes test us ≡ true →
    ((later : List ℕ) → IsFrom (c + 1) later → passes test later ≡ true → covers (filter test cs) later ≡ true) → covers (filter test (c ∷ cs)) us ≡ true
covers_step test c cs [] from pass rest = covers_nothing (filter test (c ∷ cs))
covers_step test c cs (u ∷ us) from pass rest =
    elim (cases_Bool (u == c)) [ inl e ↦ same e | inr e ↦ other e ]
  where
    parts : ((test u && nat_lt u 4) ≡ true) × (passes test us ≡ true)
    parts = and_parts _ _ pass

    same : (u == c) ≡ true → covers (filter test (c ∷ cs)) (u ∷ us) ≡ true
    same e =
        let is : u ≡ c = eqb-true u c e in
        let holds : test c ≡ true = subst (λ (z : ℕ). test z ≡ true) is (and_parts _ _ parts.0).0 in
        ap (λ (b : Bool). covers (if b then c ∷ filter test cs else filter test cs) (u ∷ us)) holds
        ∙ ap (λ (b : Bool). if b then covers (filter test cs) us else covers (filter test cs) (u ∷ us)) e
        ∙ rest us (subst (λ (z : ℕ). IsFrom (z + 1) us) is from.1) parts.1

    other : (u == c) ≡ false → covers (filter test (c ∷ cs)) (u ∷ us) ≡ true
    other e =
        let above : c + 1 ≤ u = higher u c e from.0 in
        let then' = rest (u ∷ us) (above, from.1) pass in
        elim (cases_Bool (test c)) [
          | inl holds ↦
              ap (λ (b : Bool). covers (if b then c ∷ filter test cs else filter test cs) (u ∷ us)) holds
              ∙ ap (λ (b : Bool). if b then covers (filter test cs) us else covers (filter test cs) (u ∷ us)) e
              ∙ then'
          | inr fails ↦ ap (λ (b : Bool). covers (if b then c ∷ filter test cs else filter test cs) (u ∷ us)) fails ∙ then'
        ]
      where
        higher : (u c : ℕ) → (u == c) ≡ false → c ≤ u → c + 1 ≤ u
        higher u c e l = elim (cases_order u c) [ inl s ↦ absurd (eqb-false u c e s) | inr o ↦ elim o [ inl lt ↦ absurd (omega (arith, lt, l)) | inr gt ↦ omega (arith, gt) ] ]

covers_end : (test : ℕ → Bool) (us : List ℕ) → IsFrom 4 us → passes test us ≡ true → covers [] us ≡ true
covers_end test [] from pass = refl
covers_end test (u ∷ us) from pass =
    let below : u < 4 = ltb-true u 4 (and_parts _ _ (and_parts _ _ pass).0).1 in
    absurd (omega (arith, below, from.0))

covers_all : (test : ℕ → Bool) (us : List ℕ) → IsFrom 0 us → passes test us ≡ true → covers (variables_in test) us ≡ true
covers_all test us from pass =
    covers_step test 0 (1 ∷ 2 ∷ 3 ∷ []) us from pass
    (λ us1 f1 p1. covers_step test 1 (2 ∷ 3 ∷ []) us1 f1 p1
    (λ us2 f2 p2. covers_step test 2 (3 ∷ []) us2 f2 p2
    (λ us3 f3 p3. covers_step test 3 [] us3 f3 p3
    (λ us4 f4 p4. covers_end test us4 f4 p4))))

pub among_itself : (us : List ℕ) (k d : ℕ) → k < length us → has_id us (get_or us k d) ≡ true
among_itself us k d l = ap (λ (z : List ℕ). has_id z (get_or us k d)) (sym (map-id us)) ∙ has_id-at (λ x. x) us k d l

pass_all : (test : ℕ → Bool) (domains : List (List ℕ)) (us : List ℕ) → length domains ≤ 4 → are_known domains us ≡ true → ((u : ℕ) → has_id us u ≡ true → test u ≡ true) → passes test us ≡ true
pass_all test domains us few known in_test =
    all_from_at (λ u. test u && nat_lt u 4) us
    (λ k d l. and_from _ _ (in_test (get_or us k d) (among_itself us k d l)) (below k d l))
  where
    below : (k d : ℕ) → k < length us → nat_lt (get_or us k d) 4 ≡ true
    below k d l = let b : get_or us k d < length domains = ltb-true _ _ (all_at (λ v. nat_lt v (length domains)) us k d l known) in lt-ltb _ _ (omega (arith, b, few))

pub union_covers_left : (domains : List (List ℕ)) (us vs : List ℕ) → length domains ≤ 4 → are_known domains us ≡ true → IsStrictlyIncreasing us → covers (vars_of_both us vs) us ≡ true
union_covers_left domains us vs few known up =
    covers_all (λ v. has_id us v || has_id vs v) us (from_rising 0 us up (λ l. omega arith)) (pass_all (λ v. has_id us v || has_id vs v) domains us few known (λ u h. or_left _ _ h))

pub union_covers_right : (domains : List (List ℕ)) (us vs : List ℕ) → length domains ≤ 4 → are_known domains vs ≡ true → IsStrictlyIncreasing vs → covers (vars_of_both us vs) vs ≡ true
union_covers_right domains us vs few known up =
    covers_all (λ v. has_id us v || has_id vs v) vs (from_rising 0 vs up (λ l. omega arith)) (pass_all (λ v. has_id us v || has_id vs v) domains vs few known (λ u h. or_right _ _ h))

-- what is kept of a list is no longer, and has no member twice where the list has none
few_kept : (test : ℕ → Bool) (xs : List ℕ) → length (filter test xs) ≤ length xs
few_kept test [] = omega arith
few_kept test (x ∷ xs) =
    let later : length (filter test xs) ≤ length xs = few_kept test xs in
    elim (test x) as (λ b. length (if b then x ∷ filter test xs else filter test xs) ≤ suc (length xs)) [ true ↦ omega (arith, later) | false ↦ omega (arith, later) ]

pub few_in_union : (us vs : List ℕ) → length (vars_of_both us vs) ≤ OBJECT_LIMIT
few_in_union us vs = few_kept (λ v. has_id us v || has_id vs v) (0 ∷ 1 ∷ 2 ∷ 3 ∷ [])

not_kept : (test : ℕ → Bool) (xs : List ℕ) (y : ℕ) → has_id xs y ≡ false → has_id (filter test xs) y ≡ false
not_kept test [] y h = refl
not_kept test (x ∷ xs) y h =
    let parts : ((x == y) ≡ false) × (has_id xs y ≡ false) = or_parts _ _ h in
    elim (test x) as (λ b. has_id (if b then x ∷ filter test xs else filter test xs) y ≡ false) [
      | true ↦ or_from _ _ parts.0 (not_kept test xs y parts.1)
      | false ↦ not_kept test xs y parts.1
    ]

pub distinct_kept : (test : ℕ → Bool) (xs : List ℕ) → are_distinct xs ≡ true → are_distinct (filter test xs) ≡ true
distinct_kept test [] h = refl
distinct_kept test (x ∷ xs) h =
    let parts : (not (has_id xs x) ≡ true) × (are_distinct xs ≡ true) = and_parts _ _ h in
    elim (test x) as (λ b. are_distinct (if b then x ∷ filter test xs else filter test xs) ≡ true) [
      | true ↦ and_from _ _ (not_from_false _ (not_kept test xs x (not-true _ parts.0))) (distinct_kept test xs parts.1)
      | false ↦ distinct_kept test xs parts.1
    ]

pub distinct_union : (us vs : List ℕ) → are_distinct (vars_of_both us vs) ≡ true
distinct_union us vs = distinct_kept (λ v. has_id us v || has_id vs v) (0 ∷ 1 ∷ 2 ∷ 3 ∷ []) refl

-- each member that is kept passes what the test implies
all_kept : (test p : ℕ → Bool) (xs : List ℕ) → ((x : ℕ) → test x ≡ true → p x ≡ true) → list_all p (filter test xs) ≡ true
all_kept test p [] f = refl
all_kept test p (x ∷ xs) f =
    elim (cases_Bool (test x)) [
      | inl e ↦ ap (λ (b : Bool). list_all p (if b then x ∷ filter test xs else filter test xs)) e ∙ and_from _ _ (f x e) (all_kept test p xs f)
      | inr e ↦ ap (λ (b : Bool). list_all p (if b then x ∷ filter test xs else filter test xs)) e ∙ all_kept test p xs f
    ]

of_member : (p : ℕ → Bool) (us : List ℕ) (x : ℕ) → list_all p us ≡ true → has_id us x ≡ true → p x ≡ true
of_member p [] x h e = absurd (false≢true e)
of_member p (u ∷ us) x h e =
    let parts : (p u ≡ true) × (list_all p us ≡ true) = and_parts _ _ h in
    elim (or_cases _ _ e) [
      | inl here ↦ subst (λ (z : ℕ). p z ≡ true) (eqb-true u x here) parts.0
      | inr later ↦ of_member p us x parts.1 later
    ]

pub known_union : (domains : List (List ℕ)) (us vs : List ℕ) → are_known domains us ≡ true → are_known domains vs ≡ true → are_known domains (vars_of_both us vs) ≡ true
known_union domains us vs left right =
    all_kept (λ v. has_id us v || has_id vs v) (λ v. nat_lt v (length domains)) (0 ∷ 1 ∷ 2 ∷ 3 ∷ [])
    (λ x e. elim (or_cases _ _ e) [ inl l ↦ of_member (λ v. nat_lt v (length domains)) us x left l | inr r ↦ of_member (λ v. nat_lt v (length domains)) vs x right r ])
