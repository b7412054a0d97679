-- How many looks at timelines the parts of a query take in which one variable is one object alone.
use Rattle.std.proofs.Common.{◌≡◌, ℕ, ◌+◌, ◌-◌, ◌<◌, ◌≤◌, Bool, true, false, ◌||◌, List, [], ◌∷◌, length, refl, sym, ap, ◌∙◌, subst, inl, inr, arith, if◌then◌else◌}
use Rattle.std.specs.Prelude.{◌==◌, slice_index, sum_by}
use Rattle.std.specs.List.{flat_map, range_with_len}
use Rattle.std.proofs.lemmas.Bool.{cases_lt}
use Rattle.std.proofs.lemmas.List.{get_or-map, length-map}
use Rattle.std.proofs.lemmas.List.FromFn.{get_or-range_with_len, length-range_with_len}
use Rattle.std.proofs.lemmas.List.Sums.{sum_by-append, sum_by-cons, sum_by-le-sum_by}
use Rattle.tick_set.specs.Ticks.{between}
use Rattle.history.specs.Catalog.{Catalog, ids_of as ids_of_class}
use Rattle.formula.specs.Tree.{ResolvedQuery}
use Rattle.meaning.specs.Reads.{change_reads, made_single, query_reads, sizes_of}
use Rattle.relation.specs.Frames.{domain_size}
use Rattle.relation.specs.Key.{ids_of_variable}
use Rattle.answers.proofs.ObjectLemmas.{no_domain}
use Rattle.answers.proofs.ReadLemmas.{IsMore, more_of_query}
use Rattle.live_queries.specs.declared.parts.Single.{Single}
use Rattle.live_queries.specs.Prepared.{is_of_class}
use Rattle.live_queries.specs.Written.{domains_for, ids_for, single_for}
use Rattle.live_queries.proofs.PartLemmas.{class_of_variable}

module _ (ticks many : ℕ) (upto : ticks ≤ many) where
  -- over more ticks as many looks or more
  pub more_in_all : (q : ResolvedQuery) (size : ℕ → ℕ) → query_reads size ticks q ≤ query_reads size many q
  more_in_all q size = more_of_query ticks many upto q size size (λ v. omega arith)

  pub more_of_change : (c : Catalog) (q : ResolvedQuery) (class : ℕ) → change_reads c q ticks class ≤ change_reads c q many class
  more_of_change c q class =
      sum_by-le-sum_by (λ v. if slice_index q.classes v == class then query_reads (made_single (sizes_of c q) (v ∷ [])) ticks q else 0)
      (λ v. if slice_index q.classes v == class then query_reads (made_single (sizes_of c q) (v ∷ [])) many q else 0)
      (between 0 (length q.classes)) one
    where
      one : (v : ℕ) → (if slice_index q.classes v == class then query_reads (made_single (sizes_of c q) (v ∷ [])) ticks q else 0)
          ≤ (if slice_index q.classes v == class then query_reads (made_single (sizes_of c q) (v ∷ [])) many q else 0)
      one v = elim (slice_index q.classes v == class) as (λ b. (if b then query_reads (made_single (sizes_of c q) (v ∷ [])) ticks q else 0)
          ≤ (if b then query_reads (made_single (sizes_of c q) (v ∷ [])) many q else 0)) [
            | true ↦ more_in_all q (made_single (sizes_of c q) (v ∷ []))
            | false ↦ omega arith
          ]

-- ---- the domains of a part

domains_length : (c : Catalog) (classes : List ℕ) (id v : ℕ) → length (domains_for c classes id v) ≡ length classes
unfolding between
domains_length c classes id v =
    length-map (between 0 (length classes)) (ids_for c classes id v)
    ∙ length-range_with_len 0 (length classes - 0) ∙ (let e : length classes - 0 ≡ length classes = omega arith in e)

pub domain_of_variable : (c : Catalog) (classes : List ℕ) (id v u : ℕ) → u < length classes →
    ids_of_variable (domains_for c classes id v) u ≡ ids_for c classes id v u
unfolding between
domain_of_variable c classes id v u below =
    get_or-map (ids_for c classes id v) (between 0 (length classes)) u 0 []
    (let e : length (range_with_len 0 (length classes - 0)) ≡ length classes - 0 = length-range_with_len 0 (length classes - 0) in omega (arith, e, below))
    ∙ ap (ids_for c classes id v)
    (get_or-range_with_len 0 (length classes - 0) u 0 (omega (arith, below)) ∙ (let e : 0 + u ≡ u = omega arith in e))

pub as_many_domains : (c : Catalog) (classes : List ℕ) (id v : ℕ) → length (domains_for c classes id v) ≡ length classes
as_many_domains = domains_length

single_sizes : (c : Catalog) (q : ResolvedQuery) (id v : ℕ) → IsMore (domain_size (domains_for c q.classes id v)) (made_single (sizes_of c q) (v ∷ []))
single_sizes c q id v u =
    elim (cases_lt u (length q.classes)) [
      | inl within ↦
          let same : length (ids_of_variable (domains_for c q.classes id v) u) ≡ length (ids_for c q.classes id v u) =
          ap length (domain_of_variable c q.classes id v u within) in
          subst (λ (n : ℕ). n ≤ made_single (sizes_of c q) (v ∷ []) u) (sym same) (one (v == u))
      | inr past ↦
          let many : length (domains_for c q.classes id v) ≡ length q.classes = domains_length c q.classes id v in
          let none : length (ids_of_variable (domains_for c q.classes id v) u) ≡ 0 = ap length (no_domain (domains_for c q.classes id v) u (omega (arith, past, many))) in
          omega (arith, none)
    ]
  where
    one : (b : Bool) → length (if b then id ∷ [] else ids_of_class c (slice_index q.classes u)) ≤ (if b || false then 1 else sizes_of c q u)
    one true = omega arith
    one false = omega arith

-- ---- the parts of a query

one_part : (c : Catalog) (q : ResolvedQuery) (ticks class id v : ℕ) →
    sum_by (λ s. query_reads (domain_size s.domains) ticks q) (single_for c q.classes class id v)
    ≤ (if slice_index q.classes v == class then query_reads (made_single (sizes_of c q) (v ∷ [])) ticks q else 0)
one_part c q ticks class id v = either (is_of_class q.classes class v) refl
  where
    single : Single
    single = record { variable = v; domains = domains_for c q.classes id v }

    either : (b : Bool) → is_of_class q.classes class v ≡ b →
        sum_by (λ s. query_reads (domain_size s.domains) ticks q) (if b then (single ∷ []) else [])
        ≤ (if slice_index q.classes v == class then query_reads (made_single (sizes_of c q) (v ∷ [])) ticks q else 0)
    either false e = omega arith
    either true e =
        let few : query_reads (domain_size (domains_for c q.classes id v)) ticks q ≤ query_reads (made_single (sizes_of c q) (v ∷ [])) ticks q =
        more_of_query ticks ticks (omega arith) q (domain_size (domains_for c q.classes id v)) (made_single (sizes_of c q) (v ∷ [])) (single_sizes c q id v) in
        let alone : sum_by (λ (s : Single). query_reads (domain_size s.domains) ticks q) (single ∷ []) ≡ query_reads (domain_size (domains_for c q.classes id v)) ticks q + 0 =
        sum_by-cons (λ (s : Single). query_reads (domain_size s.domains) ticks q) single [] in
        subst (λ (b : Bool). sum_by (λ (s : Single). query_reads (domain_size s.domains) ticks q) (single ∷ [])
        ≤ (if b then query_reads (made_single (sizes_of c q) (v ∷ [])) ticks q else 0)) (sym (class_of_variable q.classes class v e)) (omega (arith, few, alone))

sum_of_each : (f : Single → ℕ) (g : ℕ → List Single) (vs : List ℕ) → sum_by f (flat_map g vs) ≡ sum_by (λ v. sum_by f (g v)) vs
sum_of_each f g [] = refl
sum_of_each f g (v ∷ vs) =
    sum_by-append f (g v) (flat_map g vs) ∙ ap (λ n. sum_by f (g v) + n) (sum_of_each f g vs)
    ∙ sym (sum_by-cons (λ u. sum_by f (g u)) v vs)

pub parts_within : (c : Catalog) (q : ResolvedQuery) (ticks class id : ℕ) (singles : List Single) →
    singles ≡ flat_map (single_for c q.classes class id) (between 0 (length q.classes)) →
    sum_by (λ s. query_reads (domain_size s.domains) ticks q) singles ≤ change_reads c q ticks class
parts_within c q ticks class id singles are =
    subst (λ (n : ℕ). n ≤ change_reads c q ticks class)
    (sym (ap (sum_by (λ s. query_reads (domain_size s.domains) ticks q)) are
    ∙ sum_of_each (λ s. query_reads (domain_size s.domains) ticks q) (single_for c q.classes class id) (between 0 (length q.classes))))
    (sum_by-le-sum_by (λ v. sum_by (λ s. query_reads (domain_size s.domains) ticks q) (single_for c q.classes class id v))
    (λ v. if slice_index q.classes v == class then query_reads (made_single (sizes_of c q) (v ∷ [])) ticks q else 0)
    (between 0 (length q.classes)) (λ v. one_part c q ticks class id v))

pub most_over : (size : ℕ → ℕ) (q : ResolvedQuery) (old now lo entry hi : ℕ) → entry ≤ lo → now ≤ old + query_reads size (hi + 1 - lo) q →
    now ≤ old + query_reads size (hi + 1 - entry) q
most_over size q old now lo entry hi later most =
    let more : query_reads size (hi + 1 - lo) q ≤ query_reads size (hi + 1 - entry) q = more_in_all (hi + 1 - lo) (hi + 1 - entry) (omega (arith, later)) q size in
    omega (arith, most, more)
