-- A query of one variable, which is of the class of the object that is written.
use Rattle.std.proofs.Common.{◌≡◌, ℕ, zero, suc, true, false, ◌+◌, ◌<◌, ◌≤◌, [], ◌∷◌, length, sym, ap, ◌∙◌, subst, inl, inr, arith, if◌then◌else◌}
use Rattle.std.specs.Prelude.{◌==◌, slice_index, sum_by}
use Rattle.std.proofs.lemmas.Bool.{false≢true, or_cases}
use Rattle.std.proofs.lemmas.List.Sums.{sum_by-cons}
use Rattle.tick_set.specs.Ticks.{between}
use Rattle.history.specs.Catalog.{Catalog, ids_of as ids_of_class}
use Rattle.formula.specs.Tree.{ResolvedQuery}
use Rattle.meaning.specs.Reads.{change_reads, made_single, query_reads, sizes_of}
use Rattle.object_store.specs.Contents.{Contents, catalog_of}
use Rattle.relation.specs.Frames.{domain_size}
use Rattle.relation.specs.Key.{has_id, ids_of_variable}
use Rattle.answers.specs.Objects.{AreOfItsClasses}
use Rattle.answers.proofs.ObjectLemmas.{no_domain}
use Rattle.live_queries.specs.Asked.{class_in}
use Rattle.live_queries.proofs.PartLemmas.{object_of_its_class}
use Rattle.answers.proofs.ReadLemmas.{IsMore, more_of_query}
use Rattle.exact.proofs.Naturals.{equals_itself, same_from_equal}

-- the object is one of the variable's class
pub one_of_class : (s : Contents) (q : ResolvedQuery) (class id : ℕ) → class ≡ class_in s id → q.classes ≡ class ∷ [] → id < length s.objects →
    AreOfItsClasses (catalog_of s) q ((id ∷ []) ∷ [])
one_of_class s q class id its alone there = record {
  many = sym (ap length alone);
  each = λ v object below has. each v object (subst (λ (n : ℕ). v < n) (ap length alone) below) has;
}
  where
    each : (v object : ℕ) → v < 1 → has_id (ids_of_variable ((id ∷ []) ∷ []) v) object ≡ true → has_id (ids_of_class (catalog_of s) (slice_index q.classes v)) object ≡ true
    each zero object below has = elim (or_cases (id == object) false has) [
      | inl here ↦
          ap (has_id (ids_of_class (catalog_of s) (slice_index q.classes 0))) (sym (same_from_equal id object here))
          ∙ ap (λ k. has_id (ids_of_class (catalog_of s) k) id) (ap (λ ks. slice_index ks 0) alone ∙ its)
          ∙ object_of_its_class s id there
      | inr never ↦ absurd (false≢true never)
    ]
    each (suc v) object below has = absurd (omega (arith, below))

one_size : (sizes : ℕ → ℕ) (id : ℕ) → IsMore (domain_size ((id ∷ []) ∷ [])) (made_single sizes (0 ∷ []))
one_size sizes id zero = omega arith
one_size sizes id (suc v) =
    let none : length (ids_of_variable ((id ∷ []) ∷ []) (suc v)) ≡ 0 = ap length (no_domain ((id ∷ []) ∷ []) (suc v) (omega arith)) in
    omega (arith, none)

sum_of_first : (f : ℕ → ℕ) → sum_by f (between 0 1) ≡ f 0 + 0
unfolding between
sum_of_first f = sum_by-cons f 0 []

-- its looks at timelines are within those of a change
pub one_within : (c : Catalog) (q : ResolvedQuery) (ticks class id : ℕ) → q.classes ≡ class ∷ [] →
    query_reads (domain_size ((id ∷ []) ∷ [])) ticks q ≤ change_reads c q ticks class
one_within c q ticks class id alone =
    let few : query_reads (domain_size ((id ∷ []) ∷ [])) ticks q ≤ query_reads (made_single (sizes_of c q) (0 ∷ [])) ticks q =
    more_of_query ticks ticks (omega arith) q (domain_size ((id ∷ []) ∷ [])) (made_single (sizes_of c q) (0 ∷ [])) (one_size (sizes_of c q) id) in
    let all : change_reads c q ticks class ≡ looks_of 0 + 0 =
    ap (λ n. sum_by looks_of (between 0 n)) (ap length alone) ∙ sum_of_first looks_of in
    let same : looks_of 0 ≡ query_reads (made_single (sizes_of c q) (0 ∷ [])) ticks q =
    ap (λ b. if b then query_reads (made_single (sizes_of c q) (0 ∷ [])) ticks q else 0) (ap (λ ks. slice_index ks 0 == class) alone ∙ equals_itself class) in
    omega (arith, few, all, same)
  where
    looks_of : ℕ → ℕ
    looks_of v = if slice_index q.classes v == class then query_reads (made_single (sizes_of c q) (v ∷ [])) ticks q else 0
