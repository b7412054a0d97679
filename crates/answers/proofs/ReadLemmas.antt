-- For this crate and for the crates above: where each variable has more objects, or there are more ticks, a query may
-- take more looks.
use Rattle.std.proofs.Common.{◌≡◌, ℕ, ◌+◌, ◌*◌, ◌≤◌, true, false, List, [], ◌∷◌, length, map, sym, ap, subst, inl, inr, arith, add-le-add, if◌then◌else◌}
use Rattle.std.specs.Prelude.{◌==◌, slice_index}
use Rattle.std.specs.List.{list_any}
use Rattle.std.proofs.Math.Nat.{mul-le-mul, mul-le-mul_right}
use Rattle.std.proofs.lemmas.Bool.{cases_lt}
use Rattle.std.proofs.lemmas.List.Sums.{sum_by-le-sum_by}
use Rattle.tick_set.specs.Ticks.{between}
use Rattle.history.specs.Catalog.{Catalog, ids_of as ids_of_class}
use Rattle.formula_shape.specs.Shape as shapes
use Rattle.formula.specs.Tree.{ResolvedQuery, ResolvedTree}
use Rattle.meaning.specs.Reads.{atom_variables, choices, made_single, query_reads, reads, sizes_of, term_variables}
use Rattle.relation.specs.Frames.{domain_size}
use Rattle.relation.specs.Key.{ids_of_variable}
use Rattle.answers.proofs.ObjectLemmas.{domain_at, no_domain}
use Rattle.std.proofs.lemmas.List.{length-map}

abbrev pub IsMore : (ℕ → ℕ) → (ℕ → ℕ) → Type 0
IsMore size more = (v : ℕ) → size v ≤ more v

more_choices : (size more : ℕ → ℕ) → IsMore size more → (vs : List ℕ) → choices size vs ≤ choices more vs
more_choices size more is [] = omega arith
more_choices size more is (v ∷ vs) = mul-le-mul (is v) (more_choices size more is vs)

more_singles : (size more : ℕ → ℕ) → IsMore size more → (vs : List ℕ) → IsMore (made_single size vs) (made_single more vs)
more_singles size more is vs v =
    elim (list_any (λ u. u == v) vs) as (λ b. (if b then 1 else size v) ≤ (if b then 1 else more v)) [
      | true ↦ omega arith
      | false ↦ is v
    ]

-- over as many ticks or more
module _ (ticks many : ℕ) (upto : ticks ≤ many) where
  more_reads : (f : ResolvedTree) (size more : ℕ → ℕ) → IsMore size more → reads size ticks f ≤ reads more many f
  more_reads (shapes.Truth b) size more is = omega arith
  more_reads (shapes.Atom a) size more is = mul-le-mul_right (length (atom_variables a)) (more_choices size more is (atom_variables a))
  more_reads (shapes.Not f) size more is = more_reads f size more is
  more_reads (shapes.And f g) size more is = add-le-add (more_reads f size more is) (more_reads g size more is)
  more_reads (shapes.Or f g) size more is = add-le-add (more_reads f size more is) (more_reads g size more is)
  more_reads (shapes.Next f) size more is = more_reads f size more is
  more_reads (shapes.Eventually f) size more is = more_reads f size more is
  more_reads (shapes.Always f) size more is = more_reads f size more is
  more_reads (shapes.Bounded form c f) size more is = more_reads f size more is
  more_reads (shapes.Until form c f g) size more is = add-le-add (more_reads f size more is) (more_reads g size more is)
  more_reads (shapes.Assign (d, q) f) size more is =
      let vs = term_variables q in
      let part : reads (made_single size vs) ticks f ≤ reads (made_single more vs) many f = more_reads f (made_single size vs) (made_single more vs) (more_singles size more is vs) in
      let each : ticks * reads (made_single size vs) ticks f ≤ many * reads (made_single more vs) many f = mul-le-mul upto part in
      let both : length vs + ticks * reads (made_single size vs) ticks f ≤ length vs + many * reads (made_single more vs) many f = omega (arith, each) in
      mul-le-mul (more_choices size more is vs) both

  pub more_of_query : (q : ResolvedQuery) (size more : ℕ → ℕ) → IsMore size more → query_reads size ticks q ≤ query_reads more many q
  more_of_query q size more is =
      add-le-add (more_reads q.formula size more is) (sum_by-le-sum_by size more (between 0 (length q.classes)) is)

sizes_within : (c : Catalog) (q : ResolvedQuery) → IsMore (domain_size (map (ids_of_class c) q.classes)) (sizes_of c q)
sizes_within c q v =
    elim (cases_lt v (length q.classes)) [
      | inl within ↦
          let same : length (ids_of_variable (map (ids_of_class c) q.classes) v) ≡ length (ids_of_class c (slice_index q.classes v)) = ap length (domain_at (ids_of_class c) q.classes v within) in
          omega (arith, same)
      | inr past ↦
          let many : length (map (ids_of_class c) q.classes) ≡ length q.classes = length-map q.classes (ids_of_class c) in
          let none : length (ids_of_variable (map (ids_of_class c) q.classes) v) ≡ 0 = ap length (no_domain (map (ids_of_class c) q.classes) v (omega (arith, past, many))) in
          omega (arith, none)
    ]

-- the looks over all objects of the classes are within those that a query may take
pub reads_within : (c : Catalog) (q : ResolvedQuery) (domains : List (List ℕ)) (ticks : ℕ) → domains ≡ map (ids_of_class c) q.classes →
    query_reads (domain_size domains) ticks q ≤ query_reads (sizes_of c q) ticks q
reads_within c q domains ticks is =
    subst (λ (d : List (List ℕ)). query_reads (domain_size d) ticks q ≤ query_reads (sizes_of c q) ticks q) (sym is)
    (more_of_query ticks ticks (omega arith) q (domain_size (map (ids_of_class c) q.classes)) (sizes_of c q) (sizes_within c q))

pub most_within : (old now few more : ℕ) → now ≤ old + few → few ≤ more → now ≤ old + more
most_within old now few more most within = omega (arith, most, within)
