-- A query of one variable at one object.
use Rattle.std.proofs.Common.{◌≡◌, ℕ, zero, suc, ◌+◌, ◌-◌, ◌*◌, ◌<◌, Bool, true, false, not, ◌&&◌, ◌==◌, if◌then◌else◌, List, [], ◌∷◌, length, slice_index, refl, sym, ap, ◌∙◌, arith}
use Rattle.std.specs.List.{list_all, list_any, sum_by}
use Rattle.std.proofs.lemmas.Bool.{eq-eqb, or_left, or_right}
use Rattle.tick_set.specs.Ticks.{between, within}
use Rattle.formula_shape.specs.Shape as shapes
use Rattle.formula.specs.declared.tree.RAtom.{RAtom}
use Rattle.formula.specs.declared.tree.RTerm.{RTerm}
use Rattle.formula.specs.declared.value.Env.{Env}
use Rattle.formula.specs.Tree.{ResolvedQuery, ResolvedTree}
use Rattle.formula.specs.Value.{no_values}
use Rattle.formula.specs.Variables.{atom_has, has_variable, term_has}
use Rattle.meaning.specs.Reads.{atom_variables, choices, made_single, reads, term_variables}
use Rattle.meaning.specs.Satisfaction.{Interpretation, sat}
use Rattle.relation.specs.Frames.{domain_size}
use Rattle.relation.specs.Key.{has_id, ids_of_variable}
use Rattle.evaluator.specs.Interpreting.{IsInFor, IsOver}
use Rattle.evaluator.specs.Rows.{is_full, query_reads_upto}
use Rattle.evaluator.specs.inner.ByBinding.{AreTicksOf, reads_here}
use Rattle.evaluator.proofs.ByKeyLemmas.{formula_sees}
use Rattle.evaluator.proofs.FullLemmas.{sum_more, sum_none}
use Rattle.evaluator.proofs.VariableLemmas.{passes_of_variables}

-- ---- the binding

-- what is so of variable 0 is so of each variable
of_first : (P : ℕ → Type 0) → P 0 → (v : ℕ) → v < 1 → P v
of_first P first zero l = first
of_first P first (suc v) l = absurd (omega (arith, l))

pub alone_inside : (id : ℕ) (f : ResolvedTree) → IsOver 1 f → IsInFor ((id ∷ []) ∷ []) (λ v. has_variable v f) (slice_index (id ∷ []))
alone_inside id f over v h =
    of_first (λ (u : ℕ). has_id (ids_of_variable ((id ∷ []) ∷ []) u) (slice_index (id ∷ []) u) ≡ true) (or_left (id == id) false (eq-eqb id id refl)) v (over v h)

-- ---- the ticks

none_of : (m y p : Bool) → m ≡ y → m ≡ false → m ≡ (y && p)
none_of m y p same none = none ∙ sym (ap (λ (z : Bool). z && p) (sym same ∙ none))

where_there : (w s p m a : Bool) → m ≡ (w && s) → a ≡ (w && not p) → (m && not a) ≡ ((w && s) && p)
where_there w s p m a same away = (λ i. same i && not (away i)) ∙ cut_out w s p
  where
    cut_out : (x y z : Bool) → ((x && y) && not (x && not z)) ≡ ((x && y) && z)
    cut_out true true true = refl
    cut_out true true false = refl
    cut_out true false z = refl
    cut_out false y z = refl

but_none : (m a : Bool) → a ≡ false → m ≡ (m && not a)
but_none true a none = sym (ap not none)
but_none false a none = refl

both_in : (w s p : Bool) → ((w && s) && p) ≡ (w && (p && s))
both_in true true true = refl
both_in true true false = refl
both_in true false true = refl
both_in true false false = refl
both_in false s p = refl

only_first : (p : ℕ → Bool) → list_all p (between 0 1) ≡ p 0
unfolding between
only_first p = and_true (p 0)
  where
    and_true : (x : Bool) → (x && true) ≡ x
    and_true true = refl
    and_true false = refl

module _ {S : Type 0} (member : S → ℕ → Bool) (j : (ℕ → ℕ) → Interpretation) (there : ℕ → ℕ → Bool)
    (atoms_see : (b c : ℕ → ℕ) (a : RAtom) → ((v : ℕ) → atom_has v a ≡ true → b v ≡ c v) → (x : Env) (t : ℕ) → (j b).atom a x t ≡ (j c).atom a x t)
    (terms_see : (b c : ℕ → ℕ) (q : RTerm) → ((v : ℕ) → term_has v q ≡ true → b v ≡ c v) → (x : Env) (t : ℕ) → (j b).term q x t ≡ (j c).term q x t)
    (q : ResolvedQuery) (one : length q.classes ≡ 1) (over : IsOver 1 q.formula) (id lo hi : ℕ) where
  -- the ticks at which the query holds with the object for its variable
  abbrev pub AreFull : S → Type 0
  AreFull s = (b : ℕ → ℕ) → b 0 ≡ id → (t : ℕ) → member s t ≡ (within lo hi t && is_full j there q hi b t)

  all_there : (b : ℕ → ℕ) → b 0 ≡ id → (t : ℕ) → list_all (λ v. there (b v) t) (between 0 (length q.classes)) ≡ there id t
  all_there b is t =
      ap (λ (n : ℕ). list_all (λ v. there (b v) t) (between 0 n)) one
      ∙ only_first (λ v. there (b v) t)
      ∙ ap (λ (o : ℕ). there o t) is

  full_is : (b : ℕ → ℕ) → b 0 ≡ id → (t : ℕ) →
      ((within lo hi t && sat (j (slice_index (id ∷ []))) q.formula no_values hi t) && there id t) ≡ (within lo hi t && is_full j there q hi b t)
  full_is b is t =
      both_in (within lo hi t) (sat (j (slice_index (id ∷ []))) q.formula no_values hi t) (there id t)
      ∙ (λ i. within lo hi t && (sym (all_there b is t) i
      && formula_sees j atoms_see terms_see (slice_index (id ∷ [])) b q.formula
      (λ v h. of_first (λ (u : ℕ). slice_index (id ∷ []) u ≡ b u) (sym is) v (over v h)) no_values hi t i))

  module _ (binding : List ℕ) (x : Env) (bound : binding ≡ id ∷ []) (unbound : x ≡ no_values) (ticks : S)
      (told : AreTicksOf member (j (slice_index binding)) lo hi q.formula x ticks) where
    are : AreTicksOf member (j (slice_index (id ∷ []))) lo hi q.formula no_values ticks
    are t = told t ∙ (λ i. within lo hi t && sat (j (slice_index (bound i))) q.formula (unbound i) hi t)

    pub none_full : ((t : ℕ) → member ticks t ≡ false) → AreFull ticks
    none_full none b is t =
        none_of (member ticks t) (within lo hi t && sat (j (slice_index (id ∷ []))) q.formula no_values hi t) (there id t) (are t) (none t)
        ∙ full_is b is t

    module _ (away : S) (absent : (t : ℕ) → member away t ≡ (within lo hi t && not (there id t))) where
      pub full_without : (made : S) → ((t : ℕ) → member made t ≡ (member ticks t && not (member away t))) → AreFull made
      full_without made cut b is t =
          cut t
          ∙ where_there (within lo hi t) (sat (j (slice_index (id ∷ []))) q.formula no_values hi t) (there id t) (member ticks t) (member away t) (are t) (absent t)
          ∙ full_is b is t

      pub full_as_it_is : ((t : ℕ) → member away t ≡ false) → AreFull ticks
      full_as_it_is none = full_without ticks (λ t. but_none (member ticks t) (member away t) (none t))

-- ---- looks at timelines

same_choices : (size other : ℕ → ℕ) (vs : List ℕ) → ((v : ℕ) → has_id vs v ≡ true → size v ≡ other v) → choices size vs ≡ choices other vs
same_choices size other [] same = refl
same_choices size other (v ∷ vs) same =
    λ i. same v (or_left (v == v) (has_id vs v) (eq-eqb v v refl)) i
    * same_choices size other vs (λ u h. same u (or_right (v == u) (has_id vs u) h)) i

-- a formula takes as many looks by sizes that are the same of its variables
same_reads : (ticks : ℕ) (f : ResolvedTree) (size other : ℕ → ℕ) → ((v : ℕ) → has_variable v f ≡ true → size v ≡ other v) →
    reads size ticks f ≡ reads other ticks f
same_reads ticks (shapes.Truth h) size other same = refl
same_reads ticks (shapes.Atom a) size other same =
    λ i. same_choices size other (atom_variables a) (λ v h. same v (passes_of_variables (λ u. atom_has u a) v h)) i * length (atom_variables a)
same_reads ticks (shapes.Not f) size other same = same_reads ticks f size other same
same_reads ticks (shapes.And f g) size other same =
    λ i. same_reads ticks f size other (λ v h. same v (or_left (has_variable v f) (has_variable v g) h)) i
    + same_reads ticks g size other (λ v h. same v (or_right (has_variable v f) (has_variable v g) h)) i
same_reads ticks (shapes.Or f g) size other same =
    λ i. same_reads ticks f size other (λ v h. same v (or_left (has_variable v f) (has_variable v g) h)) i
    + same_reads ticks g size other (λ v h. same v (or_right (has_variable v f) (has_variable v g) h)) i
same_reads ticks (shapes.Next f) size other same = same_reads ticks f size other same
same_reads ticks (shapes.Eventually f) size other same = same_reads ticks f size other same
same_reads ticks (shapes.Always f) size other same = same_reads ticks f size other same
same_reads ticks (shapes.Bounded form c f) size other same = same_reads ticks f size other same
same_reads ticks (shapes.Until form c f g) size other same =
    λ i. same_reads ticks f size other (λ v h. same v (or_left (has_variable v f) (has_variable v g) h)) i
    + same_reads ticks g size other (λ v h. same v (or_right (has_variable v f) (has_variable v g) h)) i
same_reads ticks (shapes.Assign (d, q) f) size other same =
    let vs : List ℕ = term_variables q in
    λ i. same_choices size other vs (λ v h. same v (or_left (term_has v q) (has_variable v f) (passes_of_variables (λ u. term_has u q) v h))) i
    * (length vs
    + ticks
    * same_reads ticks f (made_single size vs) (made_single other vs)
    (λ v h k. if list_any (λ u. u == v) vs then 1 else same v (or_right (term_has v q) (has_variable v f) h) k) i)

-- those at the binding, and one whether the object is there
pub reads_alone : (id lo hi : ℕ) (q : ResolvedQuery) → length q.classes ≡ 1 → IsOver 1 q.formula →
    query_reads_upto ((id ∷ []) ∷ []) lo hi q ≡ reads_here lo hi q.formula + 1
reads_alone id lo hi q one over =
    λ i. same_reads (hi + 1 - lo) q.formula (domain_size ((id ∷ []) ∷ [])) (λ _. 1)
    (λ v h. of_first (λ (u : ℕ). domain_size ((id ∷ []) ∷ []) u ≡ 1) refl v (over v h)) i
    + (ap (λ (n : ℕ). sum_by (domain_size ((id ∷ []) ∷ [])) (between 0 n)) one ∙ once (domain_size ((id ∷ []) ∷ []))) i
  where
    once : (size : ℕ → ℕ) → sum_by size (between 0 1) ≡ size 0
    once size =
        let more : sum_by size (between 0 (0 + 1)) ≡ sum_by size (between 0 0) + size 0 = sum_more size 0 in
        let none : sum_by size (between 0 0) ≡ 0 = sum_none size in
        omega (arith, more, none)
