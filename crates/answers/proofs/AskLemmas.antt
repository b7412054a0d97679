-- For this crate and for the crates above: what may be asked of the store of a session.
use Rattle.std.proofs.Common.{◌≡◌, ℕ, ◌+◌, ◌-◌, ◌<◌, ◌≤◌, ℤ, unsigned_abs, Bool, true, false, ◌||◌, Option, None, Some, List, length, refl, sym, ap, ◌∙◌, subst, arith, if◌then◌else◌}
use Rattle.std.specs.Prelude.{nat_le, nat_lt, IsTrue, slice_get, slice_index}
use Rattle.std.specs.Option.{option_map_or}
use Rattle.std.proofs.lemmas.Bool.{false≢true, and_from, and_parts}
use Rattle.std.proofs.lemmas.Bool.Decides.{nat_tests}
use Rattle.std.proofs.lemmas.Option.{get_or_from_slice_get, slice_get_within}
use Rattle.fixed_point.specs.declared.number.TheConstants.{FIX_LIMIT}
use Rattle.geometry.specs.Region.{Region}
use Rattle.tick_set.specs.declared.spans.TheConstants.{LAST_TICK, SPAN_LIMIT}
use Rattle.tick_set.proofs.Between.{within_parts}
use Rattle.motion.specs.declared.cell.Cell.{Cell}
use Rattle.history.specs.Catalog.{Catalog, ClassInfo, ObjectInfo, catalog, empty_catalog, ids_of as ids_of_class}
use Rattle.history.specs.History.{History, cells_at, history}
use Rattle.history.specs.Write.{Write}
use Rattle.formula_shape.specs.Shape as shapes
use Rattle.formula_shape.specs.declared.limits.TheConstants.{OBJECT_LIMIT}
use Rattle.formula.specs.Bounds.{term_bound}
use Rattle.formula.specs.Resolved.{IsResolved, Scope, is_atom, is_formula, is_term, with_bound}
use Rattle.formula.specs.Tree.{ResolvedQuery, ResolvedTree}
use Rattle.formula.specs.Value.{with_value}
use Rattle.formula.specs.Variables.{atom_has, has_variable, term_has}
use Rattle.formula.specs.declared.tree.RAtom.{RAtom}
use Rattle.formula.specs.declared.tree.RTerm.{RTerm}
use Rattle.formula.specs.declared.value.Env.{Env}
use Rattle.formula.specs.declared.value.Value.{Value}
use Rattle.formula.specs.declared.value.Value.TheVariants as values
use Rattle.formula.specs.declared.value.ValueKind.{ValueKind}
use Rattle.meaning.specs.Accepted.{are_accepted}
use Rattle.meaning.specs.Fits.{formula_fits, term_kind, with_kind}
use Rattle.meaning.specs.Reachable.{AreReachable, AreWithinBounds, IsReachable}
use Rattle.meaning.specs.Trace.{Trace, trace_of}
use Rattle.meaning.specs.Value.{term_value}
use Rattle.meaning.proofs.LocalityLemmas.{term_same}
use Rattle.meaning.proofs.BindingLemmas.{variable_class}
use Rattle.object_store.specs.Contents.{Contents, catalog_of, history_of}
use Rattle.relation.specs.Key.{has_id}
use Rattle.atoms.specs.Sizes.{is_sized, is_sized_term}
use Rattle.evaluator.specs.Interpreting.{CanAsk, IsInFor}
use Rattle.atoms.specs.Asked.{CanAskAtom, CanAskTerm, HasStored, told_by}
use Rattle.answers.specs.Objects.{AreOfItsClasses, IsOfAcceptedWrites}
use Rattle.answers.proofs.ObjectLemmas.{placed, stored_objects}
use Rattle.exact.proofs.Items.{no_value}

-- ---- the laws of the crates below that are used here

abbrev pub LeadsToReachable : Type 0
LeadsToReachable = (writes : List Write) → are_accepted empty_catalog 0 writes ≡ true →
    (id t : ℕ) (x : ObjectInfo) (k : ClassInfo) (cells : List Cell) →
    slice_get (catalog writes).objects id ≡ Some x → slice_get (catalog writes).classes x.class ≡ Some k →
    cells_at (history writes) id t ≡ Some cells → IsReachable k.attributes t cells

abbrev pub KeepsTermsWithin : Type 0
KeepsTermsWithin = (c : Catalog) (classes : List ℕ) (scope : Scope) (known : ℕ → Option ValueKind) (h : Trace)
    (x : Env) (t count : ℕ) → AreReachable c classes h t → AreWithinBounds scope x → t ≤ LAST_TICK →
    (q : RTerm) → is_term count scope q ≡ true → (k : ValueKind) → term_kind c classes known q ≡ Some k →
    (n : ℤ) → term_value h q x t ≡ Some (values.Num n) → unsigned_abs n ≤ term_bound q

abbrev pub KeepsValuesWithin : Type 0
KeepsValuesWithin = (c : Catalog) (classes : List ℕ) (scope : Scope) (known : ℕ → Option ValueKind) (h : Trace)
    (x : Env) (t count : ℕ) → AreReachable c classes h t → AreWithinBounds scope x → t ≤ LAST_TICK →
    (q : RTerm) → is_term count scope q ≡ true → (k : ValueKind) → term_kind c classes known q ≡ Some k →
    (d : ℕ) (v : Value) → term_value h q x t ≡ Some v →
    AreWithinBounds (with_bound scope d (term_bound q)) (with_value x d v)

abbrev pub HasVariablesThatThereAre : Type 0
HasVariablesThatThereAre = (count around : ℕ) (scope : Scope) (f : ResolvedTree) → is_formula count around scope f ≡ true →
    (v : ℕ) → has_variable v f ≡ true → v < count

-- ---- states of the objects of some variables

-- the states of the variables that pass a test, where the others have none
abbrev shown_for : (ℕ → Bool) → Trace → Trace
shown_for test h v t = if test v then h v t else None

pub shown_same : (test : ℕ → Bool) (h : Trace) (v t : ℕ) → test v ≡ true → shown_for test h v t ≡ h v t
shown_same test h v t passes = ap (λ (b : Bool). if b then h v t else None) passes

reached_of : LeadsToReachable → (writes : List Write) → are_accepted empty_catalog 0 writes ≡ true → (h : History) → h ≡ history writes →
    (id t : ℕ) (x : ObjectInfo) (k : ClassInfo) (cells : List Cell) → slice_get h.catalog.objects id ≡ Some x →
    slice_get h.catalog.classes x.class ≡ Some k → cells_at h id t ≡ Some cells → IsReachable k.attributes t cells
reached_of law writes accepted h told =
    subst (λ (g : History). (id t : ℕ) (x : ObjectInfo) (k : ClassInfo) (cells : List Cell) → slice_get g.catalog.objects id ≡ Some x →
    slice_get g.catalog.classes x.class ≡ Some k → cells_at g id t ≡ Some cells → IsReachable k.attributes t cells)
    (sym told) (law writes accepted)

module _ (reachable : LeadsToReachable) (s : Contents) (of : IsOfAcceptedWrites s) (classes : List ℕ) where
  shown_reachable : (test : ℕ → Bool) (b : ℕ → ℕ) (t : ℕ) →
      ((v : ℕ) → test v ≡ true → v < length classes → has_id (ids_of_class (catalog_of s) (slice_index classes v)) (b v) ≡ true) →
      AreReachable (catalog_of s) classes (shown_for test (trace_of (history_of s) b)) t
  shown_reachable test b t inside v k cells class at = by_test (test v) refl
    where
      by_test : (passes : Bool) → test v ≡ passes → IsReachable k.attributes t cells
      by_test false fails = no_value cells (sym (ap (λ (p : Bool). if p then cells_at (history_of s) (b v) t else None) fails) ∙ at)
      by_test true passes =
          let number = variable_class (catalog_of s).classes (slice_get classes v) k class in
          let within : v < length classes = slice_get_within classes v number.0 number.1 in
          let is : slice_index classes v ≡ number.0 = get_or_from_slice_get classes v number.0 0 number.1 in
          let p = placed (catalog_of s) (slice_index classes v) (b v) (inside v passes within) in
          let here : b v ≡ p.place = omega (arith, p.counted) in
          reached_of reachable of.writes of.accepted (history_of s) of.told (b v) t p.object k cells
          (ap (slice_get (catalog_of s).objects) here ∙ p.at)
          (ap (slice_get (catalog_of s).classes) (p.of_class ∙ is) ∙ number.2)
          (sym (shown_same test (trace_of (history_of s) b) v t passes) ∙ at)

-- ---- formulas

some_kind : (o : Option ValueKind) (p : ValueKind → Bool) → option_map_or p o false ≡ true → (k : ValueKind) × (o ≡ Some k) × (p k ≡ true)
some_kind None p holds = absurd (false≢true holds)
some_kind (Some k) p holds = (k, refl, holds)

module _ (reachable : LeadsToReachable) (term_within : KeepsTermsWithin) (value_within : KeepsValuesWithin)
    (sized_atom : (count : ℕ) (scope : Scope) (a : RAtom) → is_atom count scope a ≡ true → IsTrue (is_sized a))
    (sized_term : (count : ℕ) (scope : Scope) (q : RTerm) → is_term count scope q ≡ true → IsTrue (is_sized_term q))
    (below : HasVariablesThatThereAre) (s : Contents) (regions : List Region) (q : ResolvedQuery) (domains : List (List ℕ)) (lo hi : ℕ)
    (of : IsOfAcceptedWrites s) (are : AreOfItsClasses (catalog_of s) q domains) (few : length q.classes ≤ OBJECT_LIMIT)
    (last : hi ≤ LAST_TICK) (short : hi - lo ≤ SPAN_LIMIT) where
  stored : (test : ℕ → Bool) (b : ℕ → ℕ) → IsInFor domains test b → ((v : ℕ) → test v ≡ true → v < length q.classes) →
      (v : ℕ) → test v ≡ true → HasStored s b v
  stored test b inside below v has = record {
    few = (let l : v < length q.classes = below v has in omega (arith, l, few));
    stored = stored_objects s q domains are v (b v) (inside v has);
  }

  atom_below : (scope : Scope) (a : RAtom) → is_atom (length q.classes) scope a ≡ true → (v : ℕ) → atom_has v a ≡ true → v < length q.classes
  atom_below scope a right = below (length q.classes) 0 scope (shapes.Atom a) right

  -- those of a formula that binds the term, and has no other
  term_below : (scope : Scope) (p : RTerm) → is_term (length q.classes) scope p ≡ true → (v : ℕ) → term_has v p ≡ true → v < length q.classes
  term_below scope p right v has =
      below (length q.classes) 0 scope (shapes.Assign (0, p) (shapes.Truth true)) (and_from (is_term (length q.classes) scope p) true right refl) v
      (ap (λ b. b || false) has)

  states : (p : RTerm) (b : ℕ → ℕ) → IsInFor domains (λ v. term_has v p) b → (t : ℕ) →
      AreReachable (catalog_of s) q.classes (shown_for (λ v. term_has v p) (trace_of (history_of s) b)) t
  states p b inside t = shown_reachable reachable s of q.classes (λ v. term_has v p) b t (λ v has within. are.each v (b v) within (inside v has))

  shown_value : (p : RTerm) (b : ℕ → ℕ) (x : Env) (t : ℕ) →
      term_value (shown_for (λ v. term_has v p) (trace_of (history_of s) b)) p x t ≡ term_value (trace_of (history_of s) b) p x t
  shown_value p b x t =
      term_same (shown_for (λ v. term_has v p) (trace_of (history_of s) b)) (trace_of (history_of s) b) x t p
      (λ v has. shown_same (λ u. term_has u p) (trace_of (history_of s) b) v t has)

  can_ask_term : (scope : Scope) (known : ℕ → Option ValueKind) (x : Env) → AreWithinBounds scope x → (p : RTerm) →
      is_term (length q.classes) scope p ≡ true → (k : ValueKind) → term_kind (catalog_of s) q.classes known p ≡ Some k →
      (b : ℕ → ℕ) → IsInFor domains (λ v. term_has v p) b → CanAskTerm s lo hi b p x
  can_ask_term scope known x near p right k kind b inside = record {
    sized = sized_term (length q.classes) scope p right;
    objects = stored (λ v. term_has v p) b inside (term_below scope p right);
    in_range = λ t from upto n value.
        let bound : unsigned_abs n ≤ term_bound p =
        term_within (catalog_of s) q.classes scope known (shown_for (λ v. term_has v p) (trace_of (history_of s) b)) x t (length q.classes)
        (states p b inside t) near (omega (arith, upto, last)) p right k kind n (shown_value p b x t ∙ value) in
        let small : term_bound p ≤ FIX_LIMIT = grind (arith, nat_tests, (and_parts _ (nat_le (term_bound p) FIX_LIMIT) right).1) in
        omega (arith, bound, small);
  }

  pub can_ask : (f : ResolvedTree) (around : ℕ) (scope : Scope) (known : ℕ → Option ValueKind) (x : Env) →
      is_formula (length q.classes) around scope f ≡ true → formula_fits (catalog_of s) q.classes (length regions) known f ≡ true →
      AreWithinBounds scope x →
      CanAsk (told_by s regions) (λ b a y. CanAskAtom s lo hi b a) (λ b p y. CanAskTerm s lo hi b p y) domains lo hi f x
  can_ask (shapes.Truth holds) around scope known x right fits near = tt
  can_ask (shapes.Atom a) around scope known x right fits near = λ b inside. record {
    sized = sized_atom (length q.classes) scope a right;
    objects = stored (λ v. atom_has v a) b inside (atom_below scope a right);
    short = short;
  }
  can_ask (shapes.Not f) around scope known x right fits near = can_ask f around scope known x right fits near
  can_ask (shapes.And f g) around scope known x right fits near =
      let r = and_parts (is_formula (length q.classes) around scope f) (is_formula (length q.classes) around scope g) right in
      let k = and_parts (formula_fits (catalog_of s) q.classes (length regions) known f) (formula_fits (catalog_of s) q.classes (length regions) known g) fits in
      (can_ask f around scope known x r.0 k.0 near, can_ask g around scope known x r.1 k.1 near)
  can_ask (shapes.Or f g) around scope known x right fits near =
      let r = and_parts (is_formula (length q.classes) around scope f) (is_formula (length q.classes) around scope g) right in
      let k = and_parts (formula_fits (catalog_of s) q.classes (length regions) known f) (formula_fits (catalog_of s) q.classes (length regions) known g) fits in
      (can_ask f around scope known x r.0 k.0 near, can_ask g around scope known x r.1 k.1 near)
  can_ask (shapes.Next f) around scope known x right fits near = can_ask f around scope known x right fits near
  can_ask (shapes.Eventually f) around scope known x right fits near = can_ask f around scope known x right fits near
  can_ask (shapes.Always f) around scope known x right fits near = can_ask f around scope known x right fits near
  can_ask (shapes.Bounded form c f) around scope known x right fits near =
      can_ask f around scope known x (and_parts _ (is_formula (length q.classes) around scope f) right).1 fits near
  can_ask (shapes.Until form c f g) around scope known x right fits near =
      let outer = and_parts _ (is_formula (length q.classes) around scope g) right in
      let inner = and_parts _ (is_formula (length q.classes) around scope f) outer.0 in
      let k = and_parts (formula_fits (catalog_of s) q.classes (length regions) known f) (formula_fits (catalog_of s) q.classes (length regions) known g) fits in
      (can_ask f around scope known x inner.1 k.0 near, can_ask g around scope known x outer.1 k.1 near)
  can_ask (shapes.Assign (d, p) f) around scope known x right fits near =
      let outer = and_parts _ (is_formula (length q.classes) (around + 1) (with_bound scope d (term_bound p)) f) right in
      let inner = and_parts _ (is_term (length q.classes) scope p) outer.0 in
      let kind = some_kind (term_kind (catalog_of s) q.classes known p) (λ k. formula_fits (catalog_of s) q.classes (length regions) (with_kind known d k) f) fits in
      λ b inside. (
        can_ask_term scope known x near p inner.1 kind.0 kind.1 b inside,
        λ t here v value.
            let upto : t ≤ hi = (within_parts lo hi t here).1 in
            can_ask f (around + 1) (with_bound scope d (term_bound p)) (with_kind known d kind.0) (with_value x d v) outer.1 kind.2
            (value_within (catalog_of s) q.classes scope known (shown_for (λ u. term_has u p) (trace_of (history_of s) b)) x t (length q.classes)
            (states p b inside t) near (omega (arith, upto, last)) p inner.1 kind.0 kind.1 d v (shown_value p b x t ∙ value)),
      )

-- ---- queries

pub few_classes : (q : ResolvedQuery) → IsResolved q → length q.classes ≤ OBJECT_LIMIT
few_classes q right =
    let parts = and_parts (nat_lt 0 (length q.classes)) (nat_le (length q.classes) OBJECT_LIMIT) right.variables in
    grind (arith, nat_tests, parts.1)
