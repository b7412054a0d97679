-- The rows of an assignment, key by key and run by run.
use Rattle.std.proofs.Common.{◌≡◌, ℕ, zero, suc, ◌+◌, ◌<◌, ◌≤◌, Bool, true, false, ◌&&◌, ◌||◌, Option, Some, slice_index, List, [], ◌∷◌, ◌++◌, length, get_or, take, map, refl, sym, ap, ◌∙◌, subst, inl, inr, arith}
use Rattle.std.specs.Prelude.{All}
use Rattle.std.specs.Option.{option_map_or}
use Rattle.std.specs.Str.{bytes_eq}
use Rattle.std.proofs.lemmas.Bool.{cases_Bool}
use Rattle.std.proofs.lemmas.List.{take_all}
use Rattle.std.proofs.lemmas.List.Elements.{All-head, All-tail}
use Rattle.std.proofs.lemmas.List.Folds.{list_any_more}
use Rattle.tick_set.specs.Ticks.{within}
use Rattle.formula_shape.specs.Shape as shapes
use Rattle.formula.specs.declared.tree.RAtom.{RAtom}
use Rattle.formula.specs.declared.tree.RTerm.{RTerm}
use Rattle.formula.specs.declared.value.Env.{Env}
use Rattle.formula.specs.declared.value.Value.{Value}
use Rattle.formula.specs.Tree.{ResolvedTree}
use Rattle.formula.specs.Value.{with_value}
use Rattle.formula.specs.Variables.{has_variable, term_has, variables_of}
use Rattle.meaning.specs.Reads.{term_variables}
use Rattle.meaning.specs.Satisfaction.{Interpretation, sat}
use Rattle.relation.specs.Frames.{Frame, IsIn, IsWider, agrees, frame, vars_of_both}
use Rattle.relation.specs.Key.{are_known}
use Rattle.relation.specs.Rows.{Table, table_has}
use Rattle.interpreting.specs.declared.value_run.ValueRun.{ValueRun}
use Rattle.evaluator.specs.Assigned.{CanAskEach, run_holds}
use Rattle.evaluator.specs.Gathered.{some_part_has}
use Rattle.evaluator.specs.Interpreting.{CanAsk, IsInFor}
use Rattle.evaluator.specs.Keys.{AreKeys, AreNarrowed, binding_of, has_key}
use Rattle.evaluator.specs.Rows.{AreRowsWhere}
use Rattle.interpreting.specs.Names.{formula_uses_value}
use Rattle.interpreting.specs.ValueRuns.{run_has}
use Rattle.evaluator.specs.Stretched.{AreStretches, IsStretch}
use Rattle.evaluator.proofs.BindingLemmas.{agreeing_key, binding_of-map, key_in-map, narrowed_has}
use Rattle.evaluator.proofs.GatherLemmas.{any_has-push}
use Rattle.evaluator.proofs.StretchLemmas.{at_stretch, stretches_all}
use Rattle.evaluator.proofs.VariableLemmas.{both_variables}
use Rattle.exact.proofs.Truths.{and_over_or}

module _ (j : (ℕ → ℕ) → Interpretation) (P : (ℕ → ℕ) → RAtom → Env → Type 0) (Q : (ℕ → ℕ) → RTerm → Env → Type 0) (lo hi : ℕ) where
  for_wider : (new old : List (List ℕ)) → IsWider new old → (test : ℕ → Bool) (b : ℕ → ℕ) → IsInFor new test b → IsInFor old test b
  for_wider new old wider test b is_in v h = wider.all v (b v) (is_in v h)

  -- what may be asked over wider domains may be asked over others
  pub can_ask_narrower : (new old : List (List ℕ)) → IsWider new old → (f : ResolvedTree) (x : Env) → CanAsk j P Q old lo hi f x → CanAsk j P Q new lo hi f x
  can_ask_narrower new old wider (shapes.Truth b) x can = tt
  can_ask_narrower new old wider (shapes.Atom a) x can = λ b is_in. can b (for_wider new old wider _ b is_in)
  can_ask_narrower new old wider (shapes.Not f) x can = can_ask_narrower new old wider f x can
  can_ask_narrower new old wider (shapes.And f g) x can = (can_ask_narrower new old wider f x can.0, can_ask_narrower new old wider g x can.1)
  can_ask_narrower new old wider (shapes.Or f g) x can = (can_ask_narrower new old wider f x can.0, can_ask_narrower new old wider g x can.1)
  can_ask_narrower new old wider (shapes.Next f) x can = can_ask_narrower new old wider f x can
  can_ask_narrower new old wider (shapes.Eventually f) x can = can_ask_narrower new old wider f x can
  can_ask_narrower new old wider (shapes.Always f) x can = can_ask_narrower new old wider f x can
  can_ask_narrower new old wider (shapes.Bounded form c f) x can = can_ask_narrower new old wider f x can
  can_ask_narrower new old wider (shapes.Until form c f g) x can = (can_ask_narrower new old wider f x can.0, can_ask_narrower new old wider g x can.1)
  can_ask_narrower new old wider (shapes.Assign (d, q) f) x can = λ b is_in.
      let own = can b (for_wider new old wider _ b is_in) in
      (own.0, λ t l v e. can_ask_narrower new old wider f (with_value x d v) (own.1 t l v e))

  -- each run of a term's value has a tick at which the term has it
  pub can_ask_each : (named : Bool) (new old : List (List ℕ)) → IsWider new old → (depth : ℕ) (q : RTerm) (f : ResolvedTree) (x : Env) (b : ℕ → ℕ) →
      ((t : ℕ) → within lo hi t ≡ true → (v : Value) → (j b).term q x t ≡ Some v → CanAsk j P Q old lo hi f (with_value x depth v)) →
      (runs : List ValueRun) → All (IsStretch named ((j b).term q x) lo (hi + 1)) runs → CanAskEach j P Q new lo hi depth f x runs
  can_ask_each named new old wider depth q f x b can [] each = tt
  can_ask_each named new old wider depth q f x b can (r ∷ rest) each =
      let own = at_stretch named lo hi ((j b).term q x) r (All-head (IsStretch named ((j b).term q x) lo (hi + 1)) r rest each) in (
        can_ask_narrower new old wider f (with_value x depth r.value) (can r.span.lo own.0 r.value own.1),
        can_ask_each named new old wider depth q f x b can rest (All-tail (IsStretch named ((j b).term q x) lo (hi + 1)) r rest each),
      )

  pub can_ask_run : (domains : List (List ℕ)) (depth : ℕ) (f : ResolvedTree) (x : Env) (runs : List ValueRun) (i : ℕ) (d : ValueRun) → i < length runs →
      CanAskEach j P Q domains lo hi depth f x runs → CanAsk j P Q domains lo hi f (with_value x depth (get_or runs i d).value)
  can_ask_run domains depth f x [] i d l can = absurd (omega (arith, l))
  can_ask_run domains depth f x (r ∷ rest) zero d l can = can.0
  can_ask_run domains depth f x (r ∷ rest) (suc i) d l can = can_ask_run domains depth f x rest i d (omega (arith, l)) can.1

-- ---- run by run

module _ {S : Type 0} (member : S → ℕ → Bool) (j : (ℕ → ℕ) → Interpretation) (domains : List (List ℕ)) (lo hi depth : ℕ) (f : ResolvedTree) (x : Env) (runs : List ValueRun) where
  -- the part of one more run behind the others
  pub run_more : (i : ℕ) (run : ValueRun) (parts : List (Table S)) (part : Table S) → i < length runs → run ≡ get_or runs i run →
      ((b : ℕ → ℕ) → IsIn domains b → (t : ℕ) → some_part_has member parts b t ≡ (within lo hi t && run_holds j depth f x hi (take i runs) b t)) →
      AreRowsWhere member domains lo hi (variables_of f) (λ b t. within run.span.lo run.span.hi t && sat (j b) f (with_value x depth run.value) hi t) part →
      (b : ℕ → ℕ) → IsIn domains b → (t : ℕ) → some_part_has member (parts ++ part ∷ []) b t ≡ (within lo hi t && run_holds j depth f x hi (take (i + 1) runs) b t)
  run_more i run parts part l at before are b is_in t =
      any_has-push member parts part b t
      ∙ (λ k. before b is_in t k || are.ticks b is_in t k)
      ∙ and_over_or (within lo hi t) (run_holds j depth f x hi (take i runs) b t) (within run.span.lo run.span.hi t && sat (j b) f (with_value x depth run.value) hi t)
      ∙ ap (λ (y : Bool). within lo hi t && y)
      (sym (list_any_more (λ r. run_has t r && sat (j b) f (with_value x depth r.value) hi t) runs i run l
      ∙ ap (λ (r : ValueRun). run_holds j depth f x hi (take i runs) b t || (run_has t r && sat (j b) f (with_value x depth r.value) hi t)) (sym at)))

-- ---- key by key

key_step : (w h e s : Bool) → ((w && (h && s)) || (w && (e && s))) ≡ (w && ((h || e) && s))
key_step true true true true = refl
key_step true true true false = refl
key_step true true false true = refl
key_step true true false false = refl
key_step true false true s = refl
key_step true false false s = refl
key_step false h e s = refl

module _ {S : Type 0} (member : S → ℕ → Bool) (domains : List (List ℕ)) (lo hi : ℕ) (vars : List ℕ) (holds : (ℕ → ℕ) → ℕ → Bool) (keys : List (List ℕ)) where
  -- the rows of one more key behind the others
  pub key_more : (all : List ℕ) (i : ℕ) (key : List ℕ) (parts : List (Table S)) (rows : Table S) → i < length keys → key ≡ get_or keys i key →
      ((b : ℕ → ℕ) → IsIn domains b → (t : ℕ) → some_part_has member parts b t ≡ (within lo hi t && (has_key (take i keys) (map b vars) && holds b t))) →
      AreRowsWhere member domains lo hi all (λ b t. agrees vars key b && holds b t) rows →
      (b : ℕ → ℕ) → IsIn domains b → (t : ℕ) → some_part_has member (parts ++ rows ∷ []) b t ≡ (within lo hi t && (has_key (take (i + 1) keys) (map b vars) && holds b t))
  key_more all i key parts rows l at before are b is_in t =
      any_has-push member parts rows b t
      ∙ (λ k. before b is_in t k || are.ticks b is_in t k)
      ∙ key_step (within lo hi t) (has_key (take i keys) (map b vars)) (agrees vars key b) (holds b t)
      ∙ ap (λ (y : Bool). within lo hi t && (y && holds b t))
      (sym (list_any_more (λ z. bytes_eq z (map b vars)) keys i key l ∙ ap (λ (z : List ℕ). has_key (take i keys) (map b vars) || bytes_eq z (map b vars)) (sym at)))

  -- all keys are those of all assignments
  pub all_keys : (i : ℕ) (parts : List (Table S)) → length keys ≤ i → AreKeys domains vars keys → are_known domains vars ≡ true →
      ((b : ℕ → ℕ) → IsIn domains b → (t : ℕ) → some_part_has member parts b t ≡ (within lo hi t && (has_key (take i keys) (map b vars) && holds b t))) →
      (b : ℕ → ℕ) → IsIn domains b → (t : ℕ) → some_part_has member parts b t ≡ (within lo hi t && holds b t)
  all_keys i parts l are known says b is_in t =
      says b is_in t
      ∙ ap (λ (z : List (List ℕ)). within lo hi t && (has_key z (map b vars) && holds b t)) (take_all i keys l)
      ∙ ap (λ (y : Bool). within lo hi t && (y && holds b t)) (are.all (map b vars) (key_in-map domains vars b is_in known))

-- ---- at one key

at_step : (w a p z : Bool) → (a ≡ true → z ≡ (w && p)) → ((w && a) && z) ≡ (w && (a && p))
at_step true true p z f = f refl
at_step true false p z f = refl
at_step false a p z f = refl

module _ {S : Type 0} (member : S → ℕ → Bool) (j : (ℕ → ℕ) → Interpretation) (old : List (List ℕ)) (lo hi depth : ℕ) (q : RTerm) (f : ResolvedTree) (x : Env)
    (sees : (b c : ℕ → ℕ) → ((v : ℕ) → term_has v q ≡ true → b v ≡ c v) → (t : ℕ) → (j b).term q x t ≡ (j c).term q x t)
    (blind : formula_uses_value depth f ≡ false → (b : ℕ → ℕ) (v w : Value) (t : ℕ) → sat (j b) f (with_value x depth v) hi t ≡ sat (j b) f (with_value x depth w) hi t)
    (over : (v : ℕ) → term_has v q ≡ true → v < 4) (vars : List ℕ) (are_vars : vars ≡ term_variables q) where
  -- the value at the binding of a key is that at each assignment that agrees with it
  pub value_at : (key : List ℕ) (b : ℕ → ℕ) → agrees vars key b ≡ true → (t : ℕ) →
      (j (slice_index (binding_of vars key))).term q x t ≡ (j b).term q x t
  value_at key b agree t =
      sees (slice_index (binding_of vars key)) b
      (λ v h.
      ap (λ (k : List ℕ). slice_index (binding_of vars k) v) (agreeing_key vars key b agree)
      ∙ (λ i. slice_index (binding_of (are_vars i) (map b (are_vars i))) v)
      ∙ binding_of-map (λ u. term_has u q) b v (over v h) h) t

  pub rows_at_key : (key : List ℕ) (new : List (List ℕ)) (runs : List ValueRun) (rows wide own made : Table S) →
      AreNarrowed old vars key new →
      AreStretches (formula_uses_value depth f) ((j (slice_index (binding_of vars key))).term q x) lo (hi + 1) runs →
      AreRowsWhere member new lo hi (variables_of f) (run_holds j depth f x hi runs) rows →
      ((b : ℕ → ℕ) (t : ℕ) → table_has member wide b t ≡ table_has member rows b t) → wide.vars ≡ rows.vars →
      AreRowsWhere member old lo hi vars (λ b t. agrees vars key b) own →
      ((b : ℕ → ℕ) → IsIn own.domains b → (t : ℕ) → table_has member made b t ≡ (table_has member own b t && table_has member wide b t)) →
      made.vars ≡ vars_of_both own.vars wide.vars → frame made ≡ frame own →
      AreRowsWhere member old lo hi (variables_of (shapes.Assign (depth, q) f)) (λ b t. agrees vars key b && sat (j b) (shapes.Assign (depth, q) f) x hi t) made
  rows_at_key key new runs rows wide own made narrow are_runs are wider wide_vars are_own ticks made_vars same = record {
    ticks = λ b is_in t.
        ticks b (subst (λ (d : List (List ℕ)). IsIn d b) (sym (ap (λ (z : Frame). z.domains) are_own.frame)) is_in) t
        ∙ ap (λ (y : Bool). y && table_has member wide b t) (are_own.ticks b is_in t)
        ∙ at_step (within lo hi t) (agrees vars key b) (sat (j b) (shapes.Assign (depth, q) f) x hi t) (table_has member wide b t) (here b is_in t);
    vars = made_vars ∙ (λ i. vars_of_both ((are_own.vars ∙ are_vars) i) ((wide_vars ∙ are.vars) i)) ∙ both_variables (λ v. term_has v q) (λ v. has_variable v f);
    frame = same ∙ are_own.frame;
  }
    where
      by_runs : (b : ℕ → ℕ) (t : ℕ) → agrees vars key b ≡ true → within lo hi t ≡ true → run_holds j depth f x hi runs b t ≡ sat (j b) (shapes.Assign (depth, q) f) x hi t
      by_runs b t agree inside =
          stretches_all (formula_uses_value depth f) lo hi ((j (slice_index (binding_of vars key))).term q x) (λ v. sat (j b) f (with_value x depth v) hi t) (λ none v w. blind none b v w t) t
          runs are_runs inside
          ∙ ap (λ (o : Option Value). option_map_or (λ v. sat (j b) f (with_value x depth v) hi t) o false) (value_at key b agree t)

      in_window : (b : ℕ → ℕ) (t : ℕ) → agrees vars key b ≡ true →
          (within lo hi t && run_holds j depth f x hi runs b t) ≡ (within lo hi t && sat (j b) (shapes.Assign (depth, q) f) x hi t)
      in_window b t agree =
          elim (cases_Bool (within lo hi t)) [
            | inl e ↦ ap (λ (y : Bool). within lo hi t && y) (by_runs b t agree e)
            | inr e ↦ ap (λ (y : Bool). y && run_holds j depth f x hi runs b t) e ∙ sym (ap (λ (y : Bool). y && sat (j b) (shapes.Assign (depth, q) f) x hi t) e)
          ]

      here : (b : ℕ → ℕ) → IsIn old b → (t : ℕ) → agrees vars key b ≡ true → table_has member wide b t ≡ (within lo hi t && sat (j b) (shapes.Assign (depth, q) f) x hi t)
      here b is_in t agree =
          wider b t
          ∙ are.ticks b (narrowed_has old vars key new narrow b is_in agree) t
          ∙ in_window b t agree
