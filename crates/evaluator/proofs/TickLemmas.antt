-- The ticks of a formula at one binding, by those of its parts.
use Rattle.std.proofs.Common.{◌≡◌, ℕ, ◌+◌, ◌-◌, ◌*◌, ◌<◌, ◌≤◌, min, Bool, true, false, ◌&&◌, ◌||◌, ◌==◌, if◌then◌else◌, Option, List, [], ◌∷◌, ◌++◌, length, get_or, take, refl, sym, ap, ◌∙◌, subst, inl, inr, arith}
use Rattle.std.specs.Prelude.{All}
use Rattle.std.specs.List.{list_any}
use Rattle.std.proofs.lemmas.Bool.{and_parts, cases_Bool, false≢true}
use Rattle.std.proofs.lemmas.List.{take_all}
use Rattle.std.proofs.lemmas.List.Folds.{list_any_more}
use Rattle.tick_set.specs.Ticks.{LiesIn, within}
use Rattle.tick_set.specs.Operators.{until_in}
use Rattle.tick_set.proofs.Between.{within_from, within_parts}
use Rattle.tick_set.proofs.UntilLemmas.{until_in_none}
use Rattle.fixed_point.specs.declared.variants.UntilForm.{UntilForm}
use Rattle.fixed_point.specs.declared.variants.UntilForm.TheVariants as untils
use Rattle.formula.specs.Forms.{until_form_at}
use Rattle.formula_shape.specs.Shape as shapes
use Rattle.formula.specs.declared.tree.RAtom.{RAtom}
use Rattle.formula.specs.declared.tree.RTerm.{RTerm}
use Rattle.formula.specs.declared.value.Env.{Env}
use Rattle.formula.specs.declared.value.Value.{Value}
use Rattle.formula.specs.Tree.{ResolvedTree}
use Rattle.formula.specs.Value.{with_value}
use Rattle.meaning.specs.Reads.{atom_variables, choices, made_single, reads, term_variables}
use Rattle.meaning.specs.Satisfaction.{Interpretation, sat}
use Rattle.evaluator.specs.declared.node.Change.{Change}
use Rattle.evaluator.specs.declared.node.Pairing.{Pairing}
use Rattle.interpreting.specs.declared.value_run.ValueRun.{ValueRun}
use Rattle.evaluator.specs.Assigned.{run_holds}
use Rattle.interpreting.specs.Names.{formula_uses_value}
use Rattle.interpreting.specs.ValueRuns.{run_has}
use Rattle.evaluator.specs.Stretched.{AreStretches, IsStretch}
use Rattle.evaluator.specs.inner.ByBinding.{AreTicksOf, CanAskHere, any_member, reads_here}
use Rattle.evaluator.specs.inner.Seen.{IsInWindow}
use Rattle.evaluator.specs.inner.Nodes.{changed_at, changed_tree, paired_in, paired_tree}
use Rattle.evaluator.proofs.GatherLemmas.{any-push}
use Rattle.evaluator.proofs.LoopLemmas.{later_looks}
use Rattle.evaluator.proofs.OperatorLemmas.{cut, until_cut}
use Rattle.evaluator.proofs.NodeLemmas.{changed_cut, changed_sat, paired_cut, paired_sat}
use Rattle.evaluator.proofs.StretchLemmas.{at_stretch, stretches_all}

none_in : (p q : ℕ → Bool) → ((u : ℕ) → q u ≡ false) → (lo hi t : ℕ) → until_in p q lo hi t ≡ false
none_in p q none lo hi t = until_in_none p q lo hi t (λ s. false≢true (sym (none s.goal) ∙ s.holds))

pub none_led : (form : UntilForm) (c : ℕ) (p q : ℕ → Bool) → ((u : ℕ) → q u ≡ false) → (e t : ℕ) → until_form_at form c p q e t ≡ false
none_led untils.Plain c p q none e t = none_in p q none t e t
none_led untils.Within c p q none e t = none_in p q none t (min (t + c) e) t
none_led untils.After c p q none e t = none_in p q none (t + c) e t

module _ {S : Type 0} (member : S → ℕ → Bool) (lo hi : ℕ) where
  -- a set of ticks of the window lies in it
  pub lies : (q : ℕ → Bool) (s : S) → ((t : ℕ) → member s t ≡ (within lo hi t && q t)) → LiesIn lo hi (member s)
  lies q s says t h = (and_parts _ _ (sym (says t) ∙ h)).0

  module _ (j : Interpretation) (x : Env) where
    pub one_ticks : (c : Change) (f : ResolvedTree) (part made : S) → AreTicksOf member j lo hi f x part →
        ((t : ℕ) → member made t ≡ (within lo hi t && changed_at c (member part) hi t)) → AreTicksOf member j lo hi (changed_tree c f) x made
    one_ticks c f part made are says t =
        says t
        ∙ (λ i. within lo hi t && changed_at c (λ u. are u i) hi t)
        ∙ changed_cut lo hi c (sat j f x hi) t
        ∙ ap (λ (y : Bool). within lo hi t && y) (sym (changed_sat j x hi t c f))

    pub two_ticks : (p : Pairing) (f g : ResolvedTree) (left right made : S) → AreTicksOf member j lo hi f x left → AreTicksOf member j lo hi g x right →
        ((t : ℕ) → member made t ≡ paired_in p lo hi (member left) (member right) t) → AreTicksOf member j lo hi (paired_tree p f g) x made
    two_ticks p f g left right made are also says t =
        says t
        ∙ (λ i. paired_in p lo hi (λ u. are u i) (λ u. also u i) t)
        ∙ paired_cut lo hi p (sat j f x hi) (sat j g x hi) t
        ∙ ap (λ (y : Bool). within lo hi t && y) (sym (paired_sat j x hi t p f g))

    -- UNTIL holds nowhere where its goal has no tick
    pub no_goal : (form : UntilForm) (c : ℕ) (f g : ResolvedTree) (goals : S) → AreTicksOf member j lo hi g x goals → ((t : ℕ) → member goals t ≡ false) →
        AreTicksOf member j lo hi (shapes.Until form c f g) x goals
    no_goal form c f g goals are none t =
        none t
        ∙ sym (and_false (within lo hi t) (until_form_at form c (cut lo hi (sat j f x hi)) (cut lo hi (sat j g x hi)) hi t)
        (none_led form c (cut lo hi (sat j f x hi)) (cut lo hi (sat j g x hi)) (λ u. sym (are u) ∙ none u) hi t))
        ∙ until_cut lo hi form c (sat j f x hi) (sat j g x hi) t
      where
        and_false : (w p : Bool) → p ≡ false → (w && p) ≡ false
        and_false true p e = e
        and_false false p e = refl

-- ---- an assignment

run_step : (w h r s : Bool) → (r ≡ true → w ≡ true) → ((w && h) || (r && s)) ≡ (w && (h || (r && s)))
run_step true h r s inside = refl
run_step false h true s inside = absurd (false≢true (inside refl))
run_step false h false s inside = refl

-- what may be asked of an assignment may be asked by the value of each run
pub can_ask_by : (named : Bool) (j : Interpretation) (P : RAtom → Env → Type 0) (Q : RTerm → Env → Type 0) (lo hi depth : ℕ) (q : RTerm) (f : ResolvedTree) (x : Env) →
    CanAskHere j P Q lo hi (shapes.Assign (depth, q) f) x → (runs : List ValueRun) → All (IsStretch named (j.term q x) lo (hi + 1)) runs →
    (i : ℕ) (run : ValueRun) → i < length runs → run ≡ get_or runs i run → CanAskHere j P Q lo hi f (with_value x depth run.value)
can_ask_by named j P Q lo hi depth q f x can runs each i run l at =
    let own = at_stretch named lo hi (j.term q x) (get_or runs i run) (each i run l) in
    subst (λ (r : ValueRun). CanAskHere j P Q lo hi f (with_value x depth r.value)) (sym at)
    (can.1 (get_or runs i run).span.lo own.0 (get_or runs i run).value own.1)

-- each run lies in the window
pub run_within : (named : Bool) (value : ℕ → Option Value) (lo hi : ℕ) (runs : List ValueRun) → All (IsStretch named value lo (hi + 1)) runs →
    (i : ℕ) (run : ValueRun) → i < length runs → run ≡ get_or runs i run → (lo ≤ run.span.lo) × (run.span.hi ≤ hi)
run_within named value lo hi runs each i run l at =
    let own = subst (λ (r : ValueRun). IsStretch named value lo (hi + 1) r) (sym at) (each i run l) in
    (own.begins, (let ends = own.ends in omega (arith, ends)))

pub runs_inside : (named : Bool) (value : ℕ → Option Value) (lo hi : ℕ) (runs : List ValueRun) → All (IsStretch named value lo (hi + 1)) runs → All (IsInWindow lo hi) runs
runs_inside named value lo hi runs each i run l = let own = each i run l in (own.begins, (let ends = own.ends in omega (arith, ends)))

module _ {S : Type 0} (member : S → ℕ → Bool) (j : (ℕ → ℕ) → Interpretation) (b : ℕ → ℕ) (lo hi depth : ℕ) (f : ResolvedTree) (x : Env) (runs : List ValueRun) where
  -- the ticks of one more run behind the others
  pub run_added : (i : ℕ) (run : ValueRun) (parts : List S) (part : S) → i < length runs → run ≡ get_or runs i run → lo ≤ run.span.lo → run.span.hi ≤ hi →
      ((t : ℕ) → any_member member parts t ≡ (within lo hi t && run_holds j depth f x hi (take i runs) b t)) →
      ((t : ℕ) → member part t ≡ (within run.span.lo run.span.hi t && sat (j b) f (with_value x depth run.value) hi t)) →
      (t : ℕ) → any_member member (parts ++ part ∷ []) t ≡ (within lo hi t && run_holds j depth f x hi (take (i + 1) runs) b t)
  run_added i run parts part l at begins ends before is t =
      any-push (λ s. member s t) parts part
      ∙ (λ k. before t k || is t k)
      ∙ run_step (within lo hi t) (run_holds j depth f x hi (take i runs) b t) (within run.span.lo run.span.hi t) (sat (j b) f (with_value x depth run.value) hi t)
      (λ inside. let own = within_parts run.span.lo run.span.hi t inside in within_from lo hi t (omega (arith, begins, own.0)) (omega (arith, ends, own.1)))
      ∙ ap (λ (y : Bool). within lo hi t && y)
      (sym (list_any_more (λ r. run_has t r && sat (j b) f (with_value x depth r.value) hi t) runs i run l
      ∙ ap (λ (r : ValueRun). run_holds j depth f x hi (take i runs) b t || (run_has t r && sat (j b) f (with_value x depth r.value) hi t)) (sym at)))

  -- those of all runs
  pub runs_done : (q : RTerm) → (formula_uses_value depth f ≡ false → (v w : Value) (t : ℕ) → sat (j b) f (with_value x depth v) hi t ≡ sat (j b) f (with_value x depth w) hi t) →
      AreStretches (formula_uses_value depth f) ((j b).term q x) lo (hi + 1) runs → (i : ℕ) (parts : List S) (made : S) → length runs ≤ i →
      ((t : ℕ) → any_member member parts t ≡ (within lo hi t && run_holds j depth f x hi (take i runs) b t)) →
      ((t : ℕ) → member made t ≡ any_member member parts t) → AreTicksOf member (j b) lo hi (shapes.Assign (depth, q) f) x made
  runs_done q blind are i parts made l before says t =
      says t
      ∙ before t
      ∙ ap (λ (rs : List ValueRun). within lo hi t && run_holds j depth f x hi rs b t) (take_all i runs l)
      ∙ elim (cases_Bool (within lo hi t)) [
        | inl e ↦
            ap (λ (y : Bool). within lo hi t && y)
            (stretches_all (formula_uses_value depth f) lo hi ((j b).term q x) (λ v. sat (j b) f (with_value x depth v) hi t) (λ none v w. blind none v w t) t runs are e)
        | inr e ↦ ap (λ (y : Bool). y && run_holds j depth f x hi runs b t) e ∙ sym (ap (λ (y : Bool). y && sat (j b) (shapes.Assign (depth, q) f) x hi t) e)
      ]

-- ---- looks at timelines

chosen : (c : Bool) (n : ℕ) → (if c then n else n) ≡ n
chosen true n = refl
chosen false n = refl

once : (n : ℕ) → 1 * n ≡ n
once n = omega arith

pub one_choice : (vs : List ℕ) → choices (λ _. 1) vs ≡ 1
one_choice [] = refl
one_choice (v ∷ vs) = ap (λ (n : ℕ). 1 * n) (one_choice vs)

single_still : (vs : List ℕ) → made_single (λ _. 1) vs ≡ (λ _. 1)
single_still vs = λ i v. chosen (list_any (λ u. u == v) vs) 1 i

pub reads_of_assignment : (lo hi depth : ℕ) (q : RTerm) (f : ResolvedTree) →
    reads_here lo hi (shapes.Assign (depth, q) f) ≡ length (term_variables q) + (hi + 1 - lo) * reads_here lo hi f
reads_of_assignment lo hi depth q f =
    (λ i. one_choice (term_variables q) i * (length (term_variables q) + (hi + 1 - lo) * reads (single_still (term_variables q) i) (hi + 1 - lo) f))
    ∙ once (length (term_variables q) + (hi + 1 - lo) * reads_here lo hi f)

pub reads_of_atom : (lo hi : ℕ) (a : RAtom) → reads_here lo hi (shapes.Atom a) ≡ length (atom_variables a)
reads_of_atom lo hi a = ap (λ (n : ℕ). n * length (atom_variables a)) (one_choice (atom_variables a)) ∙ once (length (atom_variables a))

-- those of the term
pub term_here : (lo hi depth : ℕ) (q : RTerm) (f : ResolvedTree) (start mid : ℕ) → mid ≤ start + length (term_variables q) →
    mid ≤ start + reads_here lo hi (shapes.Assign (depth, q) f)
term_here lo hi depth q f start mid h =
    subst (λ (n : ℕ). mid ≤ start + n) (sym (reads_of_assignment lo hi depth q f)) (more start mid (length (term_variables q)) ((hi + 1 - lo) * reads_here lo hi f) h)
  where
    more : (s m a c : ℕ) → m ≤ s + a → m ≤ s + (a + c)
    more s m a c l = omega (arith, l)

-- and of the formula, by each run
pub runs_here : (lo hi depth : ℕ) (q : RTerm) (f : ResolvedTree) (start mid new n : ℕ) → mid ≤ start + length (term_variables q) → n ≤ hi + 1 - lo →
    new ≤ mid + n * reads_here lo hi f → new ≤ start + reads_here lo hi (shapes.Assign (depth, q) f)
runs_here lo hi depth q f start mid new n h l m =
    subst (λ (z : ℕ). new ≤ start + z) (sym (reads_of_assignment lo hi depth q f))
    (later_looks start mid new n (hi + 1 - lo) (length (term_variables q)) (length (term_variables q)) (reads_here lo hi f) (reads_here lo hi f) refl refl h l m)
