-- Where a formula fails while its parts do. An operator on formulas is the same operator on atoms, in an interpretation
-- that gives these atoms the truth of the formulas.
use Rattle.std.proofs.Common.{◌≡◌, ℕ, Bool, true, false, not, ◌&&◌, ◌||◌, Option, None, Some, Result, Ok, Err, List, [], ◌∷◌, refl, sym, ap, subst, ◌∙◌, inl, inr, arith}
use Rattle.std.specs.Prelude.{IfOk, IfSome, option_map}
use Rattle.std.proofs.lemmas.Bool.{false≢true, and_parts, both_ways, false_from_ne_true, or_cases}
use Rattle.fixed_point.specs.declared.variants.BoundForm.{BoundForm}
use Rattle.fixed_point.specs.declared.variants.UntilForm.{UntilForm}
use Rattle.formula_shape.specs.Shape as shapes
use Rattle.geometry.specs.Region.{Region}
use Rattle.formula.specs.declared.tree.RAtom.{RAtom}
use Rattle.formula.specs.declared.tree.RAtom.TheVariants as atoms
use Rattle.formula.specs.declared.tree.RTerm.{RTerm}
use Rattle.formula.specs.declared.value.Env.{Env}
use Rattle.formula.specs.Tree.{ResolvedTree}
use Rattle.meaning.specs.Needs.{Needs, needs_of}
use Rattle.meaning.specs.Satisfaction.{Interpretation, sat}
use Rattle.meaning.specs.Trace.{trace_of}
use Rattle.object_store.specs.Areas.{AreNear}
use Rattle.object_store.specs.declared.areas.Area.{Area}
use Rattle.object_store.specs.Contents.{Contents, history_of, ids_in}
use Rattle.relation.specs.Frames.{IsIn}
use Rattle.relation.specs.Key.{has_id}
use Rattle.narrowing.specs.Covering.{Covers}
use Rattle.narrowing.specs.declared.scene.Scene.{Scene}
use Rattle.narrowing.specs.Needed.{AreNeeded, CannotHoldIn, Fails, IsOfBoth, IsOfEither, lacks, TellsPossible}
use Rattle.worlds.specs.Blurred.{possibly_holds}

abbrev goal : RAtom
goal = atoms.Inside 0 0

abbrev guard : RAtom
guard = atoms.Outside 0 0

-- what the law of `meaning` says
abbrev pub FormulasNeed : Type 0
FormulasNeed = (passes : RAtom → Bool) (is_better : List RAtom → List RAtom → Bool) (f : ResolvedTree) (atoms : List RAtom) →
    needs_of passes is_better f ≡ Some atoms → Needs f atoms

module _ (law : FormulasNeed) (j : Interpretation) (lo e : ℕ) where
  -- the atom INSIDE stands for the one formula, and each other atom for the other one
  abbrev truth_of : ResolvedTree → ResolvedTree → RAtom → Env → ℕ → Bool
  truth_of f g (atoms.Inside v n) x t = sat j f x e t
  truth_of f g (atoms.Outside v n) x t = sat j g x e t
  truth_of f g (atoms.Compare p op q) x t = false
  truth_of f g (atoms.Dist v u op c) x t = false
  truth_of f g (atoms.Sphere r vs) x t = false

  abbrev reading : ResolvedTree → ResolvedTree → Interpretation
  reading f g = record { atom = truth_of f g; term = j.term }

  abbrev all_pass : RAtom → Bool
  all_pass a = true

  abbrev first_better : List RAtom → List RAtom → Bool
  first_better xs ys = true

  pub fails_next : (f : ResolvedTree) → Fails j lo e f → Fails j lo e (shapes.Next f)
  fails_next f fails x t from to =
      law all_pass first_better (shapes.Next (shapes.Atom goal)) (goal ∷ []) refl (reading f f) lo e (fails, tt) x t from to

  pub fails_eventually : (f : ResolvedTree) → Fails j lo e f → Fails j lo e (shapes.Eventually f)
  fails_eventually f fails x t from to =
      law all_pass first_better (shapes.Eventually (shapes.Atom goal)) (goal ∷ []) refl (reading f f) lo e (fails, tt) x t from to

  pub fails_always : (f : ResolvedTree) → Fails j lo e f → Fails j lo e (shapes.Always f)
  fails_always f fails x t from to =
      law all_pass first_better (shapes.Always (shapes.Atom goal)) (goal ∷ []) refl (reading f f) lo e (fails, tt) x t from to

  pub fails_bounded : (form : BoundForm) (c : ℕ) (f : ResolvedTree) → Fails j lo e f → Fails j lo e (shapes.Bounded form c f)
  fails_bounded form c f fails x t from to =
      law all_pass first_better (shapes.Bounded form c (shapes.Atom goal)) (goal ∷ []) refl (reading f f) lo e (fails, tt) x t from to

  pub fails_until : (form : UntilForm) (c : ℕ) (g f : ResolvedTree) → Fails j lo e f → Fails j lo e (shapes.Until form c g f)
  fails_until form c g f fails x t from to =
      law all_pass first_better (shapes.Until form c (shapes.Atom guard) (shapes.Atom goal)) (goal ∷ []) refl (reading f g) lo e (fails, tt) x t from to

  pub fails_assign : (bound : ℕ × RTerm) (f : ResolvedTree) → Fails j lo e f → Fails j lo e (shapes.Assign bound f)
  fails_assign (d, q) f fails x t from to =
      law all_pass first_better (shapes.Assign (d, q) (shapes.Atom goal)) (goal ∷ []) refl (reading f f) lo e (fails, tt) x t from to

  pub fails_and_left : (f g : ResolvedTree) → Fails j lo e f → Fails j lo e (shapes.And f g)
  fails_and_left f g fails x t from to = ap (λ b. b && sat j g x e t) (fails x t from to)

  pub fails_and_right : (f g : ResolvedTree) → Fails j lo e g → Fails j lo e (shapes.And f g)
  fails_and_right f g fails x t from to = ap (λ b. sat j f x e t && b) (fails x t from to) ∙ never (sat j f x e t)
    where
      never : (b : Bool) → (b && false) ≡ false
      never true = refl
      never false = refl

  pub fails_or : (f g : ResolvedTree) → Fails j lo e f → Fails j lo e g → Fails j lo e (shapes.Or f g)
  fails_or f g first second x t from to = ap (λ b. b || sat j g x e t) (first x t from to) ∙ second x t from to

-- ---- the ids that formulas need

module _ (law : FormulasNeed) (a : Scene) (class v : ℕ) where
  abbrev NeededBy : ResolvedTree → List ℕ → Type 0
  NeededBy f ids = AreNeeded a class v f ids

  pub needed_by_part : (f g : ResolvedTree) (ids : List ℕ) → ((j : Interpretation) → Fails j a.w.lo a.w.hi f → Fails j a.w.lo a.w.hi g) → NeededBy f ids → NeededBy g ids
  needed_by_part f g ids leads are = record {
    ascending = are.ascending;
    fails = λ b is_in has lacks' j possible. leads j (are.fails b is_in has lacks' j possible);
  }

  pub needed_next : (f : ResolvedTree) (ids : List ℕ) → NeededBy f ids → NeededBy (shapes.Next f) ids
  needed_next f ids are = needed_by_part f (shapes.Next f) ids (λ j. fails_next law j a.w.lo a.w.hi f) are

  pub needed_eventually : (f : ResolvedTree) (ids : List ℕ) → NeededBy f ids → NeededBy (shapes.Eventually f) ids
  needed_eventually f ids are = needed_by_part f (shapes.Eventually f) ids (λ j. fails_eventually law j a.w.lo a.w.hi f) are

  pub needed_always : (f : ResolvedTree) (ids : List ℕ) → NeededBy f ids → NeededBy (shapes.Always f) ids
  needed_always f ids are = needed_by_part f (shapes.Always f) ids (λ j. fails_always law j a.w.lo a.w.hi f) are

  pub needed_bounded : (form : BoundForm) (c : ℕ) (f : ResolvedTree) (ids : List ℕ) → NeededBy f ids → NeededBy (shapes.Bounded form c f) ids
  needed_bounded form c f ids are = needed_by_part f (shapes.Bounded form c f) ids (λ j. fails_bounded law j a.w.lo a.w.hi form c f) are

  pub needed_until : (form : UntilForm) (c : ℕ) (g f : ResolvedTree) (ids : List ℕ) → NeededBy f ids → NeededBy (shapes.Until form c g f) ids
  needed_until form c g f ids are = needed_by_part f (shapes.Until form c g f) ids (λ j. fails_until law j a.w.lo a.w.hi form c g f) are

  pub needed_assign : (bound : ℕ × RTerm) (f : ResolvedTree) (ids : List ℕ) → NeededBy f ids → NeededBy (shapes.Assign bound f) ids
  needed_assign bound f ids are = needed_by_part f (shapes.Assign bound f) ids (λ j. fails_assign law j a.w.lo a.w.hi bound f) are

  -- the ids of an optional list, told by a function of what holds them
  part_fails : {V : Type 0} (items : V → List ℕ) (f : ResolvedTree) (list : Option V) → IfSome list (λ ids. NeededBy f (items ids)) →
      (b : ℕ → ℕ) → IsIn a.domains.now b → has_id (ids_in a.store.now.objects class) (b v) ≡ true → lacks (option_map items list) (b v) ≡ true → CannotHoldIn a b f
  part_fails items f None are b is_in has lacking = absurd (false≢true lacking)
  part_fails items f (Some ids) are b is_in has lacking = are.fails b is_in has (lacks_id (has_id (items ids) (b v)) lacking)
    where
      lacks_id : (b : Bool) → not b ≡ true → b ≡ false
      lacks_id true never = absurd (false≢true never)
      lacks_id false never = refl

  pub needed_and : {V : Type 0} (items : V → List ℕ) (f g : ResolvedTree) (left right : Option V) (ids : List ℕ) →
      IfSome left (λ ids. NeededBy f (items ids)) → IfSome right (λ ids. NeededBy g (items ids)) →
      IsOfEither (option_map items left) (option_map items right) ids → NeededBy (shapes.And f g) ids
  needed_and items f g left right ids first second of = record {
    ascending = of.ascending;
    fails = λ b is_in has lacking j possible.
        elim (or_cases (lacks (option_map items left) (b v)) (lacks (option_map items right) (b v)) (of.lacking (b v) lacking)) [
          | inl here ↦ fails_and_left law j a.w.lo a.w.hi f g (part_fails items f left first b is_in has here j possible)
          | inr here ↦ fails_and_right law j a.w.lo a.w.hi f g (part_fails items g right second b is_in has here j possible)
        ];
  }

  pub needed_or : {V : Type 0} (items : V → List ℕ) (f g : ResolvedTree) (left right : Option V) (ids : List ℕ) →
      IfSome left (λ ids. NeededBy f (items ids)) → IfSome right (λ ids. NeededBy g (items ids)) →
      IsOfBoth (option_map items left) (option_map items right) ids → NeededBy (shapes.Or f g) ids
  needed_or items f g left right ids first second of = record {
    ascending = of.ascending;
    fails = λ b is_in has lacking j possible.
        let both = and_parts (lacks (option_map items left) (b v)) (lacks (option_map items right) (b v)) (of.lacking (b v) lacking) in
        fails_or law j a.w.lo a.w.hi f g (part_fails items f left first b is_in has both.0 j possible) (part_fails items g right second b is_in has both.1 j possible);
  }

  pub needed_false : NeededBy (shapes.Truth false) []
  needed_false = record {
    ascending = λ k short. absurd (omega (arith, short));
    fails = λ b is_in has lacking j possible x t from to. refl;
  }

  -- ---- the same of ids that may not be known

  pub found_and : {V : Type 0} (items : V → List ℕ) (f g : ResolvedTree) (left right found : Option V) →
      IfSome left (λ ids. NeededBy f (items ids)) → IfSome right (λ ids. NeededBy g (items ids)) →
      IfSome found (λ ids. IsOfEither (option_map items left) (option_map items right) (items ids)) →
      IfSome found (λ ids. NeededBy (shapes.And f g) (items ids))
  found_and items f g left right None first second of = tt
  found_and items f g left right (Some ids) first second of = needed_and items f g left right (items ids) first second of

  pub found_or : {V : Type 0} (items : V → List ℕ) (f g : ResolvedTree) (left right found : Option V) →
      IfSome left (λ ids. NeededBy f (items ids)) → IfSome right (λ ids. NeededBy g (items ids)) →
      IfSome found (λ ids. IsOfBoth (option_map items left) (option_map items right) (items ids)) →
      IfSome found (λ ids. NeededBy (shapes.Or f g) (items ids))
  found_or items f g left right None first second of = tt
  found_or items f g left right (Some ids) first second of = needed_or items f g left right (items ids) first second of

  -- a part's ids, for a formula that leads to the part
  pub found_part : {V : Type 0} (items : V → List ℕ) (f g : ResolvedTree) (found : Option V) → ((j : Interpretation) → Fails j a.w.lo a.w.hi f → Fails j a.w.lo a.w.hi g) →
      IfSome found (λ ids. NeededBy f (items ids)) → IfSome found (λ ids. NeededBy g (items ids))
  found_part items f g None leads are = tt
  found_part items f g (Some ids) leads are = needed_by_part f g (items ids) leads are

  pub ok_part : {V E : Type 0} (items : V → List ℕ) (f g whole : ResolvedTree) (r : Result (Option V) E) → whole ≡ g →
      ((j : Interpretation) → Fails j a.w.lo a.w.hi f → Fails j a.w.lo a.w.hi g) →
      IfOk r (λ found. IfSome found (λ ids. NeededBy f (items ids))) → IfOk r (λ found. IfSome found (λ ids. NeededBy whole (items ids)))
  ok_part items f g whole (Err error) same leads are = are
  ok_part items f g whole (Ok found) same leads are =
      subst (λ (f : ResolvedTree). IfSome found (λ ids. NeededBy f (items ids))) (sym same) (found_part items f g found leads are)

  pub found_truth : {V : Type 0} (items : V → List ℕ) (holds : Bool) (whole : ResolvedTree) (found : Option V) → whole ≡ shapes.Truth holds →
      IfSome found (λ ids. (a : Scene) (class v : ℕ) → AreNeeded a class v (shapes.Truth holds) (items ids)) →
      IfSome found (λ ids. NeededBy whole (items ids))
  found_truth items holds whole None same are = tt
  found_truth items holds whole (Some ids) same are = subst (λ (f : ResolvedTree). NeededBy f (items ids)) (sym same) (are a class v)

-- ---- atoms

-- what is told holds of an atom nowhere where it isn't possible
pub not_possible : (error : ℕ) (s : Contents) (regions : List Region) (b : ℕ → ℕ) (a : RAtom) (j : Interpretation) (x : Env) (t : ℕ) →
    TellsPossible error s regions b j → possibly_holds error regions (trace_of (history_of s) b) b a x t ≡ false → j.atom a x t ≡ false
not_possible error s regions b a j x t possible never =
    false_from_ne_true (j.atom a x t) (λ holds. both_ways (possibly_holds error regions (trace_of (history_of s) b) b a x t) never (possible a x t holds))

module _ (scene : Scene) (class v : ℕ) where
  needed_atom : (a : RAtom) (area : Area) (ids : List ℕ) → Covers scene.error scene.regions.now v a area → AreNear scene.store.now class area scene.w.lo scene.w.hi ids →
      AreNeeded scene class v (shapes.Atom a) ids
  needed_atom a area ids covers near = record {
    ascending = near.ascending;
    fails = λ b is_in has lacking j possible x t from to.
        not_possible scene.error scene.store.now scene.regions.now b a j x t possible
        (covers (trace_of (history_of scene.store.now) b) b x t (near.missed (b v) has lacking t from to));
  }

  pub found_atom : {V : Type 0} (items : V → List ℕ) (a : RAtom) (area : Area) (found : Option V) → Covers scene.error scene.regions.now v a area →
      IfSome found (λ ids. AreNear scene.store.now class area scene.w.lo scene.w.hi (items ids)) → IfSome found (λ ids. AreNeeded scene class v (shapes.Atom a) (items ids))
  found_atom items a area None covers near = tt
  found_atom items a area (Some ids) covers near = needed_atom a area (items ids) covers near
