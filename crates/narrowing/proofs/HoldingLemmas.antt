-- Objects with which a formula holds nowhere.
use Rattle.std.proofs.Common.{◌≡◌, ℕ, ◌<◌, ◌≤◌, ◌==◌, Bool, false, ◌||◌, List, [], ◌∷◌, length, refl, sym, ap, subst, ◌∙◌, inl, inr, arith}
use Rattle.std.proofs.lemmas.Bool.{both_ways, cases_Bool}
use Rattle.std.proofs.lemmas.Bool.Decides.{nat_tests}
use Rattle.formula_shape.specs.Shape as shapes
use Rattle.geometry.specs.Region.{Region}
use Rattle.history.specs.History.{cells_at}
use Rattle.formula.specs.declared.tree.RAtom.{RAtom}
use Rattle.formula.specs.Tree.{ResolvedTree}
use Rattle.meaning.specs.Satisfaction.{Interpretation}
use Rattle.meaning.specs.Trace.{trace_of}
use Rattle.object_store.specs.Areas.{is_in_area}
use Rattle.object_store.specs.declared.areas.Area.{Area}
use Rattle.object_store.specs.Contents.{Contents, history_of}
use Rattle.relation.specs.Frames.{IsIn}
use Rattle.relation.specs.Key.{has_id, ids_of_variable}
use Rattle.narrowing.specs.Covering.{Covers}
use Rattle.worlds.specs.Between.{LiesBetween}
use Rattle.narrowing.specs.declared.scene.Scene.{Scene}
use Rattle.narrowing.specs.Holding.{AreLost, CanHoldNowhere, FailsWith}
use Rattle.narrowing.specs.Needed.{CannotHold, Fails, TellsPossible, told}
use Rattle.narrowing.proofs.FailLemmas.{fails_or, not_possible, FormulasNeed}

-- ---- one object after the other

pub none_lost : (Lost : ℕ → Type 0) (ids : List ℕ) → AreLost Lost ids ids
none_lost Lost ids id has lacks = absurd (both_ways (has_id ids id) lacks has)

pub lost_first : (Lost : ℕ → Type 0) (ids rest : List ℕ) (x : ℕ) → AreLost Lost ids (x ∷ rest) → Lost x → AreLost Lost ids rest
lost_first Lost ids rest x are lost id has lacks =
    elim (cases_Bool (x == id)) [
      | inl same ↦ let equal : x ≡ id = grind (arith, nat_tests, same) in subst Lost equal lost
      | inr differs ↦ are id has (ap (λ b. b || has_id rest id) differs ∙ lacks)
    ]

pub lost_to_end : (Lost : ℕ → Type 0) (ids rest : List ℕ) → length rest ≡ 0 → AreLost Lost ids rest → AreLost Lost ids []
lost_to_end Lost ids [] none are = are
lost_to_end Lost ids (x ∷ rest) none are = absurd (omega (arith, none))

module _ (a : Scene) (v : ℕ) where
  -- a variable has one of its own
  pub all_lost : (f : ResolvedTree) (own : List ℕ) → v < length a.domains.now → own ≡ ids_of_variable a.domains.now v → AreLost (FailsWith a v f) own [] → CanHoldNowhere a f
  all_lost f own within same lost b is_in = lost (b v) (ap (λ ids. has_id ids (b v)) same ∙ is_in v within) refl b is_in refl

-- what is told where nothing is off is possible
pub exact_possible : LiesBetween → (s : Contents) (regions : List Region) (b : ℕ → ℕ) → TellsPossible 0 s regions b (told s regions b)
exact_possible law s regions b a x t holds =
    law.possibly 0 (shapes.Atom a) refl (record { history = history_of s; regions = regions }) b x t t holds

pub fails_exactly : LiesBetween → (s : Contents) (regions : List Region) (lo hi : ℕ) (f : ResolvedTree) (b : ℕ → ℕ) → CannotHold 0 s regions b lo hi f → Fails (told s regions b) lo hi f
fails_exactly law s regions lo hi f b cannot = cannot (told s regions b) (exact_possible law s regions b)

in_none : (domains : List (List ℕ)) (b : ℕ → ℕ) → domains ≡ [] → IsIn domains b
in_none domains b none v within = let empty : length domains ≡ 0 = ap length none in absurd (omega (arith, within, empty))

pub alone_fails : LiesBetween → (s : Contents) (regions : List Region) (domains : List (List ℕ)) (lo hi id : ℕ) (f : ResolvedTree) → domains ≡ [] →
    ((b : ℕ → ℕ) → IsIn domains b → b 0 ≡ id → CannotHold 0 s regions b lo hi f) → (b : ℕ → ℕ) → b 0 ≡ id → Fails (told s regions b) lo hi f
alone_fails law s regions domains lo hi id f none lost b is = fails_exactly law s regions lo hi f b (lost b (in_none domains b none) is)

-- ---- formulas

module _ (a : Scene) (v id : ℕ) where
  abbrev Lost : ResolvedTree → Type 0
  Lost f = FailsWith a v f id

  pub lost_part : (f g whole : ResolvedTree) → whole ≡ g → ((j : Interpretation) → Fails j a.w.lo a.w.hi f → Fails j a.w.lo a.w.hi g) → Lost f → Lost whole
  lost_part f g whole same leads lost = subst Lost (sym same) (λ b is_in is j possible. leads j (lost b is_in is j possible))

  pub lost_same : (g whole : ResolvedTree) → whole ≡ g → Lost g → Lost whole
  lost_same g whole same lost = subst Lost (sym same) lost

  pub lost_truth : (holds : Bool) (whole : ResolvedTree) → whole ≡ shapes.Truth holds → holds ≡ false → Lost whole
  lost_truth holds whole same never = subst Lost (sym same) (λ b is_in is j possible x t from to. never)

  pub lost_or : FormulasNeed → (f g whole : ResolvedTree) → whole ≡ shapes.Or f g → Lost f → Lost g → Lost whole
  lost_or law f g whole same first second =
      subst Lost (sym same) (λ b is_in is j possible. fails_or law j a.w.lo a.w.hi f g (first b is_in is j possible) (second b is_in is j possible))

  pub lost_atom : (atom : RAtom) (area : Area) → Covers a.error a.regions.now v atom area →
      ((t : ℕ) → a.w.lo ≤ t → t ≤ a.w.hi → is_in_area area t (cells_at (history_of a.store.now) id t) ≡ false) → Lost (shapes.Atom atom)
  lost_atom atom area covers outside b is_in is j possible x t from to =
      not_possible a.error a.store.now a.regions.now b atom j x t possible
      (covers (trace_of (history_of a.store.now) b) b x t
      (subst (λ (id : ℕ). is_in_area area t (cells_at (history_of a.store.now) id t) ≡ false) (sym is) (outside t from to)))
