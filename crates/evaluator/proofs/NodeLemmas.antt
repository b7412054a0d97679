-- A formula by its operator and its parts.
use Rattle.std.proofs.Common.{◌≡◌, ℕ, ◌+◌, Bool, ◌&&◌, ◌||◌, List, refl}
use Rattle.tick_set.specs.Ticks.{within}
use Rattle.formula_shape.specs.Sizes.{nodes}
use Rattle.formula.specs.declared.tree.RAtom.{RAtom}
use Rattle.formula.specs.declared.tree.RTerm.{RTerm}
use Rattle.formula.specs.declared.value.Env.{Env}
use Rattle.formula.specs.Tree.{ResolvedTree}
use Rattle.formula.specs.Variables.{has_variable}
use Rattle.meaning.specs.Reads.{reads}
use Rattle.meaning.specs.Satisfaction.{Interpretation, sat}
use Rattle.evaluator.specs.declared.node.Change.{Change}
use Rattle.evaluator.specs.declared.node.Change.TheVariants as changes
use Rattle.evaluator.specs.declared.node.Pairing.{Pairing}
use Rattle.evaluator.specs.declared.node.Pairing.TheVariants as pairings
use Rattle.evaluator.specs.Interpreting.{CanAsk}
use Rattle.evaluator.specs.inner.ByBinding.{CanAskHere, is_over}
use Rattle.evaluator.specs.inner.Nodes.{changed_at, changed_tree, paired_at, paired_in, paired_tree}
use Rattle.evaluator.proofs.OperatorLemmas.{always_cut, bounded_cut, complement_cut, cut, eventually_cut, join_cut, next_cut, until_cut}
use Rattle.exact.proofs.Truths.{and_over_or}

-- ---- sizes and looks

pub changed_nodes : (c : Change) (f : ResolvedTree) → nodes (changed_tree c f) ≡ nodes f + 1
changed_nodes changes.Not f = refl
changed_nodes changes.Next f = refl
changed_nodes changes.Eventually f = refl
changed_nodes changes.Always f = refl
changed_nodes (changes.Bounded form c) f = refl

pub paired_nodes : (p : Pairing) (f g : ResolvedTree) → nodes (paired_tree p f g) ≡ nodes f + nodes g + 1
paired_nodes pairings.And f g = refl
paired_nodes pairings.Or f g = refl
paired_nodes (pairings.Until form c) f g = refl

pub changed_reads : (size : ℕ → ℕ) (ticks : ℕ) (c : Change) (f : ResolvedTree) → reads size ticks (changed_tree c f) ≡ reads size ticks f
changed_reads size ticks changes.Not f = refl
changed_reads size ticks changes.Next f = refl
changed_reads size ticks changes.Eventually f = refl
changed_reads size ticks changes.Always f = refl
changed_reads size ticks (changes.Bounded form c) f = refl

pub paired_reads : (size : ℕ → ℕ) (ticks : ℕ) (p : Pairing) (f g : ResolvedTree) → reads size ticks (paired_tree p f g) ≡ reads size ticks f + reads size ticks g
paired_reads size ticks pairings.And f g = refl
paired_reads size ticks pairings.Or f g = refl
paired_reads size ticks (pairings.Until form c) f g = refl

-- ---- variables

pub changed_has : (v : ℕ) (c : Change) (f : ResolvedTree) → has_variable v (changed_tree c f) ≡ has_variable v f
changed_has v changes.Not f = refl
changed_has v changes.Next f = refl
changed_has v changes.Eventually f = refl
changed_has v changes.Always f = refl
changed_has v (changes.Bounded form c) f = refl

pub paired_has : (v : ℕ) (p : Pairing) (f g : ResolvedTree) → has_variable v (paired_tree p f g) ≡ (has_variable v f || has_variable v g)
paired_has v pairings.And f g = refl
paired_has v pairings.Or f g = refl
paired_has v (pairings.Until form c) f g = refl

pub changed_over : (size : ℕ → ℕ) (vars : List ℕ) (c : Change) (f : ResolvedTree) → is_over size vars (changed_tree c f) ≡ is_over size vars f
changed_over size vars changes.Not f = refl
changed_over size vars changes.Next f = refl
changed_over size vars changes.Eventually f = refl
changed_over size vars changes.Always f = refl
changed_over size vars (changes.Bounded form c) f = refl

pub paired_over : (size : ℕ → ℕ) (vars : List ℕ) (p : Pairing) (f g : ResolvedTree) →
    is_over size vars (paired_tree p f g) ≡ (is_over size vars f && is_over size vars g)
paired_over size vars pairings.And f g = refl
paired_over size vars pairings.Or f g = refl
paired_over size vars (pairings.Until form c) f g = refl

-- ---- truth

module _ (j : Interpretation) (x : Env) (e t : ℕ) where
  pub changed_sat : (c : Change) (f : ResolvedTree) → sat j (changed_tree c f) x e t ≡ changed_at c (sat j f x e) e t
  changed_sat changes.Not f = refl
  changed_sat changes.Next f = refl
  changed_sat changes.Eventually f = refl
  changed_sat changes.Always f = refl
  changed_sat (changes.Bounded form c) f = refl

  pub paired_sat : (p : Pairing) (f g : ResolvedTree) → sat j (paired_tree p f g) x e t ≡ paired_at p (sat j f x e) (sat j g x e) e t
  paired_sat pairings.And f g = refl
  paired_sat pairings.Or f g = refl
  paired_sat (pairings.Until form c) f g = refl

-- the ticks of a window decide it
module _ (lo hi : ℕ) where
  pub changed_cut : (c : Change) (p : ℕ → Bool) (t : ℕ) → (within lo hi t && changed_at c (cut lo hi p) hi t) ≡ (within lo hi t && changed_at c p hi t)
  changed_cut changes.Not p t = complement_cut (within lo hi t) (p t)
  changed_cut changes.Next p t = next_cut lo hi p t
  changed_cut changes.Eventually p t = eventually_cut lo hi p t
  changed_cut changes.Always p t = always_cut lo hi p t
  changed_cut (changes.Bounded form c) p t = bounded_cut lo hi form c p t

  pub paired_cut : (o : Pairing) (p q : ℕ → Bool) (t : ℕ) → paired_in o lo hi (cut lo hi p) (cut lo hi q) t ≡ (within lo hi t && paired_at o p q hi t)
  paired_cut pairings.And p q t = join_cut (within lo hi t) (p t) (q t)
  paired_cut pairings.Or p q t = and_over_or (within lo hi t) (p t) (q t)
  paired_cut (pairings.Until form c) p q t = until_cut lo hi form c p q t

-- ---- what may be asked

module _ (j : Interpretation) (P : RAtom → Env → Type 0) (Q : RTerm → Env → Type 0) (lo hi : ℕ) (x : Env) where
  pub changed_can : (c : Change) (f : ResolvedTree) → CanAskHere j P Q lo hi (changed_tree c f) x → CanAskHere j P Q lo hi f x
  changed_can changes.Not f can = can
  changed_can changes.Next f can = can
  changed_can changes.Eventually f can = can
  changed_can changes.Always f can = can
  changed_can (changes.Bounded form c) f can = can

  pub paired_can : (o : Pairing) (f g : ResolvedTree) → CanAskHere j P Q lo hi (paired_tree o f g) x → CanAskHere j P Q lo hi f x × CanAskHere j P Q lo hi g x
  paired_can pairings.And f g can = can
  paired_can pairings.Or f g can = can
  paired_can (pairings.Until form c) f g can = can

-- and at each binding
module _ (j : (ℕ → ℕ) → Interpretation) (P : (ℕ → ℕ) → RAtom → Env → Type 0) (Q : (ℕ → ℕ) → RTerm → Env → Type 0) (domains : List (List ℕ)) (lo hi : ℕ) (x : Env) where
  pub changed_asks : (c : Change) (f : ResolvedTree) → CanAsk j P Q domains lo hi (changed_tree c f) x → CanAsk j P Q domains lo hi f x
  changed_asks changes.Not f can = can
  changed_asks changes.Next f can = can
  changed_asks changes.Eventually f can = can
  changed_asks changes.Always f can = can
  changed_asks (changes.Bounded form c) f can = can

  pub paired_asks : (o : Pairing) (f g : ResolvedTree) → CanAsk j P Q domains lo hi (paired_tree o f g) x → CanAsk j P Q domains lo hi f x × CanAsk j P Q domains lo hi g x
  paired_asks pairings.And f g can = can
  paired_asks pairings.Or f g can = can
  paired_asks (pairings.Until form c) f g can = can
