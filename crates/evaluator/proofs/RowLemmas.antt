-- The rows of a formula, by those of its parts.
use Rattle.std.proofs.Common.{◌≡◌, ℕ, Bool, ◌&&◌, List, sym, ap, ◌∙◌, subst}
use Rattle.tick_set.specs.Ticks.{within}
use Rattle.formula.specs.declared.value.Env.{Env}
use Rattle.formula.specs.Tree.{ResolvedTree}
use Rattle.formula.specs.Variables.{has_variable, variables_in}
use Rattle.meaning.specs.Satisfaction.{Interpretation, sat}
use Rattle.relation.specs.Frames.{Frame, IsIn, frame, vars_of_both}
use Rattle.relation.specs.Rows.{Table, table_has}
use Rattle.evaluator.specs.declared.node.Change.{Change}
use Rattle.evaluator.specs.declared.node.Pairing.{Pairing}
use Rattle.evaluator.specs.Rows.{AreRowsOf}
use Rattle.evaluator.specs.inner.Nodes.{changed_at, changed_tree, paired_in, paired_tree}
use Rattle.evaluator.proofs.NodeLemmas.{changed_cut, changed_has, changed_sat, paired_cut, paired_has, paired_sat}
use Rattle.evaluator.proofs.VariableLemmas.{both_variables}

module _ {S : Type 0} (member : S → ℕ → Bool) (j : (ℕ → ℕ) → Interpretation) (domains : List (List ℕ)) (lo hi : ℕ) (x : Env) where
  module _ (f : ResolvedTree) (r : Table S) (are : AreRowsOf member j domains lo hi f x r) where
    lows : r.lo ≡ lo
    lows = ap (λ (z : Frame). z.lo) are.frame

    pub highs : r.hi ≡ hi
    highs = ap (λ (z : Frame). z.hi) are.frame

    in_own : (b : ℕ → ℕ) → IsIn domains b → IsIn r.domains b
    in_own b is_in = subst (λ (d : List (List ℕ)). IsIn d b) (sym (ap (λ (z : Frame). z.domains) are.frame)) is_in

    pub one_rows : (c : Change) (made : Table S) →
        ((b : ℕ → ℕ) → IsIn r.domains b → (t : ℕ) → table_has member made b t ≡ (within r.lo r.hi t && changed_at c (table_has member r b) r.hi t)) →
        made.vars ≡ r.vars → frame made ≡ frame r → AreRowsOf member j domains lo hi (changed_tree c f) x made
    one_rows c made ticks vars same = record {
      ticks = λ b is_in t.
          ticks b (in_own b is_in) t
          ∙ (λ i. within (lows i) (highs i) t && changed_at c (λ u. are.ticks b is_in u i) (highs i) t)
          ∙ changed_cut lo hi c (sat (j b) f x hi) t
          ∙ ap (λ (y : Bool). within lo hi t && y) (sym (changed_sat (j b) x hi t c f));
      vars = vars ∙ are.vars ∙ (λ i. variables_in (λ v. sym (changed_has v c f) i));
      frame = same ∙ are.frame;
    }

    pub two_rows : (p : Pairing) (g : ResolvedTree) (q made : Table S) → AreRowsOf member j domains lo hi g x q →
        ((b : ℕ → ℕ) → IsIn r.domains b → (t : ℕ) → table_has member made b t ≡ paired_in p r.lo r.hi (table_has member r b) (table_has member q b) t) →
        made.vars ≡ vars_of_both r.vars q.vars → frame made ≡ frame r → AreRowsOf member j domains lo hi (paired_tree p f g) x made
    two_rows p g q made also ticks vars same = record {
      ticks = λ b is_in t.
          ticks b (in_own b is_in) t
          ∙ (λ i. paired_in p (lows i) (highs i) (λ u. are.ticks b is_in u i) (λ u. also.ticks b is_in u i) t)
          ∙ paired_cut lo hi p (sat (j b) f x hi) (sat (j b) g x hi) t
          ∙ ap (λ (y : Bool). within lo hi t && y) (sym (paired_sat (j b) x hi t p f g));
      vars =
          vars
          ∙ (λ i. vars_of_both (are.vars i) (also.vars i))
          ∙ both_variables (λ v. has_variable v f) (λ v. has_variable v g)
          ∙ (λ i. variables_in (λ v. sym (paired_has v p f g) i));
      frame = same ∙ are.frame;
    }
