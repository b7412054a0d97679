-- What may be asked of a query goes by the values of its terms, and what holds of one goes by its formula.
use Rattle.std.proofs.Common.{◌≡◌, ℕ, true, List, ◌∙◌}
use Rattle.std.proofs.lemmas.Bool.{and_from, and_parts}
use Rattle.evaluator.specs.Interpreting.{CanAsk}
use Rattle.formula_shape.specs.Shape as shapes
use Rattle.formula.specs.declared.tree.RAtom.{RAtom}
use Rattle.formula.specs.declared.tree.RTerm.{RTerm}
use Rattle.formula.specs.declared.value.Env.{Env}
use Rattle.formula.specs.Tree.{ResolvedQuery, ResolvedTree}
use Rattle.formula.specs.Value.{no_values, with_value}
use Rattle.history.specs.World.{World}
use Rattle.meaning.specs.Binding.{are_present, holds_by}
use Rattle.meaning.specs.Satisfaction.{Interpretation, sat}

-- the same values of terms
abbrev pub HaveSameTerms : ((ℕ → ℕ) → Interpretation) → ((ℕ → ℕ) → Interpretation) → Type 0
HaveSameTerms j k = (b : ℕ → ℕ) (q : RTerm) (x : Env) (t : ℕ) → (j b).term q x t ≡ (k b).term q x t

pub asked_alike : (j k : (ℕ → ℕ) → Interpretation) → HaveSameTerms j k → (P : (ℕ → ℕ) → RAtom → Env → Type 0) (Q : (ℕ → ℕ) → RTerm → Env → Type 0)
    → (domains : List (List ℕ)) (lo hi : ℕ) (f : ResolvedTree) (x : Env) → CanAsk j P Q domains lo hi f x → CanAsk k P Q domains lo hi f x
asked_alike j k same P Q domains lo hi (shapes.Truth b) x can = can
asked_alike j k same P Q domains lo hi (shapes.Atom a) x can = can
asked_alike j k same P Q domains lo hi (shapes.Not f) x can = asked_alike j k same P Q domains lo hi f x can
asked_alike j k same P Q domains lo hi (shapes.And f g) x can = (asked_alike j k same P Q domains lo hi f x can.0, asked_alike j k same P Q domains lo hi g x can.1)
asked_alike j k same P Q domains lo hi (shapes.Or f g) x can = (asked_alike j k same P Q domains lo hi f x can.0, asked_alike j k same P Q domains lo hi g x can.1)
asked_alike j k same P Q domains lo hi (shapes.Next f) x can = asked_alike j k same P Q domains lo hi f x can
asked_alike j k same P Q domains lo hi (shapes.Eventually f) x can = asked_alike j k same P Q domains lo hi f x can
asked_alike j k same P Q domains lo hi (shapes.Always f) x can = asked_alike j k same P Q domains lo hi f x can
asked_alike j k same P Q domains lo hi (shapes.Bounded form c f) x can = asked_alike j k same P Q domains lo hi f x can
asked_alike j k same P Q domains lo hi (shapes.Until form c f g) x can = (asked_alike j k same P Q domains lo hi f x can.0, asked_alike j k same P Q domains lo hi g x can.1)
asked_alike j k same P Q domains lo hi (shapes.Assign (d, q) f) x can = λ b objects. (
  (can b objects).0,
  λ t inside v told. asked_alike j k same P Q domains lo hi f (with_value x d v) ((can b objects).1 t inside v (same b q x t ∙ told)),
)

-- more holds of a query where more holds of its formula
pub holds_more : (j k : (ℕ → ℕ) → Interpretation) (w : World) (q : ResolvedQuery) (e : ℕ) (b : ℕ → ℕ) (t : ℕ)
    → (sat (j b) q.formula no_values e t ≡ true → sat (k b) q.formula no_values e t ≡ true) → holds_by j w q e b t ≡ true → holds_by k w q e b t ≡ true
holds_more j k w q e b t more holds =
    let parts = and_parts (are_present w q b t) (sat (j b) q.formula no_values e t) holds in
    and_from (are_present w q b t) (sat (k b) q.formula no_values e t) parts.0 (more parts.1)
