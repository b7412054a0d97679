-- The parts of an assignment's rows.
use Rattle.std.specs.Prelude.{⊤, ℕ, Bool, ◌&&◌, List, [], ◌∷◌}
use Rattle.std.specs.List.{list_any}
use Rattle.formula_shape.specs.Shape.{Shape}
use Rattle.formula.specs.declared.tree.RAtom.{RAtom}
use Rattle.formula.specs.declared.tree.RTerm.{RTerm}
use Rattle.formula.specs.declared.value.Env.{Env}
use Rattle.formula.specs.Tree.{ResolvedTree, formula_view}
use Rattle.formula.specs.Value.{with_value}
use Rattle.meaning.specs.Satisfaction.{Interpretation, sat}
use Rattle.evaluator.specs.declared.assignment.Assignment.{Assignment}
use Rattle.interpreting.specs.declared.value_run.ValueRun.{ValueRun}
use Rattle.evaluator.specs.Interpreting.{CanAsk}
use Rattle.interpreting.specs.ValueRuns.{run_has}

-- the tree of an assignment
abbrev pub assignment_view : Assignment → ResolvedTree
assignment_view a = Shape.Assign (a.depth, a.term.now) (formula_view a.body.now)

-- whether a tick is in a run by whose value, bound at a depth, a formula holds
abbrev pub run_holds : ((ℕ → ℕ) → Interpretation) → ℕ → ResolvedTree → Env → ℕ → List ValueRun → (ℕ → ℕ) → ℕ → Bool
run_holds j depth f x e runs b t = list_any (λ r. run_has t r && sat (j b) f (with_value x depth r.value) e t) runs

-- a formula's parts may be asked by the value of each run
abbrev pub CanAskEach : ((ℕ → ℕ) → Interpretation) → ((ℕ → ℕ) → RAtom → Env → Type 0) → ((ℕ → ℕ) → RTerm → Env → Type 0) →
    List (List ℕ) → ℕ → ℕ → ℕ → ResolvedTree → Env → List ValueRun → Type 0
CanAskEach j P Q domains lo hi depth f x [] = ⊤
CanAskEach j P Q domains lo hi depth f x (r ∷ rest) =
    CanAsk j P Q domains lo hi f (with_value x depth r.value) × CanAskEach j P Q domains lo hi depth f x rest
