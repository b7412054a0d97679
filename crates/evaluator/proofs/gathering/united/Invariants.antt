use Rattle.std.proofs.Common.{◌≡◌, ℕ, length}
use Rattle.formula.specs.VarSet.{set_has}
use Rattle.formula.specs.Variables.{variables_in}
use Rattle.relation.specs.Frames.{IsIn}
use Rattle.evaluator.specs.Gathered.{ShareFrame, some_part_has}
use Rattle.evaluator.proofs.gathering.united.Given as goal

abbrev pub invariant-parts : goal.invariant-parts
invariant-parts g l = record {
  alike : ShareFrame (variables_in (set_has l.set)) l.d l.w.lo l.w.hi l.parts.items;
  same : (b : ℕ → ℕ) → IsIn l.d b → (t : ℕ) → some_part_has g.S.TickSet.member l.parts.items b t ≡ some_part_has g.S.TickSet.member l.initial.parts.items b t;
}

abbrev pub decreases-parts : goal.decreases-parts
decreases-parts g l = length l.parts.items
