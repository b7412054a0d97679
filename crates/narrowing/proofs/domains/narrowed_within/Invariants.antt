use Rattle.std.proofs.Common.{◌≡◌, length}
use Rattle.formula.specs.Tree.{resolved_view}
use Rattle.narrowing.specs.Narrowed.{SufficeSoFar}
use Rattle.narrowing.proofs.domains.narrowed_within.Given as goal

abbrev pub invariant-vars : goal.invariant-vars
invariant-vars l = record {
  many : length l.some ≡ l._var;
  so_far : SufficeSoFar l.scene (resolved_view l.q) l.some;
}
