use Rattle.std.proofs.Common.{◌≡◌, ◌≤◌, ◌*◌, ◌^◌, take}
use Rattle.std.specs.Prelude.{map, sum_by}
use Rattle.formula.specs.Bounds.{factor_bound}
use Rattle.ftl_typer.specs.Context.{scope_in}
use Rattle.ftl_typer.specs.Scope.{resolved_factor}
use Rattle.ftl_typer.proofs.terms.bound_of_term.Given as goal

abbrev pub invariant-loop-factor : goal.invariant-loop-factor
invariant-loop-factor l = record {
  value : l.sum ≡ sum_by factor_bound (map (resolved_factor (scope_in l.scope)) (take l.factor-index l.factor-items));
  small : l.sum ≤ l.factor-index * (2 ^ 32 * 2 ^ 64);
}
