use Rattle.std.proofs.Common.{◌≡◌, take, map}
use Rattle.ftl_typer.specs.Context.{scope_in}
use Rattle.ftl_typer.specs.Scope.{resolved_factor}
use Rattle.ftl_typer.proofs.building.build_term.Given as goal

abbrev pub invariant-loop-factor : goal.invariant-loop-factor
invariant-loop-factor l = l.factors ≡ map (resolved_factor (scope_in l.scope)) (take l.factor-index l.factor-items)
