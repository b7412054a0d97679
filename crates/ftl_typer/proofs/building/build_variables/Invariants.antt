use Rattle.std.proofs.Common.{◌≡◌, take, map}
use Rattle.ftl_typer.specs.Context.{scope_in}
use Rattle.ftl_typer.specs.Scope.{variable_number}
use Rattle.ftl_typer.proofs.building.build_variables.Given as goal

abbrev pub invariant-loop-name : goal.invariant-loop-name
invariant-loop-name l = l.variables ≡ map (variable_number (scope_in l.scope)) (take l.name-index l.names)
