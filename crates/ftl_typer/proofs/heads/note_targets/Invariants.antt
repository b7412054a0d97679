use Rattle.std.proofs.Common.{◌≡◌, [], take, drop}
use Rattle.ftl_typer.specs.Context.{scope_in}
use Rattle.ftl_typer.specs.Faults.{targets_faults}
use Rattle.ftl_typer.specs.First.{found_after}
use Rattle.ftl_typer.proofs.heads.note_targets.Given as goal

-- what was found and what the targets that are left add make the whole
abbrev pub invariant-loop-at : goal.invariant-loop-at
invariant-loop-at l =
    found_after l.found (targets_faults (scope_in l.scope) l.at (take l.at l.targets) (drop l.at l.targets))
    ≡ found_after l.fn.found (targets_faults (scope_in l.scope) 0 [] l.targets)
