use Rattle.std.proofs.Common.{◌≡◌, ◌+◌, length}
use Rattle.ftl_typer.specs.Context.{scope_in}
use Rattle.ftl_typer.specs.Faults.{points_faults}
use Rattle.ftl_typer.specs.First.{found_after}
use Rattle.ftl_typer.proofs.atoms.note_points.Given as goal

-- what was found and what the names that are left add make the whole
abbrev pub invariant-loop-name : goal.invariant-loop-name
invariant-loop-name l = record {
  found : found_after l.found (points_faults (scope_in l.scope) l.place l.rest)
      ≡ found_after l.fn.found (points_faults (scope_in l.scope) l.fn.at l.names);
  behind : l.place + length l.rest ≡ l.fn.at + length l.names;
}

abbrev pub decreases-loop-name : goal.decreases-loop-name
decreases-loop-name l = length l.rest
