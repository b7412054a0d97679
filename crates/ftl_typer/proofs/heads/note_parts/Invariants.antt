use Rattle.std.proofs.Common.{◌≡◌, ◌+◌, ◌*◌, [], take, drop}
use Rattle.ftl_typer.specs.Faults.{parts_faults}
use Rattle.ftl_typer.specs.First.{found_after}
use Rattle.ftl_typer.proofs.heads.note_parts.Given as goal

-- what was found and what the parts that are left add make the whole
abbrev pub invariant-loop-nth : goal.invariant-loop-nth
invariant-loop-nth l = record {
  found : found_after l.found (parts_faults l.schema l.place (take l.nth l.parts) (drop l.nth l.parts))
      ≡ found_after l.fn.found (parts_faults l.schema l.fn.at [] l.parts);
  place : l.place ≡ l.fn.at + 2 * l.nth;
}
