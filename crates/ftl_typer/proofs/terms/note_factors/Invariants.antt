use Rattle.std.proofs.Common.{◌≡◌, ◌+◌, length}
use Rattle.ftl_parser.specs.Order.{factors_list, names_alone}
use Rattle.ftl_typer.specs.Context.{scope_in}
use Rattle.ftl_typer.specs.Faults.{factors_faults}
use Rattle.ftl_typer.specs.First.{found_after}
use Rattle.ftl_typer.proofs.terms.note_factors.Given as goal

-- what was found and what the factors that are left add make the whole
abbrev pub invariant-loop-factor : goal.invariant-loop-factor
invariant-loop-factor l = record {
  found : found_after l.found (factors_faults (scope_in l.scope) l.place l.rest)
      ≡ found_after l.fn.found (factors_faults (scope_in l.scope) l.fn.at l.factors);
  behind : l.place + length (factors_list names_alone l.rest) ≡ l.fn.at + length (factors_list names_alone l.factors);
}

abbrev pub decreases-loop-factor : goal.decreases-loop-factor
decreases-loop-factor l = length l.rest
