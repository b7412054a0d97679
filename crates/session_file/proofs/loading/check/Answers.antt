use Rattle.std.proofs.Common.{[], ◌∷◌, ◌++◌, ◌∙◌, Some, ap, rules, subst, sym}
use Rattle.session_file.specs.Reading.{GivesNextCommand, Reading, loaded_view}
use Rattle.session_file.proofs.LacksLemmas.{lacks_after, one_more_read}
use Rattle.session_file.proofs.loading.check.Goals as goal

pub commands-init : goal.commands-init
commands-init c = record { fault = ap (λ (r : Reading). r.fault) (sym c.in_ok-reader.ensures.ok); read = ([], sym c.in_ok-reader.ensures.ok) }

pub commands-preserved : goal.commands-preserved
commands-preserved c =
    let gives : GivesNextCommand c.commands.reader c.next_command.new.self (Some c.in-Some.next) =
    subst (GivesNextCommand c.commands.reader c.next_command.new.self) c.in-Some.is c.in_ok-next.ensures.ok in
    let (first, parts) = c.commands.invariant.read in
    record {
      fault = c.commands.invariant.fault ∙ ap (λ (r : Reading). r.fault) gives;
      read = (
        first ++ loaded_view c.in-Some.next ∷ [],
        one_more_read _ c.commands.reader c.next_command.new.self first (loaded_view c.in-Some.next) parts gives,
      );
    }

pub returns-in_err-next-clause-memory : goal.returns-in_err-next-clause-memory
returns-in_err-next-clause-memory c =
    let (first, parts) = c.commands.invariant.read in
    lacks_after _ c.commands.reader first c.from_residual-in_err-next.result parts (search rules)
