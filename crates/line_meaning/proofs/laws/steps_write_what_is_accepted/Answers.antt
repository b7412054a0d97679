use Rattle.line_meaning.proofs.ReachedLemmas.{command_is_reached, writes_are_accepted}
use Rattle.line_meaning.proofs.StepLemmas.{step_is_reached}
use Rattle.line_meaning.proofs.laws.steps_write_what_is_accepted.Goals as goal

pub returns-clause-writes : goal.returns-clause-writes
returns-clause-writes c = writes_are_accepted

pub returns-clause-none : goal.returns-clause-none
returns-clause-none c = tt

pub returns-clause-command : goal.returns-clause-command
returns-clause-command c = command_is_reached

pub returns-clause-step : goal.returns-clause-step
returns-clause-step c =
    step_is_reached c.commands_are_printable.ensures c.row_lines_are_short.ensures c.read_commands_are_printable.ensures c.canonical_lines_are_short.ensures.limit
