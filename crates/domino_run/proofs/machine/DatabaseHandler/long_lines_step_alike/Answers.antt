use Rattle.domino_run.proofs.LongLines.{long_lines_alike, long_lines_cost}
use Rattle.domino_run.proofs.machine.DatabaseHandler.long_lines_step_alike.Goals as goal

pub returns-clause-steps : goal.returns-clause-steps
returns-clause-steps g c = long_lines_alike c.long_lines_step_alike.ensures.refusal c.long_lines_step_alike.ensures.step

pub returns-clause-costs : goal.returns-clause-costs
returns-clause-costs g c = long_lines_cost
