use Rattle.line_meaning.proofs.LongLemmas.{long_refusal, long_step}
use Rattle.line_meaning.proofs.laws.long_lines_step_alike.Goals as goal

pub returns-clause-refusal : goal.returns-clause-refusal
returns-clause-refusal c = long_refusal

pub returns-clause-step : goal.returns-clause-step
returns-clause-step c = long_step
