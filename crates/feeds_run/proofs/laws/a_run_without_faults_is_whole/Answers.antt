use Rattle.feeds_run.proofs.EndLemmas.{whole_without_faults}
use Rattle.feeds_run.proofs.laws.a_run_without_faults_is_whole.Goals as goal

pub returns : goal.returns
returns c limit words before after status bytes written runs left_is written_is none =
    whole_without_faults words limit bytes written after before.faults status none runs.cause (runs.ends bytes written left_is written_is)
