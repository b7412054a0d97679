use Rattle.run_ends.proofs.CallerLemmas.{whole_by_status, whole_without_faults}
use Rattle.domino_run.specs.Machine.{run_leaves, run_machine, texts_in}
use Rattle.domino_run.specs.Theorem.{run_setting}
use Rattle.domino_run.proofs.laws.a_run_without_faults_is_whole.Goals as goal

pub returns-clause-by_status : goal.returns-clause-by_status
returns-clause-by_status c = λ g status after is ends. whole_by_status run_machine run_leaves texts_in g after status is ends

pub returns-clause-complete : goal.returns-clause-complete
returns-clause-complete c = λ limit words before after looks looks' status bytes written texts runs left_is written_is texts_is none.
    whole_without_faults run_machine run_leaves texts_in (run_setting words limit bytes written texts) after before.faults status none runs.cause
    (runs.ends bytes written texts left_is written_is texts_is)
