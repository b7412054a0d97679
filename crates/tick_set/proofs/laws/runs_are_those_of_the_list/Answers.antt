use Rattle.tick_set.proofs.RunLemmas.{runs_of_all, runs_of_listed}
use Rattle.tick_set.proofs.laws.runs_are_those_of_the_list.Goals as goal

pub returns : goal.returns
returns c = record { all = runs_of_all; within = runs_of_listed }
