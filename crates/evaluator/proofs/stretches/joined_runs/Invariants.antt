use Rattle.evaluator.proofs.StretchLemmas.{JoinedSoFar}
use Rattle.evaluator.proofs.stretches.joined_runs.Given as goal

abbrev pub invariant-runs : goal.invariant-runs
invariant-runs l = JoinedSoFar l.runs l.run-index l.made.items l.last
