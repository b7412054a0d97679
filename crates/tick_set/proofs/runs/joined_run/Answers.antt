use Rattle.std.proofs.Common.{arith}
use Rattle.tick_set.proofs.JoinLemmas.{apart_from_last}
use Rattle.tick_set.proofs.runs.joined_run.Goals as goal

pub returns-else-runs-last-clause-apart : goal.returns-else-runs-last-clause-apart
returns-else-runs-last-clause-apart c =
    apart_from_last c.args.runs.now c.args.span c.requires.normal c.requires.past c.in_ok-last.last c.index-runs-last.result (omega arith) c.if-runs-last.false
