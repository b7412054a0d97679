use Rattle.std.proofs.Common.{arith}
use Rattle.interval_set.proofs.SpliceLemmas.{spliced_ticks}
use Rattle.interval_set.proofs.splice.spliced.Goals as goal

pub returns-clause-ticks : goal.returns-clause-ticks
returns-clause-ticks c =
    rw c.finish.ensures.value
    (spliced_ticks c.args.first.now c.args.second.now c.past.result.now c.append_part.new.runs c.append_part-2.new.runs c.args.at c.min.result c.min.ensures c.past.ensures.ticks
    (λ u. grind (arith, c.in_ok-append_part.ensures u, c.in_ok-runs.ensures))
    c.in_ok-append_part-2.ensures)
