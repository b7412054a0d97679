use Rattle.interval_set.proofs.MergeLemmas.{grown_apart, grown_both}
use Rattle.interval_set.proofs.SpanLemmas.{normal_more}
use Rattle.interval_set.proofs.merge.grown.Goals as goal

pub returns-clause-normal : goal.returns-clause-normal
returns-clause-normal c = rw c.push_reserved.ensures.items (normal_more _ _ c.requires.normal c.requires.apart)

pub returns-clause-apart : goal.returns-clause-apart
returns-clause-apart c = rw c.push_reserved.ensures.items (grown_apart c.args.made.now.items c.args.run c.args.s c.requires.apart c.if-s-run.false)

pub returns-clause-ticks : goal.returns-clause-ticks
returns-clause-ticks c = rw c.push_reserved.ensures.items (grown_both c.args.made.now.items c.args.run c.args.s)
