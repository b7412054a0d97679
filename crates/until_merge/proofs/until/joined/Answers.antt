use Rattle.until_merge.proofs.UntilLemmas.{done_normal, done_apart, done_ticks}
use Rattle.until_merge.proofs.until.joined.Goals as goal

pub returns-clause-normal : goal.returns-clause-normal
returns-clause-normal c = rw c.in_ok-push.ensures.items (done_normal _ c.args.before c.args.run c.requires.normal c.requires.apart c.if-run-before.false)

pub returns-clause-apart : goal.returns-clause-apart
returns-clause-apart c = rw c.in_ok-push.ensures.items (done_apart _ c.args.before c.args.run c.requires.normal c.requires.apart c.if-run-before.false)

pub returns-clause-ticks : goal.returns-clause-ticks
returns-clause-ticks c = rw c.in_ok-push.ensures.items (done_ticks _ c.args.before c.args.run c.requires.normal c.requires.apart c.if-run-before.false)
