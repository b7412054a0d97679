use Rattle.std.proofs.Common.{sym, ◌∙◌}
use Rattle.distance_crossing.proofs.FarLemmas.{by_first, by_second, passes_far}
use Rattle.distance_crossing.proofs.far.pass_by.Goals as goal

pub returns-then-stays_past-clause-value : goal.returns-then-stays_past-clause-value
returns-then-stays_past-clause-value c =
    by_first c.args.c c.args.p.now c.args.q.now c.args.last c.stays_past.result c.if-stays_past.true c.stays_past.ensures

pub returns-then-stays_past-clause-far : goal.returns-then-stays_past-clause-far
returns-then-stays_past-clause-far c = λ e.
    let is = by_first c.args.c c.args.p.now c.args.q.now c.args.last c.stays_past.result c.if-stays_past.true c.stays_past.ensures in
    passes_far c.args.p.now c.args.q.now c.args.c c.args.last (sym is ∙ e)

pub returns-else-stays_past-clause-value : goal.returns-else-stays_past-clause-value
returns-else-stays_past-clause-value c =
    by_second c.args.c c.args.p.now c.args.q.now c.args.last c.stays_past.result c.stays_past-else-stays_past.result
    c.if-stays_past.false c.stays_past.ensures c.stays_past-else-stays_past.ensures

pub returns-else-stays_past-clause-far : goal.returns-else-stays_past-clause-far
returns-else-stays_past-clause-far c = λ e.
    let is = by_second c.args.c c.args.p.now c.args.q.now c.args.last c.stays_past.result c.stays_past-else-stays_past.result
    c.if-stays_past.false c.stays_past.ensures c.stays_past-else-stays_past.ensures in
    passes_far c.args.p.now c.args.q.now c.args.c c.args.last (sym is ∙ e)
