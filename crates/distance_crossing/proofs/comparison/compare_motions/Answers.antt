use Rattle.std.proofs.Common.{sym, ◌∙◌}
use Rattle.std.proofs.lemmas.Bool.{false≢true}
use Rattle.distance_crossing.proofs.FarLemmas.{far_compares, seen_compares}
use Rattle.distance_crossing.proofs.comparison.compare_motions.Goals as goal

pub returns-then-pass_by-clause-runs : goal.returns-then-pass_by-clause-runs
returns-then-pass_by-clause-runs g c =
    far_compares c.args.p.now c.args.q.now c.args.w c.args.op c.args.c c.holds.result c.everywhere.result (c.pass_by.ensures.far c.if-pass_by.true)
    c.holds.ensures.value c.everywhere.ensures

pub returns-clause-runs : goal.returns-clause-runs
returns-clause-runs g c =
    seen_compares c.args.p.now c.args.q.now c.args.w c.between.result c.between.ensures c.args.op c.args.c c.compare.result c.compare.ensures.runs

pub returns-clause-far : goal.returns-clause-far
returns-clause-far g c = λ e. absurd (false≢true (sym c.if-pass_by.false ∙ c.pass_by.ensures.value ∙ e))
