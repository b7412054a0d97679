use Rattle.std.proofs.Common.{◌≡◌, ◌-◌, pos, ◌*ℤ◌, ◌≤ℤ◌, sym, ◌∙◌, arith}
use Rattle.std.proofs.lemmas.Bool.{false≢true}
use Rattle.std.proofs.lemmas.Int.{ints}
use Rattle.exact.proofs.Sizes.{steps}
use Rattle.distance_crossing.specs.Far.{pass_by}
use Rattle.distance_crossing.proofs.FarLemmas.{far_never_near, seen_near}
use Rattle.distance_crossing.proofs.sphere.near_run.Goals as goal

pub returns-then-pass_by-clause-runs : goal.returns-then-pass_by-clause-runs
returns-then-pass_by-clause-runs g c =
    let positive : pos 0 ≤ℤ c.diameter.result = omega (arith, ints) in
    far_never_near c.args.p.now c.args.q.now c.args.w c.args.r c.diameter.result positive c.diameter.ensures (c.pass_by.ensures.far c.if-pass_by.true)

pub returns-clause-runs : goal.returns-clause-runs
returns-clause-runs g c =
    seen_near c.args.p.now c.args.q.now c.args.w c.between.result c.between.ensures c.args.r _ _ (grind (arith, steps)) c.within.ensures.runs

pub returns-clause-far : goal.returns-clause-far
returns-clause-far g c = λ e.
    let same : pass_by c.diameter.result c.args.p.now c.args.q.now (c.args.w.hi - c.args.w.lo) ≡ pass_by (pos 2 *ℤ c.args.r) c.args.p.now c.args.q.now (c.args.w.hi - c.args.w.lo)
    = λ i. pass_by (c.diameter.ensures i) c.args.p.now c.args.q.now (c.args.w.hi - c.args.w.lo) in
    absurd (false≢true (sym c.if-pass_by.false ∙ c.pass_by.ensures.value ∙ same ∙ e))
