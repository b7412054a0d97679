use Rattle.std.proofs.Common.{◌-◌, ◌*◌, pos, ◌∙◌, arith}
use Rattle.std.proofs.lemmas.Int.{ints}
use Rattle.plane_index.proofs.LineLemmas.{in_stretch}
use Rattle.plane_index.proofs.line.rising_between.Goals as goal

pub returns : goal.returns
returns c =
    let w = c.args.w in
    let first = c.first_reached-first in
    let end = c.first_reached-end in
    let runs = c.stretch.ensures.ticks in
    let low = c.ranges.low.sfits in
    let high = c.ranges.high.sfits in
    let size = c.requires.size in
    record {
      normal = runs.normal;
      ticks = λ t.
          runs.ticks t
          ∙ in_stretch w.lo w.hi first.result end.result t c.args.low c.args.high _ _ (pos (c.args.rise * (t - w.lo))) w.ordered end.ensures.bound (omega (arith, ints, low))
          (omega (arith, ints, high, size)) (first.ensures.first (t - w.lo)) (end.ensures.first (t - w.lo));
    }
