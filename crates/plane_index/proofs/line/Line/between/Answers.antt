use Rattle.std.proofs.Common.{◌-◌, pos, ◌≤ℤ◌, ◌<ℤ◌, Bool, ◌&&◌, ap, ◌∙◌, arith}
use Rattle.std.proofs.lemmas.Int.{ints}
use Rattle.tick_set.specs.Ticks.{within}
use Rattle.plane_index.proofs.LineLemmas.{downward, fallen, risen, upward}
use Rattle.plane_index.proofs.line.Line.between.Goals as goal

pub returns-then-self-ge0 : goal.returns-then-self-ge0
returns-then-self-ge0 c =
    let l = c.args.self.now in
    let up = c.if-self-ge0.true in
    let slope = l.slope_size in
    let level : pos 0 ≤ℤ l.slope = omega (arith, ints, up, slope) in
    let w = c.args.w in
    let rise = c.unsigned_abs-rise.result in
    let size = c.unsigned_abs-rise.ensures.value in
    let start = l.start_size in
    let lo = c.raw.ensures.value in
    let hi = c.raw-then-self-ge0.ensures.value in
    let lo_size = c.raw.ensures.in_range in
    let hi_size = c.raw-then-self-ge0.ensures.in_range in
    let steep = upward l.slope rise level (omega (arith, ints, size, slope)) in
    let runs = c.rising_between.ensures in
    record {
      normal = runs.normal;
      ticks = λ t.
          runs.ticks t
          ∙ ap (λ (b : Bool). within w.lo w.hi t && b) (risen c.args.lo c.args.hi l.start l.slope _ _ rise (t - w.lo) steep (omega (arith, ints, lo, lo_size, start)) (omega (arith, ints, hi, hi_size, start)));
    }

pub returns-else-self-ge0 : goal.returns-else-self-ge0
returns-else-self-ge0 c =
    let l = c.args.self.now in
    let down = c.if-self-ge0.false in
    let slope = l.slope_size in
    let below : l.slope <ℤ pos 0 = omega (arith, ints, down, slope) in
    let w = c.args.w in
    let rise = c.unsigned_abs-rise.result in
    let size = c.unsigned_abs-rise.ensures.value in
    let start = l.start_size in
    let hi = c.raw-else-self-ge0.ensures.value in
    let lo = c.raw-else-self-ge0-2.ensures.value in
    let hi_size = c.raw-else-self-ge0.ensures.in_range in
    let lo_size = c.raw-else-self-ge0-2.ensures.in_range in
    let steep = downward l.slope rise below (omega (arith, ints, size, slope)) in
    let runs = c.rising_between-else-self-ge0.ensures in
    record {
      normal = runs.normal;
      ticks = λ t.
          runs.ticks t
          ∙ ap (λ (b : Bool). within w.lo w.hi t && b) (fallen c.args.lo c.args.hi l.start l.slope _ _ rise (t - w.lo) steep (omega (arith, ints, hi, hi_size, start)) (omega (arith, ints, lo, lo_size, start)));
    }
