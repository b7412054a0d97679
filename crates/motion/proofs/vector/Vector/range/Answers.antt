use Rattle.std.proofs.Common.{arith}
use Rattle.motion.proofs.RangeLemmas.{range_none, range_more}
use Rattle.motion.proofs.vector.Vector.range.Goals as goal

pub legs-init : goal.legs-init
legs-init c = record { from = omega arith; upto = omega arith; range = range_none c.args.self.now c.args.lo _ c.at-first.ensures.value }

pub legs-preserved : goal.legs-preserved
legs-preserved c =
    let turn = c.turn_before-at.ensures in
    let from = c.legs.invariant.from in
    record {
      from = omega (arith, turn.past);
      upto = turn.within;
      range =
          rw (c.lesser-least.ensures, c.greater-greatest.ensures)
          (range_more c.args.self.now c.legs.at _ (omega arith) turn.past turn.none c.args.lo c.legs.least c.legs.greatest _ from c.legs.invariant.range c.at-value.ensures.value);
    }
