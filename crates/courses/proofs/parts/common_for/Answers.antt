use Rattle.std.proofs.Common.{◌<◌, length, get_or, refl, sym, subst, ◌∙◌, arith, length-set}
use Rattle.motion.specs.declared.asked.Asked.{Asked}
use Rattle.motion.specs.Timeline.{AreBegunUpTo}
use Rattle.courses.specs.Parts.{asked_at, asked_each, epochs_of_each, IsTimelinePart}
use Rattle.courses.proofs.CountLemmas.{fewer_left, no_more_left}
use Rattle.courses.proofs.PartLemmas.{begun_more, common_more, common_whole, epochs_in, filled_more, item_asked, item_of, length-asked_each, length-epochs_of_each, steady_in}
use Rattle.courses.proofs.parts.common_for.Goals as goal

pub part_for-part-requires : goal.part_for-part-requires
part_for-part-requires c =
    let timelines = c.args.timelines.now in
    let k = c.loop-k.k in
    let there : k < length timelines = omega arith in
    record {
      begun =
          subst (λ epochs. AreBegunUpTo epochs c.args.at (get_or c.args.begun.now k 0)) (item_of timelines k c.index-timelines-k.result there c.index-timelines-k.is)
          (c.requires.begun k (omega (arith, length-epochs_of_each timelines)));
      order = c.loop-k.invariant.common.past;
      tick = omega (arith, c.loop-k.invariant.common.within, c.requires.tick);
    }

pub loop-k-preserved : goal.loop-k-preserved
loop-k-preserved c =
    let timelines = c.args.timelines.now in
    let asked = c.args.asked.now in
    let k = c.loop-k.k in
    let there : k < length timelines = omega arith in
    let inside : k < length (epochs_of_each timelines) = omega (arith, length-epochs_of_each timelines) in
    let item = item_of timelines k c.index-timelines-k.result there c.index-timelines-k.is in
    let part = c.part_for-part.ensures in
    let P : Asked → Type 0 = λ a. IsTimelinePart a c.index-timelines-k.result.now c.args.at c.loop-k.end c.part_for-part.result.end in
    record {
      common =
          common_more (asked_each asked (epochs_of_each timelines)) k (asked_at asked k) c.index-timelines-k.result.now c.args.at c.args.last c.loop-k.end c.part_for-part.result.end
          (omega (arith, length-asked_each asked (epochs_of_each timelines), inside))
          (item_asked asked timelines k c.index-timelines-k.result there c.index-timelines-k.is) c.loop-k.invariant.common (subst P c.asked_at.ensures part.part);
      size = length-set c.loop-k.epochs k c.part_for-part.result.epoch ∙ c.loop-k.invariant.size;
      filled =
          filled_more (epochs_of_each timelines) c.args.at k c.loop-k.epochs c.part_for-part.result.epoch (omega (arith, c.loop-k.invariant.size, c.requires.few))
          (grind (arith, part.epoch, item)) c.loop-k.invariant.filled;
      begun =
          begun_more (epochs_of_each timelines) c.args.begun.now c.args.at k c.loop-k.end c.part_for-part.result.end part.part.past part.part.within c.requires.begun inside
          c.loop-k.invariant.begun (subst (λ epochs. AreBegunUpTo epochs c.part_for-part.result.end (get_or c.args.begun.now k 0)) (sym item) part.begun);
    }

pub returns-clause-part : goal.returns-clause-part
returns-clause-part c =
    let common = common_whole c.args.asked.now c.args.timelines.now c.loop-k.k c.args.at c.args.last c.loop-k.end c.loop-k-test.false c.loop-k.invariant.common in
    record { begins = refl; within = common.within; steady = common.steady; ends = common.ends }

pub returns-clause-epochs : goal.returns-clause-epochs
returns-clause-epochs c =
    let common = common_whole c.args.asked.now c.args.timelines.now c.loop-k.k c.args.at c.args.last c.loop-k.end c.loop-k-test.false c.loop-k.invariant.common in
    epochs_in c.args.asked.now (epochs_of_each c.args.timelines.now) c.args.at c.loop-k.end c.loop-k.k c.loop-k.epochs common.past
    (omega (arith, length-epochs_of_each c.args.timelines.now, c.loop-k-test.false)) common.steady c.loop-k.invariant.filled

pub returns-clause-steady : goal.returns-clause-steady
returns-clause-steady c =
    let common = common_whole c.args.asked.now c.args.timelines.now c.loop-k.k c.args.at c.args.last c.loop-k.end c.loop-k-test.false c.loop-k.invariant.common in
    steady_in c.args.asked.now (epochs_of_each c.args.timelines.now) c.args.at c.loop-k.end c.loop-k.k c.loop-k.epochs common.past
    (omega (arith, length-epochs_of_each c.args.timelines.now, c.loop-k-test.false)) common.steady c.loop-k.invariant.filled

pub returns-clause-fewer : goal.returns-clause-fewer
returns-clause-fewer c = fewer_left c.args.asked.now c.args.timelines.now c.loop-k.k c.args.at c.args.last c.loop-k.end c.loop-k-test.false c.loop-k.invariant.common

pub returns-clause-not_more : goal.returns-clause-not_more
returns-clause-not_more c = no_more_left c.args.asked.now c.args.timelines.now c.loop-k.k c.args.at c.args.last c.loop-k.end c.loop-k-test.false c.loop-k.invariant.common
