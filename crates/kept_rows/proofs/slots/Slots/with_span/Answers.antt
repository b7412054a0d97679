use Rattle.std.proofs.Common.{◌%◌, ◌/◌, eqb, ◌∙◌, arith}
use Rattle.std.proofs.lemmas.Bool.{or_left}
use Rattle.kept_rows.specs.Slots.{has_slot}
use Rattle.kept_rows.proofs.SlotLemmas.{slot_more, span_done}
use Rattle.kept_rows.proofs.slots.Slots.with_span.Goals as goal

pub slots-preserved : goal.slots-preserved
slots-preserved c = record {
  most = omega (arith, c.slots-test.true);
  kept = λ t e. c.with_slot-slots.ensures t ∙ or_left (has_slot c.slots.slots t) (eqb (t / 64 % 64) (c.slots.slot % 64)) (c.slots.invariant.kept t e);
  done = slot_more c.slots.slots c.with_slot-slots.result (c.args.s.lo / 64) c.slots.slot c.with_slot-slots.ensures c.slots.invariant.done;
}

pub returns : goal.returns
returns c = span_done c.args.self c.slots.slots c.args.s.lo c.args.s.hi c.slots.slot c.slots.invariant.kept c.slots.invariant.done (omega (arith, c.slots-test.false))
