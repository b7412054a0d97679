use Rattle.std.proofs.Common.{◌≡◌, length}
use Rattle.places.specs.Boxes.{AreSlotsBut}
use Rattle.places.proofs.order.renumber.Given as goal

-- the numbers in the slots so far have these
abbrev pub invariant-slots : goal.invariant-slots
invariant-slots l = record {
  long : length l.slots.items ≡ length l.initial.slots.items;
  but : AreSlotsBut l.slot l.slots.items l.numbers;
}
