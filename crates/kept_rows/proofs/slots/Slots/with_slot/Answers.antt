use Rattle.std.proofs.Common.{◌/◌, ◌%◌, arith}
use Rattle.kept_rows.proofs.SlotLemmas.{has_set}
use Rattle.kept_rows.proofs.slots.Slots.with_slot.Goals as goal

pub returns : goal.returns
returns c = λ t. has_set c.args.self.bits (c.args.slot % 64) (t / 64 % 64) (omega arith)
