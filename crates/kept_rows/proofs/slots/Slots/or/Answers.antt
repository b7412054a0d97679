use Rattle.std.proofs.Common.{◌/◌, ◌%◌}
use Rattle.kept_rows.proofs.SlotLemmas.{has_or}
use Rattle.kept_rows.proofs.slots.Slots.or.Goals as goal

pub returns : goal.returns
returns c = λ t. has_or c.args.self.bits c.args.other.bits (t / 64 % 64)
