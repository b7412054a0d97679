use Rattle.std.proofs.Common.{◌/◌, ◌%◌}
use Rattle.kept_rows.proofs.SlotLemmas.{has_none}
use Rattle.kept_rows.proofs.slots.Slots.none.Goals as goal

pub returns : goal.returns
returns c = λ t. has_none (t / 64 % 64)
