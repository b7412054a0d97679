use Rattle.kept_rows.proofs.SlotLemmas.{has_all}
use Rattle.kept_rows.proofs.slots.Slots.all.Goals as goal

pub returns : goal.returns
returns c = λ t. has_all t
