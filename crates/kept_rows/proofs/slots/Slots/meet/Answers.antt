use Rattle.std.proofs.Common.{◌/◌, ◌%◌, arith}
use Rattle.std.proofs.lemmas.Bool.{not-false, not-true}
use Rattle.std.proofs.lemmas.Bool.Decides.{nat_tests}
use Rattle.kept_rows.proofs.SlotLemmas.{has_both}
use Rattle.kept_rows.proofs.slots.Slots.meet.Goals as goal

pub returns : goal.returns
returns c = λ e t. has_both c.args.self.bits c.args.other.bits (t / 64 % 64) (grind (arith, nat_tests, not-false, not-true, e))
