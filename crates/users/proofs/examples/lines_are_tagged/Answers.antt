use Rattle.std.proofs.Common.{refl}
use Rattle.users.proofs.examples.lines_are_tagged.Goals as goal

pub returns : goal.returns
returns c = record { two_lines = refl; no_line = refl; for_one = refl; for_no_front = refl }
