use Rattle.std.proofs.Common.{◌≡◌, ◌++◌, length}
use Rattle.command_text.specs.Text.{move_legs_text}
use Rattle.command_text.proofs.printing.put_move_legs.Given as goal

-- what was written and what is left to write make the whole
abbrev pub invariant-legs : goal.invariant-legs
invariant-legs l = l.out.items ++ move_legs_text l.xs l.ys ≡ l.fn.out.items ++ move_legs_text l.x l.y

abbrev pub decreases-legs : goal.decreases-legs
decreases-legs l = length l.xs
