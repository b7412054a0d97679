use Rattle.std.proofs.Common.{◌≡◌, ◌++◌, length}
use Rattle.std.specs.List.{flat_map}
use Rattle.command_text.specs.Text.{point_text}
use Rattle.command_text.proofs.printing.put_points.Given as goal

-- what was written and what is left to write make the whole
abbrev pub invariant-points : goal.invariant-points
invariant-points l = l.out.items ++ flat_map point_text l.rest ≡ l.fn.out.items ++ flat_map point_text l.points

abbrev pub decreases-points : goal.decreases-points
decreases-points l = length l.rest
