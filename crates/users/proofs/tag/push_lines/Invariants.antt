use Rattle.std.proofs.Common.{length}
use Rattle.users.proofs.LineLemmas.{IsPart}
use Rattle.users.proofs.tag.push_lines.Given as goal

abbrev pub invariant-lines : goal.invariant-lines
invariant-lines l = IsPart l.user l.bytes l.fn.out.items l.left l.out.items

abbrev pub decreases-lines : goal.decreases-lines
decreases-lines l = length l.left
