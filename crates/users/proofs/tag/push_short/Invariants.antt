-- Some lines are written, and there is room for what is left.
use Rattle.std.proofs.Common.{◌+◌, ◌*◌, ◌≤◌, length}
use Rattle.std.specs.Prelude.{vec_capacity, vec_len}
use Rattle.users.proofs.LineLemmas.{IsPart}
use Rattle.users.proofs.tag.push_short.Given as goal
use Rattle.users.specs.declared.tag.TheConstants.{GROWTH}

abbrev pub invariant-lines : goal.invariant-lines
invariant-lines l = IsPart l.user l.bytes l.fn.out.items l.left l.out.items × (vec_len l.out + length l.left * GROWTH ≤ vec_capacity l.out)

abbrev pub decreases-lines : goal.decreases-lines
decreases-lines l = length l.left
