-- What is written and what is left of the first line are it, and there is room for what is left.
use Rattle.std.proofs.Common.{length}
use Rattle.std.specs.Prelude.{vec_capacity, vec_len}
use Rattle.users.proofs.FirstLemmas.{IsFirstPart}
use Rattle.users.proofs.tag.push_first.Given as goal

abbrev pub invariant-bytes : goal.invariant-bytes
invariant-bytes l =
    IsFirstPart l.fn.out.items l.bytes (vec_len l.fn.out) (vec_capacity l.fn.out) l.rest l.out.items (vec_len l.out) (vec_capacity l.out)

abbrev pub decreases-bytes : goal.decreases-bytes
decreases-bytes l = length l.rest
