-- What is written and what is left are the bytes, and there is room for what is left.
use Rattle.std.proofs.Common.{length}
use Rattle.std.specs.Prelude.{vec_capacity, vec_len}
use Rattle.users.proofs.PushLemmas.{IsPushed}
use Rattle.users.proofs.tag.push_each.Given as goal

abbrev pub invariant-bytes : goal.invariant-bytes
invariant-bytes l =
    IsPushed l.fn.out.items l.bytes (vec_len l.fn.out) (vec_capacity l.fn.out) l.rest l.out.items (vec_len l.out) (vec_capacity l.out)

abbrev pub decreases-bytes : goal.decreases-bytes
decreases-bytes l = length l.rest
