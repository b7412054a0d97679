-- The groups that were passed have no line feed.
use Rattle.std.proofs.Common.{◌≡◌, ◌≤◌, ◌+◌, ◌-◌, length}
use Rattle.users.specs.Tagged.{line_len}
use Rattle.users.proofs.tag.after_groups.Given as goal

abbrev pub invariant-groups : goal.invariant-groups
invariant-groups l = (length l.rest ≤ length l.bytes)
    × (line_len l.bytes ≡ length l.bytes - length l.rest + line_len l.rest)

abbrev pub decreases-groups : goal.decreases-groups
decreases-groups l = length l.rest
