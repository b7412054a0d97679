-- The groups that were passed have no line feed.
use Rattle.std.proofs.Common.{◌≡◌, ◌≤◌, ◌+◌, ◌-◌, ◌==◌, length}
use Rattle.std.specs.List.{position_or_len}
use Rattle.line_loop.specs.Lines.{line_feed_byte}
use Rattle.line_loop.proofs.lines.after_groups.Given as goal

abbrev pub invariant-groups : goal.invariant-groups
invariant-groups l = (length l.rest ≤ length l.bytes)
    × (position_or_len (λ byte. byte == line_feed_byte) l.bytes
    ≡ length l.bytes - length l.rest + position_or_len (λ byte. byte == line_feed_byte) l.rest)

abbrev pub decreases-groups : goal.decreases-groups
decreases-groups l = length l.rest
