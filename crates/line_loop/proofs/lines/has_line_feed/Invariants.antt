-- Those bytes are told of that were looked at.
use Rattle.std.proofs.Common.{◌≡◌, ◌==◌, take}
use Rattle.std.specs.List.{list_any}
use Rattle.line_loop.specs.Lines.{line_feed_byte}
use Rattle.line_loop.proofs.lines.has_line_feed.Given as goal

abbrev pub invariant-bytes : goal.invariant-bytes
invariant-bytes l = list_any (λ byte. byte == line_feed_byte) (take l.byte-index l.group) ≡ l.found
