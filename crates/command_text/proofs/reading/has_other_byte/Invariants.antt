-- Those bytes are told of that were looked at.
use Rattle.std.proofs.Common.{◌≡◌, take}
use Rattle.command_text.specs.Line.{has_other_byte}
use Rattle.command_text.proofs.reading.has_other_byte.Given as goal

abbrev pub invariant-bytes : goal.invariant-bytes
invariant-bytes l = has_other_byte (take l.byte-index l.line) ≡ l.found
