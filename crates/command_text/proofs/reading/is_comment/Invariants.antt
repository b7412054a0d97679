use Rattle.std.proofs.Common.{◌≡◌, length}
use Rattle.command_text.specs.Line.{is_comment}
use Rattle.command_text.proofs.reading.is_comment.Given as goal

abbrev pub invariant-blanks : goal.invariant-blanks
invariant-blanks l = is_comment l.rest ≡ is_comment l.line

abbrev pub decreases-blanks : goal.decreases-blanks
decreases-blanks l = length l.rest
