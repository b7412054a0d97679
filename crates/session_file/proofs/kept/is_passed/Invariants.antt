-- what was passed over says nothing of the line
use Rattle.std.proofs.Common.{◌≡◌, length}
use Rattle.session_file.specs.Kept.{is_passed}
use Rattle.session_file.proofs.kept.is_passed.Given as goal

abbrev pub invariant-blanks : goal.invariant-blanks
invariant-blanks l = is_passed l.rest ≡ is_passed l.line

abbrev pub decreases-blanks : goal.decreases-blanks
decreases-blanks l = length l.rest
