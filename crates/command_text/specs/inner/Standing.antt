-- Where the reader of the program stands in a line.
use Rattle.std.specs.Prelude.{◌≡◌, ◌&&◌, ℕ, List, None, drop}
use Rattle.command_text.specs.declared.fault.CommandFault.{CommandFault}
use Rattle.command_text.specs.declared.fault.CommandFault.TheVariants as faults
use Rattle.command_text.specs.declared.refusal.Refusal.TheVariants as refusals
use Rattle.command_text.specs.declared.at.At.{At}
use Rattle.command_text.specs.Piece.{line_pieces, has_short_words}
use Rattle.command_text.specs.inner.Reading.{Reader, Read}

abbrev pub standing : List ℕ → At → Reader
standing line at = record { rest = drop at.place (line_pieces line); fit = at.fit; small = has_short_words line && at.small }

-- why a part isn't read: its tokens are no such part, or there is no memory
abbrev pub StopsPart : {A : Type 0} → Read A → CommandFault → Type 0
StopsPart part (faults.Refused r) = (r ≡ refusals.BadSyntax) × (part ≡ None)
StopsPart part faults.NoMemory = Unit {0}
