-- Whether an object is there while an epoch is in force.
use Rattle.std.specs.Prelude.{Bool, true, false, not, Option, is_some, option_and_then}
use Rattle.motion.specs.Timeline.{Epoch}

abbrev pub is_there : Option Epoch → Bool
is_there epoch = is_some (option_and_then (λ p. p.cells) epoch)

-- what is asked for: that something is so, or that it isn't
abbrev pub is_as : Bool → Bool → Bool
is_as true so = so
is_as false so = not so
