-- Each refusal has the name of its number.
use Rattle.command_text.proofs.Names.{◌≡◌, Some, refl, word_of, refusal_names, Refusal}
use Rattle.command_text.specs.declared.refusal.Refusal.TheVariants as refusals
use Rattle.command_text.specs.Refusals.{refusal_number, refusal_name}

pub each_is_named : (r : Refusal) → word_of refusal_names (refusal_number r) ≡ Some (refusal_name r)
unfolding refusal_names
each_is_named refusals.LineTooLong = refl
each_is_named refusals.NotAscii = refl
each_is_named refusals.BadToken = refl
each_is_named refusals.BadSyntax = refl
each_is_named refusals.NumberRange = refl
each_is_named refusals.TooLarge = refl
each_is_named refusals.UnknownName = refl
each_is_named refusals.NameTaken = refl
each_is_named refusals.WrongKind = refl
each_is_named refusals.NotConvex = refl
each_is_named refusals.TermRange = refl
each_is_named refusals.SpanRange = refl
each_is_named refusals.ClockEnd = refl
each_is_named refusals.Presence = refl
each_is_named refusals.ClassFull = refl
each_is_named refusals.StoreFull = refl
each_is_named refusals.BindingLimit = refl
each_is_named refusals.JournalFull = refl
each_is_named refusals.NoFile = refl
each_is_named refusals.BadFile = refl
