-- The numbers of the refusals, and the lines that tell them.
use Rattle.std.specs.Prelude.{ℕ, List, [], ◌++◌, codes, decimal, unwrap_or}
use Rattle.case_table.specs.Rows.{word_of}
use Rattle.case_table.specs.Language.{refusal_names}
use Rattle.command_text.specs.declared.refusal.Refusal.{Refusal}
use Rattle.command_text.specs.declared.refusal.Refusal.TheVariants as refusals

abbrev pub refusal_number : Refusal → ℕ
refusal_number refusals.LineTooLong = 1
refusal_number refusals.NotAscii = 2
refusal_number refusals.BadToken = 3
refusal_number refusals.BadSyntax = 4
refusal_number refusals.NumberRange = 5
refusal_number refusals.TooLarge = 6
refusal_number refusals.UnknownName = 7
refusal_number refusals.NameTaken = 8
refusal_number refusals.WrongKind = 9
refusal_number refusals.NotConvex = 10
refusal_number refusals.TermRange = 11
refusal_number refusals.SpanRange = 12
refusal_number refusals.ClockEnd = 13
refusal_number refusals.Presence = 14
refusal_number refusals.ClassFull = 15
refusal_number refusals.StoreFull = 16
refusal_number refusals.BindingLimit = 17
refusal_number refusals.JournalFull = 18
refusal_number refusals.NoFile = 19
refusal_number refusals.BadFile = 20

-- the name that the table of the language gives to the number
abbrev pub refusal_name : Refusal → List ℕ
refusal_name r = unwrap_or (word_of refusal_names (refusal_number r)) []

-- `refused n Name`
unfoldable pub refusal_line : Refusal → List ℕ
refusal_line r = codes "refused " ++ decimal (refusal_number r) ++ codes " " ++ refusal_name r
