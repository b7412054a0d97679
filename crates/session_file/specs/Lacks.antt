-- Where the reading of a text may find no memory.
use Rattle.std.specs.Prelude.{◌≡◌, ◌≢◌, ◌⊎◌, ◌&&◌, ℕ, true, false, None, List, [], ◌∷◌, ◌++◌, codes}
use Rattle.std.specs.Str.{bytes_eq}
use Rattle.command_text.specs.Line.{early_refusal}
use Rattle.command_text.specs.Tree.{CommandTree}
use Rattle.session_file.specs.declared.counts.Progress.{Progress}
use Rattle.session_file.specs.declared.kept.TheConstants.{SESSION_LINE_LIMIT}
use Rattle.session_file.specs.Kept.{is_passed}
use Rattle.session_file.specs.Reading.{Reading, may_end, may_go_on, read_on}

-- at a line where a command may stand, of which none of the refusals holds that are told without memory
pub record IsAtCommand (left : Reading) : Type 0 where
  pub progress : Progress
  pub number : ℕ
  pub line : List ℕ
  pub rest : List (List ℕ)
  pub reads : left ≡ read_on progress number (line ∷ rest)
  pub written : is_passed line ≡ false
  pub other : (bytes_eq line (codes "end") && may_end progress) ≡ false
  pub room : may_go_on progress ≡ true
  pub late : early_refusal SESSION_LINE_LIMIT line ≡ None

-- these commands, and then what is left
abbrev pub after_commands : List (ℕ × CommandTree) → Reading → Reading
after_commands first left = record { commands = first ++ left.commands; fault = left.fault }

-- each line before it is passed over or a command, and at the line itself a command was read or is to be read
pub record LacksMemoryAt (whole : Reading) : Type 0 where
  pub first : List (ℕ × CommandTree)
  pub left : Reading
  pub parts : whole ≡ after_commands first left
  pub at : (left.commands ≢ []) ⊎ IsAtCommand left
