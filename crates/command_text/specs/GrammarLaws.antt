-- What is read and what is refused, in words of the grammar alone.
use Rattle.std.specs.Prelude.{◌≡◌, ◌↔◌, ℕ, Bool, true, false, List, [], Some, None}
use Rattle.command_text.specs.declared.fault.CommandFault.{CommandFault}
use Rattle.command_text.specs.declared.fault.CommandFault.TheVariants as faults
use Rattle.command_text.specs.declared.refusal.Refusal.{Refusal}
use Rattle.command_text.specs.declared.refusal.Refusal.TheVariants as refusals
use Rattle.command_text.specs.Piece.{Piece, line_pieces}
use Rattle.command_text.specs.Tree
use Rattle.command_text.specs.Tree.{CommandTree}
use Rattle.command_text.specs.Grammar.{Notes, good, first_notes, SpellsCommand}
use Rattle.command_text.specs.inner.Reading.{Reader, notes, before, command_of}
use Rattle.command_text.specs.Line.{is_comment, early_refusal, IsRead, Explains}

-- what tokens spell is what is read from them, with no token left, and the same is known of its numbers and sizes
pub record AreReadByTheGrammar (tokens : List Piece) : Type 0 where
  pub spelled_is_read : (c : CommandTree) (s t : Notes) → SpellsCommand c s t tokens → command_of (before tokens s) ≡ Some (c, before [] t)
  pub read_is_spelled : (c : CommandTree) (s : Notes) (behind : Reader) → command_of (before tokens s) ≡ Some (c, behind)
      → SpellsCommand c s (notes behind) tokens
  pub one_command : (c d : CommandTree) (s t u : Notes) → SpellsCommand c s t tokens → SpellsCommand d s u tokens → c ≡ d

-- the line isn't too long, has no byte that it may not have, and is a comment or is cut into tokens
abbrev pub PassesTheFirstThree : ℕ → List ℕ → Type 0
PassesTheFirstThree limit line = early_refusal limit line ≡ None

-- the tokens of the line spell this command, with each number in the range of its place and each size within its limit
abbrev pub SpellsWithinLimits : List ℕ → CommandTree → Type 0
SpellsWithinLimits line c = SpellsCommand c (first_notes line) good (line_pieces line)

-- they spell no command
abbrev pub SpellsNoCommand : List ℕ → Type 0
SpellsNoCommand line = (c : CommandTree) (s : Notes) → SpellsCommand c (first_notes line) s (line_pieces line) → ⊥

-- they spell a command with a number out of the range of its place
abbrev pub SpellsUnfitNumber : List ℕ → Type 0
SpellsUnfitNumber line = (c : CommandTree) × (small : Bool) × SpellsCommand c (first_notes line) (false, small) (line_pieces line)

-- they spell a command with each number in the range of its place, but a size past its limit
abbrev pub SpellsLargeSize : List ℕ → Type 0
SpellsLargeSize line = (c : CommandTree) × SpellsCommand c (first_notes line) (true, false) (line_pieces line)

-- a comment is read as nothing, and any other line as the command that its tokens spell, just where the line passes the first three refusals
pub record IsReadByTheGrammar (limit : ℕ) (line : List ℕ) : Type 0 where
  pub comment : is_comment line ≡ true → (c : CommandTree) → IsRead limit line c ↔ (PassesTheFirstThree limit line × (c ≡ Tree.Nothing))
  pub other : is_comment line ≡ false → (c : CommandTree) → IsRead limit line c ↔ (PassesTheFirstThree limit line × SpellsWithinLimits line c)

-- the line is to be judged by what its tokens spell
pub record IsJudgedByTokens (limit : ℕ) (line : List ℕ) : Type 0 where
  pub passed : PassesTheFirstThree limit line
  pub no_comment : is_comment line ≡ false

-- what a refusal says of the line: three speak of what its tokens spell, and of the others only the first three are ever told
abbrev pub IsRefusedFor : ℕ → List ℕ → Refusal → Type 0
IsRefusedFor limit line refusals.BadSyntax = IsJudgedByTokens limit line × SpellsNoCommand line
IsRefusedFor limit line refusals.NumberRange = IsJudgedByTokens limit line × SpellsUnfitNumber line
IsRefusedFor limit line refusals.TooLarge = IsJudgedByTokens limit line × SpellsLargeSize line
IsRefusedFor limit line r = early_refusal limit line ≡ Some r

-- what is read of a line: nothing of a comment, and of any other line the command that its tokens spell
pub record IsSpelled (limit : ℕ) (line : List ℕ) (c : CommandTree) : Type 0 where
  pub passed : PassesTheFirstThree limit line
  pub comment : is_comment line ≡ true → c ≡ Tree.Nothing
  pub other : is_comment line ≡ false → SpellsWithinLimits line c

-- why a line isn't read; there is memory enough for the first three refusals
abbrev pub IsFaultOf : ℕ → List ℕ → CommandFault → Type 0
IsFaultOf limit line (faults.Refused r) = IsRefusedFor limit line r
IsFaultOf limit line faults.NoMemory = PassesTheFirstThree limit line

-- the line is refused just for what its refusal says
abbrev pub IsRefusedByTheGrammar : ℕ → List ℕ → Type 0
IsRefusedByTheGrammar limit line = (r : Refusal) → Explains limit line (faults.Refused r) ↔ IsRefusedFor limit line r
