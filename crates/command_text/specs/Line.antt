-- Which lines are refused before anything is asked of the database, and what the others are.
use Rattle.std.specs.Prelude.{◌≡◌, ℕ, Bool, false, not, ◌==◌, ◌||◌, ◌&&◌, nat_lt, nat_le, is_some, is_none, Option, None, Some, option_map, List, [], ◌∷◌, length, if◌then◌else◌}
use Rattle.std.specs.Option.{option_map_or}
use Rattle.std.specs.List.{list_any}
use Rattle.ftl_lexer.specs.Forms.{is_blank}
use Rattle.ftl_lexer.specs.Tokens.{bad_place}
pub use Rattle.exact.specs.First.{first_that_holds, or_else}
use Rattle.command_text.specs.declared.fault.CommandFault.{CommandFault}
use Rattle.command_text.specs.declared.fault.CommandFault.TheVariants as faults
use Rattle.command_text.specs.declared.refusal.Refusal.{Refusal}
use Rattle.command_text.specs.declared.refusal.Refusal.TheVariants as refusals
use Rattle.command_text.specs.Grammar.{good}
use Rattle.command_text.specs.inner.Reading.{Read, before, at_first, command_of}
use Rattle.command_text.specs.Tree
use Rattle.command_text.specs.Tree.{CommandTree}

-- the first byte that is neither a space nor a tab is `#`
abbrev pub is_comment : List ℕ → Bool
is_comment [] = false
is_comment (b ∷ bytes) = if is_blank b then is_comment bytes else b == 35

-- the command of a line, and whether its numbers and sizes are within their limits; None where its tokens are no command
unfoldable pub command_in : List ℕ → Read CommandTree
command_in line = if is_comment line then Some (Tree.Nothing, before [] good) else command_of (at_first line)

-- LineTooLong
abbrev pub is_too_long : ℕ → List ℕ → Bool
is_too_long limit line = nat_lt limit (length line)

-- a tab, or 0x20 to 0x7E
abbrev pub is_ascii : ℕ → Bool
is_ascii b = b == 9 || (nat_le 32 b && nat_le b 126)

-- NotAscii
abbrev pub has_other_byte : List ℕ → Bool
has_other_byte line = list_any (λ b. not (is_ascii b)) line

-- BadToken
abbrev pub has_bad_token : List ℕ → Bool
has_bad_token line = not (is_comment line) && is_some (bad_place line)

-- BadSyntax
abbrev pub is_no_command : {A : Type 0} → Read A → Bool
is_no_command found = is_none found

-- NumberRange
abbrev pub has_unfit_number : {A : Type 0} → Read A → Bool
has_unfit_number found = option_map_or (λ c. not c.1.fit) found false

-- TooLarge
abbrev pub has_large_size : {A : Type 0} → Read A → Bool
has_large_size found = option_map_or (λ c. not c.1.small) found false

-- the refusals that are told without memory, in order, each with whether it holds
abbrev pub early : ℕ → List ℕ → List (Refusal × Bool)
early limit line =
    (refusals.LineTooLong, is_too_long limit line)
    ∷ (refusals.NotAscii, has_other_byte line)
    ∷ (refusals.BadToken, has_bad_token line)
    ∷ []

-- those of what was read
abbrev pub late : {A : Type 0} → Read A → List (Refusal × Bool)
late found =
    (refusals.BadSyntax, is_no_command found)
    ∷ (refusals.NumberRange, has_unfit_number found)
    ∷ (refusals.TooLarge, has_large_size found)
    ∷ []

abbrev pub early_refusal : ℕ → List ℕ → Option Refusal
early_refusal limit line = first_that_holds (early limit line)

abbrev pub late_refusal : {A : Type 0} → Read A → Option Refusal
late_refusal found = first_that_holds (late found)

-- the first refusal that holds of a line
abbrev pub first_refusal : ℕ → List ℕ → Option Refusal
first_refusal limit line = or_else (early_refusal limit line) (late_refusal (command_in line))

-- the line is refused by nothing, and is this command
pub record IsRead (limit : ℕ) (line : List ℕ) (c : CommandTree) : Type 0 where
  pub taken : first_refusal limit line ≡ None
  pub command : option_map (λ found. found.0) (command_in line) ≡ Some c

-- why a line isn't read; there is memory enough for the early refusals
abbrev pub Explains : ℕ → List ℕ → CommandFault → Type 0
Explains limit line (faults.Refused r) = first_refusal limit line ≡ Some r
Explains limit line faults.NoMemory = early_refusal limit line ≡ None
