-- What the reader's parts tell of a line, or of what stands from a place on.
use Rattle.std.specs.Prelude.{◌≡◌, ℕ, Bool, true, false, is_some, is_none, None, Some, option_map, List}
use Rattle.std.specs.Option.{option_map_or}
use Rattle.ftl_lexer.specs.Tokens.{bad_place}
use Rattle.command_text.specs.declared.fault.CommandFault.{CommandFault}
use Rattle.command_text.specs.declared.fault.CommandFault.TheVariants as faults
use Rattle.command_text.specs.declared.refusal.Refusal.TheVariants as refusals
use Rattle.command_text.specs.Line.{is_comment, early_refusal, late_refusal}
use Rattle.command_text.specs.inner.Reading.{Reader, Read, front, ended}
use Rattle.command_text.specs.Tree.{CommandTree}

-- what was read is refused by nothing, and is this command
pub record IsWholeCommand (found : Read CommandTree) (c : CommandTree) : Type 0 where
  pub taken : late_refusal found ≡ None
  pub command : option_map (λ r. r.0) found ≡ Some c

-- no token is left after what was read
abbrev pub is_at_end : {A : Type 0} → Read A → Bool
is_at_end found = option_map_or (λ r. is_none (front r.1.rest)) found true

-- why no command was read from a place on: what stands there, which takes all tokens or is no command, is refused; or there is no memory
abbrev pub Refuses : {A : Type 0} → Read A → CommandFault → Type 0
Refuses found (faults.Refused r) = (late_refusal found ≡ Some r) × (is_at_end found ≡ true)
Refuses found faults.NoMemory = Unit {0}

-- why each command after which the reader stands so is refused
pub record RefusesAtEnd (s : Reader) (fault : CommandFault) : Type 0 where
  pub refuses : (c : CommandTree) → Refuses (ended (c, s)) fault

-- why a line that isn't a comment isn't cut into tokens
abbrev pub TellsBadPlace : List ℕ → CommandFault → Type 0
TellsBadPlace line (faults.Refused r) = (r ≡ refusals.BadToken) × (is_some (bad_place line) ≡ true)
TellsBadPlace line faults.NoMemory = bad_place line ≡ None

-- the line passes the first three refusals, and is a comment or these are its tokens
pub record IsBegun (limit : ℕ) (line tokens : List ℕ) (told : Bool) : Type 0 where
  pub early : early_refusal limit line ≡ None
  pub comment : is_comment line ≡ told
  pub cut : told ≡ false → tokens ≡ line
