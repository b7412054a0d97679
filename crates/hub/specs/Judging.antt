-- Which lines of a user are refused before what is held is asked.
use Rattle.std.specs.Prelude.{◌≡◌, ℕ, ◌<◌, Bool, true, false, ◌&&◌, ◌||◌, nat_le, Option, Some, List, [], ◌∷◌}
use Rattle.exact.specs.First.{first_that_holds, or_else}
use Rattle.command_text.specs.declared.fault.CommandFault.{CommandFault}
use Rattle.command_text.specs.declared.fault.CommandFault.TheVariants as faults
use Rattle.command_text.specs.declared.reading.TheConstants.{LINE_LIMIT}
use Rattle.command_text.specs.declared.refusal.Refusal.{Refusal}
use Rattle.command_text.specs.declared.refusal.Refusal.TheVariants.{BadSyntax, JournalFull}
use Rattle.command_text.specs.Journal.{spelled}
use Rattle.command_text.specs.Line.{IsRead, first_refusal}
use Rattle.command_text.specs.Tree.{CommandTree}
use Rattle.feeds_meaning.specs.declared.limits.TheConstants.{DATA_LINES_LIMIT, QUERY_LINES_LIMIT}
use Rattle.feeds_meaning.specs.Lines.{is_barred, is_data, is_data_line, is_of_queries, is_query_line}

-- the line is one too many of its kind, where so many of either were accepted
abbrev pub is_one_too_many : (data_lines query_lines : ℕ) → List ℕ → Bool
is_one_too_many data_lines query_lines line =
    (is_data_line line && nat_le DATA_LINES_LIMIT data_lines) || (is_query_line line && nat_le QUERY_LINES_LIMIT query_lines)

-- the first refusal that doesn't depend on what is held
abbrev pub refusal_by_line : (data_lines query_lines : ℕ) → List ℕ → Option Refusal
refusal_by_line data_lines query_lines line =
    or_else (first_that_holds ((JournalFull, is_one_too_many data_lines query_lines line) ∷ []))
    (or_else (first_refusal LINE_LIMIT line) (first_that_holds ((BadSyntax, is_barred (spelled line)) ∷ [])))

-- none does, and the line is this command
pub record IsTaken (data_lines query_lines : ℕ) (line : List ℕ) (c : CommandTree) : Type 0 where
  pub within : is_one_too_many data_lines query_lines line ≡ false
  pub read : IsRead LINE_LIMIT line c
  pub allowed : is_barred c ≡ false

-- why none is read; want of memory tells nothing of the line
abbrev pub ExplainsSent : (data_lines query_lines : ℕ) → List ℕ → CommandFault → Type 0
ExplainsSent data_lines query_lines line (faults.Refused r) = refusal_by_line data_lines query_lines line ≡ Some r
ExplainsSent data_lines query_lines line faults.NoMemory = Unit {0}

-- a command that is accepted may be counted
pub record CanBeCounted (data_lines query_lines : ℕ) (c : CommandTree) : Type 0 where
  pub of_data : is_data c ≡ true → data_lines < DATA_LINES_LIMIT
  pub of_queries : is_of_queries c ≡ true → query_lines < QUERY_LINES_LIMIT
