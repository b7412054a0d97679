-- The lines that answer a command which changes nothing.
use Rattle.std.specs.Prelude.{◌≡◌, ℕ, List, ◌++◌, None}
use Rattle.command_text.specs.Journal.{Accepted, clock}
use Rattle.command_text.specs.Tree.{CommandTree}
use Rattle.line_meaning.specs.Answering.{answer_lines, query_lines}
use Rattle.line_meaning.specs.Journal.{world}
use Rattle.line_meaning.specs.QueryFault.{command_fault}
use Rattle.line_meaning.specs.Registry.{known}

-- it isn't refused, and they stand at the end
pub record IsTold (journal : List Accepted) (c : CommandTree) (before after : List ℕ) : Type 0 where
  pub right : command_fault (known journal) c ≡ None
  pub said : after ≡ before ++ (answer_lines (world journal) (clock journal) c ++ query_lines (known journal) c)
