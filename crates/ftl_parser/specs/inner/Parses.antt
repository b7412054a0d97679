-- What the parser tells of the machine's work on tokens, before it looks at numbers and sizes.
use Rattle.std.specs.Prelude.{◌≡◌, ℕ, ◌+◌, List, None, Some, Result, Ok, Err}
use Rattle.ftl_parser.specs.declared.fault.ParseFault.{ParseFault}
use Rattle.ftl_parser.specs.declared.fault.ParseFault.TheVariants as faults
use Rattle.ftl_parser.specs.declared.head.Spelled.{Spelled}
use Rattle.ftl_parser.specs.Piece.{Piece}
use Rattle.ftl_parser.specs.inner.Machine.{start, parsed, tokens_taken}
use Rattle.ftl_parser.specs.inner.Views.{spelled_view}

-- the query that the tokens from a place on are, or else the place after those that are taken
abbrev pub Parses : ℕ → List Piece → Result Spelled ParseFault → Type 0
Parses from tokens (Ok q) = parsed start tokens ≡ Some (spelled_view q)
Parses from tokens (Err (faults.BadSyntax place)) = (parsed start tokens ≡ None) × (place ≡ from + tokens_taken start tokens)
Parses from tokens (Err (faults.NumberRange place)) = ⊥
Parses from tokens (Err (faults.TooLarge size)) = ⊥
Parses from tokens (Err faults.NoMemory) = Unit {0}
