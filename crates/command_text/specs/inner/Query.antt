-- The query at the end of a command, by the parser's machine.
use Rattle.std.specs.Prelude.{Bool, false, is_none, List, Option, if◌then◌else◌}
use Rattle.ftl_parser.specs.declared.fault.ParseFault.{ParseFault}
use Rattle.ftl_parser.specs.declared.fault.ParseFault.TheVariants as parse_faults
use Rattle.ftl_parser.specs.Tree.{QueryTree}
use Rattle.ftl_parser.specs.Piece.{Piece}
use Rattle.ftl_parser.specs.inner.Machine.{start, parsed}
use Rattle.ftl_parser.specs.inner.Fits.{number_tokens_fit}
use Rattle.ftl_parser.specs.Sizes.{first_too_large}
use Rattle.command_text.specs.declared.fault.CommandFault.{CommandFault}
use Rattle.command_text.specs.declared.fault.CommandFault.TheVariants as faults
use Rattle.command_text.specs.declared.refusal.Refusal.TheVariants as refusals

-- the query that the tokens spell
unfoldable pub query_of : List Piece → Option QueryTree
query_of tokens = parsed start tokens

-- each number of the query is in the form and range of its place
unfoldable pub is_query_fit : List Piece → Bool
is_query_fit tokens = number_tokens_fit tokens

-- no size of the query passes its limit; the lengths of its names and texts are judged with those of the line
unfoldable pub is_query_small : QueryTree → Bool
is_query_small q = is_none (first_too_large false q)

-- what the parser's fault means for a command, the numbers of which before the query are in their ranges or not
abbrev pub fault_by_parser : ParseFault → Bool → CommandFault
fault_by_parser (parse_faults.BadSyntax place) fit = faults.Refused refusals.BadSyntax
fault_by_parser (parse_faults.NumberRange place) fit = faults.Refused refusals.NumberRange
fault_by_parser (parse_faults.TooLarge size) fit = faults.Refused (if fit then refusals.TooLarge else refusals.NumberRange)
fault_by_parser parse_faults.NoMemory fit = faults.NoMemory
