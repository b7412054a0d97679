-- Whether each number of a query is in the form and range of its place, told by the tokens alone.
use Rattle.std.specs.Prelude.{Bool, is_none, List, position}
use Rattle.ftl_parser.specs.declared.scan.Coming.TheVariants as comings
use Rattle.ftl_parser.specs.Piece.{Piece}
use Rattle.ftl_parser.specs.inner.Scan.{scan}

abbrev pub number_tokens_fit : List Piece → Bool
number_tokens_fit tokens = is_none (position (λ mark. mark) (scan comings.Factor tokens))
