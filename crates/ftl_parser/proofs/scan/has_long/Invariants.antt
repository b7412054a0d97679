use Rattle.std.proofs.Common.{◌≡◌}
use Rattle.ftl_parser.specs.Piece.{lexemes_from, has_long}
use Rattle.ftl_parser.proofs.scan.has_long.Given as goal

-- the tokens that are left tell the same
abbrev pub invariant-loop-at : goal.invariant-loop-at
invariant-loop-at l = has_long (lexemes_from l.at l.tokens) ≡ has_long (lexemes_from l.from l.tokens)
