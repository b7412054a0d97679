use Rattle.std.proofs.Common.{sym, ◌∙◌}
use Rattle.ftl_parser.proofs.reader.TokenLemmas.{has_long-step, has_long-found}
use Rattle.ftl_parser.proofs.scan.has_long.Goals as goal

pub loop-at-preserved : goal.loop-at-preserved
loop-at-preserved c = has_long-step _ _ _ _ c.lexeme_at-kind.ensures.lexeme (cc) c.loop-at.invariant

-- a long token is found
pub returns-then-is_long : goal.returns-then-is_long
returns-then-is_long c = sym (sym c.loop-at.invariant ∙ has_long-found _ _ _ c.lexeme_at-kind.ensures.lexeme (cc))
