use Rattle.ftl_parser.proofs.reader.TokenLemmas.{scan-step}
use Rattle.ftl_parser.proofs.scan.first_unfit.Goals as goal

pub loop-at-preserved : goal.loop-at-preserved
loop-at-preserved c =
    rw (c.coming_behind-before.ensures c.lexeme_at-kind.result.1.now)
    (scan-step _ _ _ _ _ _ c.lexeme_at-kind.ensures.token (cc c.is_marked.ensures) c.loop-at.invariant)
