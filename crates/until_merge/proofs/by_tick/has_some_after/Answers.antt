use Rattle.std.proofs.Common.{◌∙◌, arith}
use Rattle.std.proofs.lemmas.Bool.{lt-leb}
use Rattle.until_merge.proofs.TickByTick.{some_too_late}
use Rattle.until_merge.proofs.by_tick.has_some_after.Goals as goal

pub returns-else-c-last : goal.returns-else-c-last
returns-else-c-last c = lt-leb _ _ c.if-c-last.false ∙ some_too_late _ _ _ (omega arith)
