use Rattle.std.proofs.Common.{◌∙◌, arith}
use Rattle.std.proofs.lemmas.Bool.{lt-leb}
use Rattle.until_merge.proofs.TickByTick.{leads_too_late}
use Rattle.until_merge.proofs.by_tick.leads_after.Goals as goal

pub returns-else-c-last : goal.returns-else-c-last
returns-else-c-last c = lt-leb _ _ c.if-c-last.false ∙ leads_too_late _ _ _ _ _ (omega arith)
