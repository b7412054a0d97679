use Rattle.std.proofs.Common.{true, sym, ◌∙◌, ap}
use Rattle.ftl_parser.specs.inner.Views.{state_if_taken}
use Rattle.ftl_parser.proofs.reader.RunLemmas.{goes-on}
use Rattle.ftl_parser.proofs.reading.take_all.Goals as goal

pub loop-at-preserved : goal.loop-at-preserved
loop-at-preserved c =
    goes-on _ _ _ _ c.loop-at.invariant _ _ c.piece_at.ensures
    (sym c.in_ok-step.ensures ∙ ap (λ taken. state_if_taken taken c.step.new.kept c.step.new.state) {y = true} (cc c.if-not-branch.false))
