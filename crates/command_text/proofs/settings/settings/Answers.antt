use Rattle.std.proofs.Common.{sym, ◌∙◌}
use Rattle.command_text.proofs.grammar.Derived.{setting_shortens}
use Rattle.command_text.proofs.grammar.ManyLemmas.{goes_on, goes_stopped, all_read}
use Rattle.command_text.proofs.settings.settings.Goals as goal

pub settings-preserved : goal.settings-preserved
settings-preserved c =
    rw c.in_ok-push-in-Ok.ensures.ok (goes_on _ _ setting_shortens _ _ _ _ _ _ c.settings.invariant
    (sym c.begins_name.ensures ∙ c.settings-test.true) c.in-Ok.ensures)

pub returns-in-Err : goal.returns-in-Err
returns-in-Err c = goes_stopped _ _ _ _ _ _ c.in-Err.fault c.settings.invariant (sym c.begins_name.ensures ∙ c.settings-test.true) c.in-Err.ensures

pub returns : goal.returns
returns c = all_read _ _ _ _ _ c.settings.invariant (sym c.begins_name.ensures ∙ c.settings-test.false)
