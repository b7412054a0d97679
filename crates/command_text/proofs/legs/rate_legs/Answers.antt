use Rattle.std.proofs.Common.{refl, sym, ◌∙◌, subst}
use Rattle.command_text.specs.inner.Standing.{StopsPart}
use Rattle.command_text.proofs.grammar.Derived.{rate_leg_shortens}
use Rattle.command_text.proofs.grammar.ManyLemmas.{goes_on, goes_wrong, all_read}
use Rattle.command_text.proofs.legs.rate_legs.Goals as goal

pub legs-preserved : goal.legs-preserved
legs-preserved c =
    rw c.in_ok-push.ensures.items (goes_on _ _ rate_leg_shortens _ _ _ _ _ _ c.legs.invariant
    (sym c.begins_sign.ensures ∙ c.legs-test.true)
    (sym c.in-Some.ensures))

pub returns-in_default : goal.returns-in_default
returns-in_default c =
    subst (StopsPart _) (sym c.bad_syntax.ensures)
    (refl, goes_wrong _ _ _ _ _ _ c.legs.invariant (sym c.begins_sign.ensures ∙ c.legs-test.true) (sym c.in_default.ensures))

pub returns : goal.returns
returns c = all_read _ _ _ _ _ c.legs.invariant (sym c.begins_sign.ensures ∙ c.legs-test.false)
