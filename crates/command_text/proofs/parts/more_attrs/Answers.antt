use Rattle.std.proofs.Common.{refl, sym, ◌∙◌, subst}
use Rattle.command_text.specs.inner.Standing.{StopsPart}
use Rattle.command_text.proofs.grammar.Derived.{next_attr_shortens}
use Rattle.command_text.proofs.grammar.ManyLemmas.{goes_on, goes_wrong, goes_to_the_end}
use Rattle.command_text.proofs.parts.more_attrs.Goals as goal

pub attrs-preserved : goal.attrs-preserved
attrs-preserved c =
    rw c.in_ok-push.ensures.ok (goes_on _ _ next_attr_shortens _ _ _ _ _ _ c.attrs.invariant
    (sym c.begins_sign.ensures ∙ c.attrs-test.true)
    (sym c.in-Some.ensures))

pub returns-in_default : goal.returns-in_default
returns-in_default c =
    subst (StopsPart _) (sym c.bad_syntax.ensures)
    (refl, goes_wrong _ _ _ _ _ _ c.attrs.invariant (sym c.begins_sign.ensures ∙ c.attrs-test.true) (sym c.in_default.ensures))

pub returns : goal.returns
returns c = goes_to_the_end _ _ _ _ _ _ c.attrs.invariant (sym c.begins_sign.ensures ∙ c.attrs-test.false)
