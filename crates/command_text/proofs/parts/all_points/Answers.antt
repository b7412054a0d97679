use Rattle.std.proofs.Common.{refl, sym, ◌∙◌, subst}
use Rattle.command_text.specs.inner.Standing.{StopsPart}
use Rattle.command_text.proofs.grammar.Derived.{point_shortens}
use Rattle.command_text.proofs.grammar.ManyLemmas.{goes_on, goes_wrong, all_read}
use Rattle.command_text.proofs.parts.all_points.Goals as goal

pub points-preserved : goal.points-preserved
points-preserved c =
    rw c.in_ok-push.ensures.ok (goes_on _ _ point_shortens _ _ _ _ _ _ c.points.invariant
    (sym c.begins_sign.ensures ∙ c.points-test.true)
    (sym c.in-Some.ensures))

pub returns-in_default : goal.returns-in_default
returns-in_default c =
    subst (StopsPart _) (sym c.bad_syntax.ensures)
    (refl, goes_wrong _ _ _ _ _ _ c.points.invariant (sym c.begins_sign.ensures ∙ c.points-test.true) (sym c.in_default.ensures))

pub returns : goal.returns
returns c = all_read _ _ _ _ _ c.points.invariant (sym c.begins_sign.ensures ∙ c.points-test.false)
