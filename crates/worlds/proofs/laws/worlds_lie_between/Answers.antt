use Rattle.std.proofs.Common.{◌+◌, true, false, [], refl, sym, ◌∙◌, arith}
use Rattle.meaning.specs.Satisfaction.{plain}
use Rattle.meaning.specs.Trace.{trace_of}
use Rattle.worlds.specs.Blurred.{blurred}
use Rattle.worlds.specs.Moved.{in_world}
use Rattle.worlds.proofs.BetweenLemmas.{unmoved_agrees, world_has_less, world_has_more}
use Rattle.worlds.proofs.laws.worlds_lie_between.Goals as goal

pub returns-clause-surely : goal.returns-clause-surely
returns-clause-surely c = λ error moves world f none w b x e t.
    c.atoms_that_hold_more_make_it_hold_more.ensures (blurred true error w b) (in_world moves w b) f
    (world_has_more
    (λ m points p q by_x by_y h. c.near_places_stand_together.ensures.each m points p q by_x by_y (sym (c.corners_stand_together.ensures.all m points p) ∙ h))
    (λ m points p q by_x by_y h. c.corners_stand_together.ensures.some m points p ∙ c.near_places_stand_together.ensures.some m points p q by_x by_y h)
    error moves world w b f)
    none x e t

pub returns-clause-possibly : goal.returns-clause-possibly
returns-clause-possibly c = λ error moves world f none w b x e t.
    c.atoms_that_hold_more_make_it_hold_more.ensures (in_world moves w b) (blurred false error w b) f
    (world_has_less
    (λ m points p q by_x by_y h. c.near_places_stand_together.ensures.each m points p q by_x by_y (sym (c.corners_stand_together.ensures.all m points p) ∙ h))
    (λ m points p q by_x by_y h. c.corners_stand_together.ensures.some m points p ∙ c.near_places_stand_together.ensures.some m points p q by_x by_y h)
    error moves world w b f)
    none x e t

pub returns-clause-unmoved : goal.returns-clause-unmoved
returns-clause-unmoved c = λ f w b x e t.
    c.interpretations_that_agree_give_the_same_truth.ensures (in_world [] w b) (plain w.regions (trace_of w.history b)) 0 (e + t) f
    (unmoved_agrees w b 0 (e + t) f) e (omega arith) x t (omega arith) (omega arith)

pub returns-clause-between : goal.returns-clause-between
returns-clause-between c = record {
  surely = λ error f none w b x e t h. sym (returns-clause-unmoved c f w b x e t) ∙ returns-clause-surely c error [] refl f none w b x e t h;
  possibly = λ error f none w b x e t h. returns-clause-possibly c error [] refl f none w b x e t (returns-clause-unmoved c f w b x e t ∙ h);
}
