use Rattle.std.proofs.Common.{◌+◌, ◌∙◌, arith}
use Rattle.meaning.specs.Satisfaction.{plain}
use Rattle.meaning.specs.Trace.{trace_of}
use Rattle.worlds.specs.Blurred.{blurred}
use Rattle.worlds.proofs.ExactLemmas.{exact_agrees}
use Rattle.worlds.proofs.laws.without_error_all_is_told.Goals as goal

pub returns : goal.returns
returns c = λ is_sure f w b x e t.
    c.interpretations_that_agree_give_the_same_truth.ensures (blurred is_sure 0 w b) (plain w.regions (trace_of w.history b)) 0 (e + t) f
    (exact_agrees
    (λ points p. c.corners_stand_together.ensures.all 0 points p ∙ c.corners_stand_together.ensures.itself points p)
    (λ points p. c.corners_stand_together.ensures.some 0 points p ∙ c.corners_stand_together.ensures.itself points p)
    is_sure w b 0 (e + t) f)
    e (omega arith) x t (omega arith) (omega arith)
