use Rattle.std.proofs.Common.{ℕ, ◌&&◌, not, Bool, List, ap, ◌∙◌, sym, subst}
use Rattle.tick_set.specs.Ticks.{within}
use Rattle.relation.specs.Frames.{Frame, IsIn}
use Rattle.relation.specs.Rows.{table_has}
use Rattle.evaluator.proofs.FullLemmas.{ascend_of, in_window}
use Rattle.evaluator.proofs.full.while_there.Goals as goal

pub join-requires-clause-left : goal.join-requires-clause-left
join-requires-clause-left g c = ascend_of c.args.rows.vars c.requires.ascend

pub returns-clause-ticks : goal.returns-clause-ticks
returns-clause-ticks g c = λ b is_in t.
    let member = g.S.TickSet.member in
    let frames = c.requires.frame in
    c.in_ok-made.ensures.ticks b is_in t
    ∙ ap (λ (x : Bool). table_has member c.args.rows b t && x) (c.in_ok-there.ensures.ticks b (subst (λ (d : List (List ℕ)). IsIn d b) (sym (ap (λ (z : Frame). z.domains) frames)) is_in) t)
    ∙ in_window (table_has member c.args.rows b t) (within c.args.away.now.lo c.args.away.now.hi t) (not (table_has member c.args.away.now b t))
    (λ h. (λ i. within (ap (λ (z : Frame). z.lo) frames i) (ap (λ (z : Frame). z.hi) frames i) t) ∙ c.requires.lies b is_in t h)
