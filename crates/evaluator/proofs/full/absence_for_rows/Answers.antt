use Rattle.std.proofs.Common.{ℕ, List, ap, sym, subst}
use Rattle.relation.specs.Frames.{Frame, IsIn}
use Rattle.evaluator.proofs.full.absence_for_rows.Goals as goal

pub returns-then-len-of-clause-ticks : goal.returns-then-len-of-clause-ticks
returns-then-len-of-clause-ticks g c = λ b is_in t has.
    let same = ap (λ (z : Frame). z.domains) c.in_ok-own.ensures.frame in
    c.in_ok-away-2.ensures.ticks b (subst (λ (d : List (List ℕ)). IsIn d b) (sym same) is_in) t (c.in_ok-own.ensures.all b t has)

pub returns-clause-ticks : goal.returns-clause-ticks
returns-clause-ticks g c = λ b is_in t has.
    c.in_ok-away-3.ensures.rows.ticks b (subst (λ (d : List (List ℕ)). IsIn d b) (ap (λ (z : Frame). z.domains) c.requires.frame) is_in) t
