use Rattle.std.proofs.Common.{ℕ, Bool, not}
use Rattle.kept_rows.specs.Moves.{others}
use Rattle.kept_rows.specs.Rows.{row_has}
use Rattle.kept_rows.specs.Slots.{IsNextAt}
use Rattle.kept_rows.proofs.MoveLemmas.{others-end, others-step-if}
use Rattle.kept_rows.proofs.SlotLemmas.{in_less}
use Rattle.kept_rows.proofs.moving.without_all.Goals as goal

pub rows-preserved : goal.rows-preserved
rows-preserved g c =
    let member : g.row.S.Denot → ℕ → Bool = g.S.TickSet.member in
    let rows : ℕ → ℕ → Bool = row_has member c.args.kept.now in
    let taken : ℕ → Bool = (λ t. not (others c.args.group.now rows c.in-Some.number t)) in
    let next : IsNextAt rows c.or-slots.result c.rows.at c.args.to c.in-Some.number = c.in-Some.ensures.some in
    record {
      gained = λ t.
          others-step-if c.args.group.now rows c.rows.at c.in-Some.number c.args.to t (member c.rows.left.gained t) (member c.in_ok-left.left.gained t) _
          next.least next.below (λ n h k e. next.before n t h k (c.rows.invariant.gained_in t e)) (c.in_ok-left.ensures.gained t) (c.rows.invariant.gained t);
      lost = λ t.
          others-step-if c.args.group.now rows c.rows.at c.in-Some.number c.args.to t (member c.rows.left.lost t) (member c.in_ok-left.left.lost t) _
          next.least next.below (λ n h k e. next.before n t h k (c.rows.invariant.lost_in t e)) (c.in_ok-left.ensures.lost t) (c.rows.invariant.lost t);
      gained_in = in_less (member c.rows.left.gained) (member c.in_ok-left.left.gained) taken c.or-slots.result c.rows.invariant.gained_in c.in_ok-left.ensures.gained;
      lost_in = in_less (member c.rows.left.lost) (member c.in_ok-left.left.lost) taken c.or-slots.result c.rows.invariant.lost_in c.in_ok-left.ensures.lost;
    }

pub returns-clause-gained : goal.returns-clause-gained
returns-clause-gained g c = λ t.
    others-end c.args.group.now (row_has g.S.TickSet.member c.args.kept.now) c.rows.at c.args.to t (g.S.TickSet.member c.rows.left.gained t) _
    (c.in_default.ensures.gained t) (c.rows.invariant.gained t)

pub returns-clause-lost : goal.returns-clause-lost
returns-clause-lost g c = λ t.
    others-end c.args.group.now (row_has g.S.TickSet.member c.args.kept.now) c.rows.at c.args.to t (g.S.TickSet.member c.rows.left.lost t) _
    (c.in_default.ensures.lost t) (c.rows.invariant.lost t)
