use Rattle.std.proofs.Common.{◌≡◌, ℕ, ◌<◌, ◌≤◌, eqb, Bool, false, arith}
use Rattle.std.proofs.lemmas.Bool.{ne_eqb}
use Rattle.kept_rows.specs.Moves.{others}
use Rattle.kept_rows.specs.Rows.{row_has}
use Rattle.kept_rows.proofs.FoundLemmas.{left-first, left-last, left-passed, left-taken}
use Rattle.kept_rows.proofs.moving.without_rows.Goals as goal
use Rattle.kept_rows.proofs.moving.without_rows.Goals.{else-from-number-via-then-from-number+else-number-to, else-from-number-via-else-from-number}

pub rows-init : goal.rows-init
rows-init g c = record {
  gained = left-first (others c.args.group.now (row_has g.S.TickSet.member c.args.kept.now)) c.args.from c.args.to c.args.numbers.now (g.S.TickSet.member c.args.changed.gained);
  lost = left-first (others c.args.group.now (row_has g.S.TickSet.member c.args.kept.now)) c.args.from c.args.to c.args.numbers.now (g.S.TickSet.member c.args.changed.lost);
}

pub rows-preserved-in_ok-left : goal.rows-preserved-in_ok-left
rows-preserved-in_ok-left g c =
    let member : g.row.S.Denot → ℕ → Bool = g.S.TickSet.member in
    let rows : ℕ → ℕ → Bool = others c.args.group.now (row_has member c.args.kept.now) in
    record {
      gained = left-taken rows c.args.from c.args.to c.in-Some.number.now c.args.numbers.now c.rows.rest.now c.in-Some.later.now
          (member c.args.changed.gained) (member c.rows.left.gained) c.in-Some.ensures.cases.0 c.rows.invariant.gained
          (member c.in_ok-left.left.gained) c.if-from-number.true c.if-number-to.true c.in_ok-left.ensures.gained;
      lost = left-taken rows c.args.from c.args.to c.in-Some.number.now c.args.numbers.now c.rows.rest.now c.in-Some.later.now
          (member c.args.changed.lost) (member c.rows.left.lost) c.in-Some.ensures.cases.0 c.rows.invariant.lost
          (member c.in_ok-left.left.lost) c.if-from-number.true c.if-number-to.true c.in_ok-left.ensures.lost;
    }

pub rows-preserved : goal.rows-preserved
rows-preserved g c =
    let member : g.row.S.Denot → ℕ → Bool = g.S.TickSet.member in
    let rows : ℕ → ℕ → Bool = others c.args.group.now (row_has member c.args.kept.now) in
    let other : (n : ℕ) → c.args.from ≤ n → n < c.args.to → eqb c.in-Some.number.now n ≡ false =
    λ n h k.
    ne_eqb c.in-Some.number.now n (λ e.
    elim c.else-from-number.branch [
      | else-from-number-via-then-from-number+else-number-to w ↦ omega (arith, e, k, w.if-number-to.false)
      | else-from-number-via-else-from-number w ↦ omega (arith, e, h, w.if-from-number.false)
    ]) in
    record {
      gained = left-passed rows c.args.from c.args.to c.in-Some.number.now c.args.numbers.now c.rows.rest.now c.in-Some.later.now
          (member c.args.changed.gained) (member c.rows.left.gained) c.in-Some.ensures.cases.0 c.rows.invariant.gained other;
      lost = left-passed rows c.args.from c.args.to c.in-Some.number.now c.args.numbers.now c.rows.rest.now c.in-Some.later.now
          (member c.args.changed.lost) (member c.rows.left.lost) c.in-Some.ensures.cases.0 c.rows.invariant.lost other;
    }

pub returns-clause-gained : goal.returns-clause-gained
returns-clause-gained g c =
    left-last c.args.group.now (row_has g.S.TickSet.member c.args.kept.now) c.args.from c.args.to c.args.numbers.now c.rows.rest.now
    (g.S.TickSet.member c.args.changed.gained) (g.S.TickSet.member c.rows.left.gained) c.in_default.ensures.cases c.requires.gained c.rows.invariant.gained

pub returns-clause-lost : goal.returns-clause-lost
returns-clause-lost g c =
    left-last c.args.group.now (row_has g.S.TickSet.member c.args.kept.now) c.args.from c.args.to c.args.numbers.now c.rows.rest.now
    (g.S.TickSet.member c.args.changed.lost) (g.S.TickSet.member c.rows.left.lost) c.in_default.ensures.cases c.requires.lost c.rows.invariant.lost
