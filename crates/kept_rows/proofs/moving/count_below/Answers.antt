use Rattle.std.proofs.Common.{sym, arith}
use Rattle.kept_rows.proofs.MoveLemmas.{below-more, past-end, past-from}
use Rattle.kept_rows.proofs.NextLemmas.{get-below, get-none}
use Rattle.kept_rows.proofs.moving.count_below.Goals as goal

pub returns-then-change-to-clause-past : goal.returns-then-change-to-clause-past
returns-then-change-to-clause-past g c =
    past-from c.changes.count 0 4294967296 c.args.to c.args.changes.now c.in-Some.change.now c.requires (sym c.in-Some.ensures) c.if-change-to.true

pub changes-preserved : goal.changes-preserved
changes-preserved g c = record {
  few = omega (arith, get-below c.args.changes.now c.changes.count c.in-Some.change.now (sym c.in-Some.ensures));
  below = below-more c.args.to c.args.changes.now c.changes.count c.in-Some.change.now (sym c.in-Some.ensures) c.changes.invariant.below (omega (arith, c.if-change-to.false));
}

pub returns-clause-past : goal.returns-clause-past
returns-clause-past g c = past-end c.changes.count c.args.to c.args.changes.now (get-none c.args.changes.now c.changes.count (sym c.in_default.ensures))
