use Rattle.std.proofs.Common.{sym, ◌∙◌}
use Rattle.kept_rows.specs.Rows.{row_has}
use Rattle.kept_rows.proofs.ListingLemmas.{some_row-here, some_row-none, some_row-over}
use Rattle.kept_rows.proofs.passing.has_row_at.Goals as goal

pub returns-then-has : goal.returns-then-has
returns-then-has g c =
    sym (some_row-here (row_has g.S.TickSet.member c.args.kept.now) c.rows.from c.in-Some.number c.args.to c.args.tick _
    c.in-Some.ensures.some.least c.in-Some.ensures.some.below (sym (c.row.ensures c.args.tick) ∙ sym c.has.ensures.has ∙ c.if-has.true) c.rows.invariant)

pub rows-preserved : goal.rows-preserved
rows-preserved g c =
    some_row-over (λ n u. row_has g.S.TickSet.member c.args.kept.now n c.args.tick) c.rows.from c.in-Some.number c.args.to c.args.tick _
    c.in-Some.ensures.some.least c.in-Some.ensures.some.below (λ n u h k. c.in-Some.ensures.some.before n c.args.tick h k c.of_tick.ensures) (sym (c.row.ensures c.args.tick) ∙ sym c.has.ensures.has ∙ c.if-has.false) c.rows.invariant

pub returns : goal.returns
returns g c =
    sym (some_row-none (λ n u. row_has g.S.TickSet.member c.args.kept.now n c.args.tick) c.rows.from c.args.to c.args.tick
    (λ n u h k. c.in_default.ensures.none n c.args.tick h k c.of_tick.ensures))
    ∙ c.rows.invariant
