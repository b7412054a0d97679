use Rattle.std.proofs.Common.{sym, arith}
use Rattle.kept_rows.proofs.NextLemmas.{get-none}
use Rattle.kept_rows.proofs.SteadyLemmas.{place-more, places-done}
use Rattle.kept_rows.proofs.page.Page.all_steady_until.Goals as goal

pub cells-preserved : goal.cells-preserved
cells-preserved g c =
    place-more g.S.TickSet.member c.args.self.now c.args.t c.cells.at c.cells.end c.steady_until.result c.min-end.result c.in-Some.ticks.now
    (omega (arith, c.min-end.ensures)) (omega (arith, c.min-end.ensures))
    c.cells.invariant (sym c.in-Some.ensures.value) c.steady_until.ensures

pub returns : goal.returns
returns g c =
    places-done g.S.TickSet.member c.args.self.now c.args.t c.cells.at c.cells.end (get-none c.args.self.now c.cells.at (sym c.in_default.ensures.value)) c.cells.invariant
