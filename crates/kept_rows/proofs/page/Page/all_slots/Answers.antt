use Rattle.std.proofs.Common.{sym}
use Rattle.kept_rows.proofs.NextLemmas.{get-none}
use Rattle.kept_rows.proofs.SlotLemmas.{places_in, place_in_more}
use Rattle.kept_rows.proofs.page.Page.all_slots.Goals as goal

pub cells-preserved : goal.cells-preserved
cells-preserved g c =
    place_in_more g.S.TickSet.member c.args.self.now c.cells.at c.cells.slots c.slots.result c.or-slots.result c.in-Some.ticks.now
    c.cells.invariant (sym c.in-Some.ensures.value) c.slots.ensures c.or-slots.ensures

pub returns : goal.returns
returns g c =
    places_in g.S.TickSet.member c.args.self.now c.cells.at c.cells.slots (get-none c.args.self.now c.cells.at (sym c.in_default.ensures.value)) c.cells.invariant
