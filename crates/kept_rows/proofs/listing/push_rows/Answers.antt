use Rattle.std.proofs.Common.{ℕ, ◌||◌, Bool, Bor}
use Rattle.std.specs.List.{list_any}
use Rattle.kept_rows.specs.Listing.{IsNext, some_row}
use Rattle.kept_rows.specs.Rows.{row_has}
use Rattle.kept_rows.proofs.ListingLemmas.{some_row-all, some_row-pushed}
use Rattle.kept_rows.proofs.listing.push_rows.Goals as goal

pub rows-preserved : goal.rows-preserved
rows-preserved g c =
    let rows : ℕ → ℕ → Bool = row_has g.S.TickSet.member c.args.kept.now in
    let next : IsNext rows c.rows.from c.args.to c.in-Some.number = c.in-Some.ensures.some in
    record {
      ticks = λ t.
          let has : Bor g.row.S.Denot → Bool = (λ row. g.S.TickSet.member row.now t) in
          some_row-pushed has c.rows.rows.items c.push.new.self.items c.row.result rows c.rows.from c.in-Some.number c.args.to t
          (list_any has c.args.rows.now.items || some_row rows c.args.first c.args.to t)
          c.in_ok-push.ensures.items (c.row.ensures t) next.least next.below next.before (c.rows.invariant.ticks t);
    }

pub returns : goal.returns
returns g c = λ t.
    some_row-all (row_has g.S.TickSet.member c.args.kept.now) c.rows.from c.args.to t (list_any (λ (row : Bor g.row.S.Denot). g.S.TickSet.member row.now t) c.rows.rows.items) _
    c.in_default.ensures.none (c.rows.invariant.ticks t)
