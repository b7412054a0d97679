use Rattle.std.proofs.Common.{ℕ, ◌+◌, ◌&&◌, Bool, Bor, [], ◌∷◌, ◌++◌, ap, ◌∙◌}
use Rattle.std.specs.List.{list_any}
use Rattle.tick_set.specs.Ticks.{within}
use Rattle.kept_rows.specs.Listing.{IsNext}
use Rattle.kept_rows.specs.Rows.{row_has}
use Rattle.kept_rows.proofs.ListingLemmas.{some_row-alone, some_row-begun}
use Rattle.kept_rows.proofs.listing.ticks_in.Goals as goal

pub returns-in_default : goal.returns-in_default
returns-in_default g c = λ t.
    c.in_ok-ticks.ensures t
    ∙ ap (λ b. within c.args.window.lo c.args.window.hi t && b)
    (c.row.ensures t ∙ some_row-alone (row_has g.S.TickSet.member c.args.kept.now) c.args.first c.args.to t c.requires c.in_default.ensures.none)

pub returns : goal.returns
returns g c =
    let rows : ℕ → ℕ → Bool = row_has g.S.TickSet.member c.args.kept.now in
    let next : IsNext rows (c.args.first + 1) c.args.to c.in-Some.second = c.in-Some.ensures.some in
    λ t.
    let has : Bor g.row.S.Denot → Bool = (λ row. g.S.TickSet.member row.now t) in
    c.in_ok-ticks-2.ensures t
    ∙ ap (λ b. within c.args.window.lo c.args.window.hi t && b)
    (c.in_ok-all.ensures t ∙ ap (λ xs. list_any has xs) c.deref.ensures.value ∙ c.in_ok-push_rows.ensures t
    ∙ some_row-begun has c.push.new.self.items c.row-2.result rows c.args.first c.in-Some.second c.args.to t
    (c.in_ok-push.ensures.items ∙ ap (λ xs. xs ++ c.row-2.result ∷ []) c.new-rows.ensures.items) (c.row-2.ensures t) c.requires next.least next.before)
