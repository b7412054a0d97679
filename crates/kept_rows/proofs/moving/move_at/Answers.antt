use Rattle.std.proofs.Common.{ℕ, ◌+◌, ◌*◌, ◌≤◌, Bool, map, ap, arith}
use Rattle.std.specs.Prelude.{option_to_list}
use Rattle.std.specs.List.{list_any}
use Rattle.tick_set.specs.Ticks.{within}
use Rattle.kept_rows.specs.Changes.{rows_after}
use Rattle.kept_rows.specs.Listing.{target_has}
use Rattle.kept_rows.specs.Rows.{row_has}
use Rattle.kept_rows.proofs.ListingLemmas.{target-whole}
use Rattle.kept_rows.proofs.MoveLemmas.{changed-ticks, rows-after, rows-before}
use Rattle.kept_rows.proofs.RisingLemmas.{rising-wider}
use Rattle.kept_rows.proofs.moving.move_at.Goals as goal

pub without_others-requires : goal.without_others-requires
without_others-requires g c =
    let from : ℕ = c.args.target * c.args.targets.width in
    let whole : from + c.args.targets.width ≤ c.args.targets.count * c.args.targets.width =
    target-whole c.args.target c.args.targets.width c.args.targets.count c.requires.target in
    rising-wider from 0 (from + c.args.targets.width) 4294967296 (map (λ x. x.number) c.args.group.now) (omega arith)
    (omega (arith, whole, c.args.targets.within)) c.requires.group

pub returns : goal.returns
returns g c =
    let rows : ℕ → ℕ → Bool = row_has g.S.TickSet.member c.args.kept.now in
    let width : ℕ = c.args.targets.width in
    let from : ℕ = c.args.target * width in
    let lo : ℕ = c.args.window.lo in
    let hi : ℕ = c.args.window.hi in
    let anew : ℕ → Bool = λ t. list_any (λ x. g.S.TickSet.member x.ticks t) c.args.group.now in
    let old : ℕ → Bool = λ t. list_any (λ x. rows x.number t) c.args.group.now in
    ap option_to_list
    (c.in_ok-line.ensures (target_has rows width c.args.target) (target_has (rows_after g.S.TickSet.member c.args.group.now rows) width c.args.target) lo hi
    (λ t.
    changed-ticks _ _ (within lo hi t) (anew t) (old t) _ _ _
    (c.in_ok-left.ensures.gained t) (c.in_ok-changed.ensures.gained t)
    (rows-after g.S.TickSet.member c.args.group.now rows from (from + width) t c.requires.group)
    (rows-before c.args.group.now rows from (from + width) t c.requires.group))
    (λ t.
    changed-ticks _ _ (within lo hi t) (old t) (anew t) _ _ _
    (c.in_ok-left.ensures.lost t) (c.in_ok-changed.ensures.lost t)
    (rows-before c.args.group.now rows from (from + width) t c.requires.group)
    (rows-after g.S.TickSet.member c.args.group.now rows from (from + width) t c.requires.group)))
