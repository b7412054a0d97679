use Rattle.std.proofs.Common.{ℕ, ◌+◌, ◌*◌, ◌/◌, ◌&&◌, Bool, ap, sym, ◌∙◌}
use Rattle.std.specs.Prelude.{option_to_list}
use Rattle.tick_set.specs.Ticks.{within}
use Rattle.kept_rows.specs.Listing.{target_has, with_runs}
use Rattle.kept_rows.specs.Rows.{row_has}
use Rattle.kept_rows.proofs.ListingLemmas.{some_row-skip, target-from}
use Rattle.kept_rows.proofs.listing.line_at.Goals as goal

pub returns : goal.returns
returns g c =
    let rows : ℕ → ℕ → Bool = row_has g.S.TickSet.member c.args.kept.now in
    let width : ℕ = c.args.targets.width in
    let first : ℕ = c.args.first in
    let target : ℕ = first / width in
    ap option_to_list (c.line_if_any.ensures
    ∙ ap (with_runs target)
    (c.runs_are_those_of_the_list.ensures.within (g.S.TickSet.member c.in_ok-ticks.ticks) (target_has rows width target) c.args.window.lo c.args.window.hi c.in_ok-spans.spans.items c.in_ok-spans.ensures
    (λ t.
    c.in_ok-ticks.ensures t
    ∙ ap (λ b. within c.args.window.lo c.args.window.hi t && b) (sym (some_row-skip rows (target * width) first (target * width + width) t (target-from first width) c.requires.before)))))
