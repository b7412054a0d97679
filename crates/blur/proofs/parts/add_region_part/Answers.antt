use Rattle.std.proofs.Common.{ℕ, ◌-◌, ◌&&◌, Bool, false}
use Rattle.std.specs.Option.{option_map_or}
use Rattle.linear_crossing.specs.Moving.{position_after}
use Rattle.tick_set.specs.Ticks.{within}
use Rattle.blur.specs.Added.{Adds}
use Rattle.blur.specs.Asked.{is_on_side}
use Rattle.blur.proofs.AddedLemmas.{adds_as}
use Rattle.blur.proofs.PartLemmas.{none_added, seen_along, unseen}
use Rattle.blur.proofs.parts.add_region_part.Goals as goal
use Rattle.courses.specs.CommonParts.{place_in}
use Rattle.exact.proofs.Items.{on_ok}

pub returns-in-Some : goal.returns-in-Some
returns-in-Some c =
    let common = c.args.common.now in
    let span = common.span in
    let part = c.window.result in
    let line = c.in-Some.line in
    let side = is_on_side c.args.side.inside c.args.blur.sure c.args.blur.error c.args.regions.now c.args.side.n in
    let old = c.args.runs.now in
    let new = c.add_side.new.runs in
    let found : ℕ → Bool = λ t. within part.lo part.hi t && side (position_after line (t - part.lo)) in
    let test : ℕ → Bool = λ t. within span.lo span.hi t && option_map_or side (place_in common 0 t) false in
    on_ok c.add_side.result (Adds found old new) (Adds test old new)
    (adds_as found test old new (seen_along span.lo span.hi part.lo part.hi c.window.ensures.0 c.window.ensures.1 c.line_in.result line (place_in common 0) c.line_in.ensures.places c.in-Some.is side))
    c.add_side.ensures

pub returns-in-None : goal.returns-in-None
returns-in-None c =
    let common = c.args.common.now in
    let span = common.span in
    let side = is_on_side c.args.side.inside c.args.blur.sure c.args.blur.error c.args.regions.now c.args.side.n in
    none_added span.lo span.hi (λ t. option_map_or side (place_in common 0 t) false) c.args.runs.now
    (unseen span.lo span.hi c.line_in.result (place_in common 0) c.line_in.ensures.places c.in-None.is side)
