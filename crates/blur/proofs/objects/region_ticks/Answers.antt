use Rattle.std.proofs.Common.{◌&&◌, false, Option, ap, ◌∙◌}
use Rattle.std.specs.Option.{option_map_or}
use Rattle.fixed_point.specs.declared.number.Point.{Point}
use Rattle.history.specs.History.{cells_at}
use Rattle.object_store.specs.Contents.{history_of}
use Rattle.tick_set.specs.Runs.{spans_have}
use Rattle.tick_set.specs.Ticks.{within}
use Rattle.blur.specs.Asked.{is_on_side}
use Rattle.blur.proofs.PlaceStateLemmas.{place_by_cells}
use Rattle.blur.proofs.objects.region_ticks.Goals as goal

pub returns-clause-ticks : goal.returns-clause-ticks
returns-clause-ticks g c = λ t.
    let w = c.args.setting.now.w in
    let world = c.args.setting.now.world.now in
    let side = is_on_side c.args.side.inside world.blur.sure world.blur.error world.regions.now c.args.side.n in
    ap (λ spans. spans_have spans t) c.from_runs.ensures
    ∙ c.in_ok-runs.ensures.ticks t
    ∙ ap (λ (o : Option Point). within w.lo w.hi t && option_map_or side o false)
    (place_by_cells c.timeline-course.result.now (cells_at (history_of world.store.now) c.args.id t) t (c.timeline-course.ensures.state t))
