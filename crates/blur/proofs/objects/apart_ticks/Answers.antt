use Rattle.std.proofs.Common.{◌&&◌, ap, ◌∙◌}
use Rattle.history.specs.History.{cells_at}
use Rattle.object_store.specs.Contents.{history_of}
use Rattle.tick_set.specs.Runs.{spans_have}
use Rattle.tick_set.specs.Ticks.{within}
use Rattle.worlds.specs.Blurred.{distance_holds_by}
use Rattle.blur.specs.Asked.{comparison}
use Rattle.blur.proofs.PlaceStateLemmas.{place_by_cells}
use Rattle.blur.proofs.objects.apart_ticks.Goals as goal

pub returns-clause-ticks : goal.returns-clause-ticks
returns-clause-ticks g c = λ t.
    let w = c.args.setting.now.w in
    let world = c.args.setting.now.world.now in
    let h = history_of world.store.now in
    let holds = distance_holds_by (comparison world.blur.sure) world.blur.error c.args.compared.now.op c.args.compared.now.c in
    let from = place_by_cells c.timeline-from.result.now (cells_at h c.args.first t) t (c.timeline-from.ensures.state t) in
    let to = place_by_cells c.timeline-to.result.now (cells_at h c.args.second t) t (c.timeline-to.ensures.state t) in
    ap (λ spans. spans_have spans t) c.from_runs.ensures
    ∙ c.in_ok-runs.ensures.ticks t
    ∙ (λ i. within w.lo w.hi t && holds (from i) (to i))
