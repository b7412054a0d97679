use Rattle.std.proofs.Common.{◌&&◌, ap, ◌∙◌}
use Rattle.history.specs.History.{cells_at}
use Rattle.object_store.specs.Contents.{history_of}
use Rattle.tick_set.specs.Runs.{spans_have}
use Rattle.tick_set.specs.Ticks.{within}
use Rattle.worlds.specs.Blurred.{distance_holds_by}
use Rattle.blur.specs.Asked.{comparison}
use Rattle.blur.proofs.PlaceStateLemmas.{place_by_cells}
use Rattle.blur.proofs.objects.itself_ticks.Goals as goal

pub returns-clause-ticks : goal.returns-clause-ticks
returns-clause-ticks g c = λ t.
    let w = c.args.setting.now.w in
    let world = c.args.setting.now.world.now in
    let h = history_of world.store.now in
    let place = place_by_cells c.timeline-course.result.now (cells_at h c.args.id t) t (c.timeline-course.ensures.state t) in
    ap (λ spans. spans_have spans t) c.from_runs.ensures
    ∙ c.in_ok-runs.ensures.ticks t
    ∙ (λ i. within w.lo w.hi t
    && distance_holds_by (comparison (c.exact-exact.ensures.sure i)) (c.exact-exact.ensures.error i) c.args.compared.now.op c.args.compared.now.c (place i) (place i))
