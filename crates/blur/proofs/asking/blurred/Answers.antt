use Rattle.std.proofs.Common.{◌≡◌, ◌&&◌, Bool, true, sym, ap, ◌∙◌}
use Rattle.std.proofs.lemmas.Bool.{and_from, and_parts}
use Rattle.formula.specs.Tree.{resolved_view}
use Rattle.formula.specs.Value.{no_values}
use Rattle.meaning.specs.Satisfaction.{sat}
use Rattle.tick_set.specs.Ticks.{within}
use Rattle.worlds.specs.Blurred.{blurred}
use Rattle.worlds.specs.Moved.{in_world}
use Rattle.blur.specs.Answered.{holds_blurred, told_in}
use Rattle.blur.specs.World.{blurred_by}
use Rattle.blur.proofs.QueryLemmas.{holds_more}
use Rattle.blur.proofs.asking.blurred.Goals as goal

pub returns-clause-surely : goal.returns-clause-surely
returns-clause-surely g c = λ sure none b objects t had moves is_world.
    let world = c.args.world.now in
    let u = told_in world in
    let q = resolved_view c.args.q.now in
    let w = c.args.w in
    let told : (within w.lo w.hi t && holds_blurred world q w.hi b t) ≡ true = sym (c.in_ok-rows.ensures.rows.ticks b objects t) ∙ had in
    holds_more (blurred_by world.blur world.store.now world.regions.now) (in_world moves u) u q w.hi b t
    (λ holds.
    c.worlds_lie_between.ensures.surely world.blur.error moves is_world q.formula none u b no_values w.hi t
    (sym (ap (λ (s : Bool). sat (blurred s world.blur.error u b) q.formula no_values w.hi t) sure) ∙ holds))
    (and_parts (within w.lo w.hi t) (holds_blurred world q w.hi b t) told).1

pub returns-clause-possibly : goal.returns-clause-possibly
returns-clause-possibly g c = λ maybe none b objects t inside moves is_world holds.
    let world = c.args.world.now in
    let u = told_in world in
    let q = resolved_view c.args.q.now in
    let w = c.args.w in
    c.in_ok-rows.ensures.rows.ticks b objects t
    ∙ and_from (within w.lo w.hi t) (holds_blurred world q w.hi b t) inside
    (holds_more (in_world moves u) (blurred_by world.blur world.store.now world.regions.now) u q w.hi b t
    (λ is.
    ap (λ (s : Bool). sat (blurred s world.blur.error u b) q.formula no_values w.hi t) maybe
    ∙ c.worlds_lie_between.ensures.possibly world.blur.error moves is_world q.formula none u b no_values w.hi t is)
    holds)
