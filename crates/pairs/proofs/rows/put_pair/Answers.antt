use Rattle.std.proofs.Common.{◌≡◌, ℕ, ◌&&◌, true, List, [], ◌∷◌, slice_index, refl, sym, ap, subst, ◌∙◌}
use Rattle.tick_set.specs.Runs.{spans_have}
use Rattle.tick_set.specs.Ticks.{within}
use Rattle.formula.specs.declared.value.Env.{Env}
use Rattle.meaning.specs.Atom.{atom_holds}
use Rattle.meaning.specs.Trace.{trace_of}
use Rattle.object_store.specs.Contents.{history_of}
use Rattle.relation.specs.Key.{key_in}
use Rattle.relation.specs.Rows.{table}
use Rattle.atoms.specs.Parts.{HasObject}
use Rattle.evaluator.specs.inner.Filled.{IsFilled}
use Rattle.evaluator.proofs.FillingLemmas.{filled_put, fits_inside, fits_lies}
use Rattle.pairs.specs.Pairs.{holds_in}
use Rattle.pairs.proofs.PairLemmas.{objects_there}
use Rattle.pairs.proofs.rows.put_pair.Goals as goal

pub atom_ticks-requires-clause-bound : goal.atom_ticks-requires-clause-bound
atom_ticks-requires-clause-bound g c = λ v has.
    let s = c.args.scene.now.world.store.now in
    subst (λ (k : List ℕ). HasObject k s v) (sym c.key_of-key.ensures)
    (objects_there c.args.scene.now.distance c.requires.can.distance s c.args.couple.now.one.now.id c.args.couple.now.other.now.id c.requires.one c.requires.other v has)

pub put-requires-clause-inside : goal.put-requires-clause-inside
put-requires-clause-inside g c =
    let w = c.args.scene.now.w in
    let made = c.args.made.now in
    fits_inside (table (0 ∷ 1 ∷ []) made.domains w.lo w.hi []) made c.requires.head (0 ∷ 1 ∷ []) made.domains w.lo w.hi refl c.key_of-key.result
    (subst (λ (k : List ℕ). key_in made.domains (0 ∷ 1 ∷ []) k ≡ true) (sym c.key_of-key.ensures) c.requires.inside)

pub put-requires-clause-lies : goal.put-requires-clause-lies
put-requires-clause-lies g c =
    let scene = c.args.scene.now in
    let made = c.args.made.now in
    fits_lies (table (0 ∷ 1 ∷ []) made.domains scene.w.lo scene.w.hi []) made c.requires.head (0 ∷ 1 ∷ []) made.domains scene.w.lo scene.w.hi refl spans_have c.in_ok-ticks.ticks
    (λ t. atom_holds scene.world.regions.now (trace_of (history_of scene.world.store.now) (slice_index c.key_of-key.result)) scene.distance.atom.now c.new-env.result t)
    c.in_ok-ticks.ensures.ticks

pub returns-clause-rows : goal.returns-clause-rows
returns-clause-rows g c =
    let scene = c.args.scene.now in
    subst (λ (k : List ℕ). IsFilled spans_have (holds_in scene) (k ∷ []) c.args.made.now c.put.new.self) c.key_of-key.ensures
    (filled_put spans_have (holds_in scene) c.key_of-key.result c.in_ok-ticks.ticks c.args.made.now c.put.new.self
    (λ t. c.in_ok-ticks.ensures.ticks t
    ∙ ap
    (λ (x : Env). within scene.w.lo scene.w.hi t
    && atom_holds scene.world.regions.now (trace_of (history_of scene.world.store.now) (slice_index c.key_of-key.result)) scene.distance.atom.now x t)
    c.new-env.ensures)
    c.in_ok-put.ensures.head c.in_ok-put.ensures.ticks c.in_ok-put.ensures.keys)
