use Rattle.std.proofs.Common.{length, map, ap, ◌∙◌}
use Rattle.std.specs.List.{flat_map, list_all}
use Rattle.object_store.specs.Contents.{object_info}
use Rattle.live_queries.specs.Told.{passings_of}
use Rattle.database.specs.Keeping.{world_of_database}
use Rattle.registry.specs.Moves.{names_objects}
use Rattle.registry.proofs.KeyLemmas.{passings_below}
use Rattle.registry.proofs.telling.pass.Goals as goal

pub push_moves-requires : goal.push_moves-requires
push_moves-requires c =
    let d = c.args.database.now in
    let told = c.deref.ensures.value ∙ c.in_ok-moves.ensures ∙ ap (λ now. flat_map (passings_of c.args.before now) c.args.live.now) c.clock.ensures in
    (λ i. list_all (names_objects (length (map object_info (c.store.ensures i).objects))) (told i))
    ∙ passings_below (world_of_database d) c.args.before d.clock c.requires.stood.upto c.args.live.now c.are_kept.ensures.each c.requires.stood.current c.requires.stood.entered
