use Rattle.std.proofs.Common.{refl, ap}
use Rattle.std.specs.Prelude.{is_some, option_and_then}
use Rattle.history.specs.Write.{Insert}
use Rattle.object_store.specs.Contents.{Contents, catalog_of, state_of}
use Rattle.object_store.specs.Effects.{after_insert}
use Rattle.object_store.specs.Faults.{insert_fault}
use Rattle.command_text.specs.Tree
use Rattle.database.specs.declared.database.Database.{Database}
use Rattle.line_meaning.specs.Fault.{refusal_by_store}
use Rattle.database.proofs.AttemptLemmas.{store_carries, store_stopped}
use Rattle.database.proofs.WrittenLemmas.{insert_writes, written_by}
use Rattle.database.proofs.objects.insert.Goals as goal

pub returns-in-Ok : goal.returns-in-Ok
returns-in-Ok c =
    store_carries (Tree.Insert c.args.class.now c.args.name.now c.args.place.now c.args.sets.now) (Insert c.args.database.now.clock c.args.class.now c.args.name.now c.args.place.now c.args.sets.now) c.args.database.now c.insert.new.self c.in-Ok.done
    refl refl refl (ap (option_and_then refusal_by_store) c.in-Ok.ensures.accepted) c.requires.timely.in_range c.in-Ok.ensures.last c.in-Ok.ensures.stands c.in-Ok.ensures.undo c.in-Ok.ensures.changes c.in-Ok.ensures.id
    (written_by c.args.name.now c.args.database.now.clock c.in-Ok.done.id c.args.database.now.store.objects c.insert.new.self.objects
    (after_insert c.args.database.now.store c.args.database.now.clock c.args.class.now c.args.name.now c.args.place.now c.args.sets.now).objects
    (insert_writes c.args.database.now.store c.args.database.now.clock c.args.class.now c.args.name.now c.args.place.now c.args.sets.now c.in-Ok.done.id)
    (ap (λ (s : Contents). s.objects) c.in-Ok.ensures.ok) c.in-Ok.ensures.id)
    refl

pub returns-in-Err : goal.returns-in-Err
returns-in-Err c =
    store_stopped (Tree.Insert c.args.class.now c.args.name.now c.args.place.now c.args.sets.now) c.args.database.now (record { store = c.insert.new.self; regions = c.args.database.now.regions; clock = c.args.database.now.clock })
    (insert_fault (catalog_of c.args.database.now.store) (is_some (state_of c.args.database.now.store c.args.name.now c.args.database.now.clock)) c.args.class.now c.args.name.now c.args.place.now c.args.sets.now)
    c.in-Err.fault c.fault_by.result c.in-Err.ensures.fault c.fault_by.ensures refl (λ none. none)
    (ap (λ s. let x : Database = record { store = s; regions = c.args.database.now.regions; clock = c.args.database.now.clock } in x) c.in-Err.ensures.err)
