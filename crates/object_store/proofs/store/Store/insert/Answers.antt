use Rattle.std.proofs.Common.{◌≡◌, None, subst}
use Rattle.std.specs.Prelude.{is_some, unwrap_or, IfOk, OnOk, IfErr}
use Rattle.history.specs.Write.{Insert}
use Rattle.history.specs.History.{ChangesFrom}
use Rattle.object_store.specs.declared.fault.StoreFault.TheVariants.{NoMemory}
use Rattle.object_store.specs.declared.objects.Done.{Done}
use Rattle.object_store.specs.Contents.{Contents, catalog_of, history_of, state_of}
use Rattle.object_store.specs.Effects.{after_insert}
use Rattle.object_store.specs.Faults.{insert_fault}
use Rattle.object_store.specs.StandsFor.{GrowsBy}
use Rattle.object_store.specs.Tables.{contents_of, members_of}
use Rattle.object_store.proofs.CommandLemmas.{stands_insert, tick_of_insert}
use Rattle.object_store.proofs.ChangeLemmas.{insert_changes}
use Rattle.object_store.proofs.StoreLemmas.{ok_changes, ok_stands, ok_accepted, ok_tick, err_fault}
use Rattle.object_store.proofs.store.Store.insert.Goals as goal

pub returns-clause-stands : goal.returns-clause-stands
returns-clause-stands c =
    let s : Contents = contents_of c.self.inside.tables in
    subst (λ (s : Contents). OnOk c.insert_placed.result (GrowsBy s (contents_of c.insert_placed.new.tables) (Insert c.args.now c.args.class.now c.args.name.now c.args.place.now c.args.sets.now))) c.self.view_is
    (ok_stands c.insert_placed.result (insert_fault (catalog_of s) (is_some (state_of s c.args.name.now c.args.now)) c.args.class.now c.args.name.now c.args.place.now c.args.sets.now) c.args.name.now s (after_insert s c.args.now c.args.class.now c.args.name.now c.args.place.now c.args.sets.now) (members_of c.insert_placed.new.tables) (contents_of c.insert_placed.new.tables) (Insert c.args.now c.args.class.now c.args.name.now c.args.place.now c.args.sets.now)
    c.insert_placed.ensures.ok c.insert_placed.ensures.judged (λ accepted. stands_insert s c.args.now c.args.class.now c.args.name.now c.args.place.now c.args.sets.now accepted))

pub returns-clause-accepted : goal.returns-clause-accepted
returns-clause-accepted c =
    let s : Contents = contents_of c.self.inside.tables in
    subst (λ (s : Contents). OnOk c.insert_placed.result (insert_fault (catalog_of s) (is_some (state_of s c.args.name.now c.args.now)) c.args.class.now c.args.name.now c.args.place.now c.args.sets.now ≡ None)) c.self.view_is (ok_accepted c.insert_placed.result (insert_fault (catalog_of s) (is_some (state_of s c.args.name.now c.args.now)) c.args.class.now c.args.name.now c.args.place.now c.args.sets.now) c.insert_placed.ensures.judged)

pub returns-clause-fault : goal.returns-clause-fault
returns-clause-fault c =
    let s : Contents = contents_of c.self.inside.tables in
    subst (λ (s : Contents). IfErr c.insert_placed.result (λ fault. fault ≡ unwrap_or (insert_fault (catalog_of s) (is_some (state_of s c.args.name.now c.args.now)) c.args.class.now c.args.name.now c.args.place.now c.args.sets.now) NoMemory)) c.self.view_is (err_fault c.insert_placed.result (insert_fault (catalog_of s) (is_some (state_of s c.args.name.now c.args.now)) c.args.class.now c.args.name.now c.args.place.now c.args.sets.now) c.insert_placed.ensures.judged)

pub returns-clause-last : goal.returns-clause-last
returns-clause-last c =
    let s : Contents = contents_of c.self.inside.tables in
    ok_tick c.insert_placed.result c.args.name.now s (after_insert s c.args.now c.args.class.now c.args.name.now c.args.place.now c.args.sets.now) (members_of c.insert_placed.new.tables) (contents_of c.insert_placed.new.tables) c.args.now
    c.insert_placed.ensures.ok (tick_of_insert s c.args.now c.args.class.now c.args.name.now c.args.place.now c.args.sets.now)

pub returns-clause-changes : goal.returns-clause-changes
returns-clause-changes c =
    let s : Contents = contents_of c.self.inside.tables in
    subst (λ (s : Contents). IfOk c.insert_placed.result (λ (done : Done). ChangesFrom done.id c.args.now (history_of s) (history_of (contents_of c.insert_placed.new.tables)))) c.self.view_is
    (ok_changes c.insert_placed.result c.args.name.now s (after_insert s c.args.now c.args.class.now c.args.name.now c.args.place.now c.args.sets.now) (members_of c.insert_placed.new.tables) (contents_of c.insert_placed.new.tables) c.args.now c.insert_placed.ensures.ok
    (λ id after at. insert_changes s c.args.now c.args.class.now c.args.name.now c.args.place.now c.args.sets.now id c.self.invariant.kept.sound after at))
