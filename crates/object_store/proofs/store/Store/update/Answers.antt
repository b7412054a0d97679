use Rattle.std.proofs.Common.{◌≡◌, ◌≤◌, None, sym, subst}
use Rattle.std.specs.Prelude.{is_some, unwrap_or, IfOk, OnOk, IfErr}
use Rattle.history.specs.Write.{Update}
use Rattle.history.specs.History.{ChangesFrom}
use Rattle.object_store.specs.declared.fault.StoreFault.TheVariants.{NoMemory}
use Rattle.object_store.specs.declared.objects.Done.{Done}
use Rattle.object_store.specs.Contents.{Contents, catalog_of, history_of, state_of}
use Rattle.object_store.specs.Effects.{after_update}
use Rattle.object_store.specs.Faults.{update_fault}
use Rattle.object_store.specs.StandsFor.{GrowsBy}
use Rattle.object_store.specs.Tables.{contents_of, members_of}
use Rattle.object_store.proofs.ChangeLemmas.{update_changes}
use Rattle.object_store.proofs.StoreLemmas.{ok_changes, ok_contents, ok_stands, ok_accepted, err_fault}
use Rattle.object_store.proofs.WriteLemmas.{stands_update}
use Rattle.object_store.proofs.store.Store.update.Goals as goal

pub returns-clause-ok : goal.returns-clause-ok
returns-clause-ok c =
    let s : Contents = contents_of c.self.inside.tables in
    subst (λ (s : Contents). OnOk c.update_placed.result (contents_of c.update_placed.new.tables ≡ after_update s c.args.now c.args.name.now c.args.place.now c.args.sets.now)) c.self.view_is
    (ok_contents c.update_placed.result c.args.name.now s (after_update s c.args.now c.args.name.now c.args.place.now c.args.sets.now) (members_of c.update_placed.new.tables) (contents_of c.update_placed.new.tables) c.update_placed.ensures.ok)

pub returns-clause-stands : goal.returns-clause-stands
returns-clause-stands c =
    let s : Contents = contents_of c.self.inside.tables in
    subst (λ (s : Contents). OnOk c.update_placed.result (GrowsBy s (contents_of c.update_placed.new.tables) (Update c.args.now c.args.name.now c.args.place.now c.args.sets.now))) c.self.view_is
    (ok_stands c.update_placed.result (update_fault (catalog_of s) (is_some (state_of s c.args.name.now c.args.now)) c.args.name.now c.args.place.now c.args.sets.now) c.args.name.now s (after_update s c.args.now c.args.name.now c.args.place.now c.args.sets.now) (members_of c.update_placed.new.tables) (contents_of c.update_placed.new.tables) (Update c.args.now c.args.name.now c.args.place.now c.args.sets.now)
    c.update_placed.ensures.ok c.update_placed.ensures.judged (λ accepted. stands_update s (members_of c.self.inside.tables) c.args.now c.args.name.now c.args.place.now c.args.sets.now c.self.invariant.kept (subst (λ (t : Contents). t.last_tick ≤ c.args.now) (sym c.self.view_is) c.requires.now.after)))

pub returns-clause-accepted : goal.returns-clause-accepted
returns-clause-accepted c =
    let s : Contents = contents_of c.self.inside.tables in
    subst (λ (s : Contents). OnOk c.update_placed.result (update_fault (catalog_of s) (is_some (state_of s c.args.name.now c.args.now)) c.args.name.now c.args.place.now c.args.sets.now ≡ None)) c.self.view_is (ok_accepted c.update_placed.result (update_fault (catalog_of s) (is_some (state_of s c.args.name.now c.args.now)) c.args.name.now c.args.place.now c.args.sets.now) c.update_placed.ensures.judged)

pub returns-clause-fault : goal.returns-clause-fault
returns-clause-fault c =
    let s : Contents = contents_of c.self.inside.tables in
    subst (λ (s : Contents). IfErr c.update_placed.result (λ fault. fault ≡ unwrap_or (update_fault (catalog_of s) (is_some (state_of s c.args.name.now c.args.now)) c.args.name.now c.args.place.now c.args.sets.now) NoMemory)) c.self.view_is (err_fault c.update_placed.result (update_fault (catalog_of s) (is_some (state_of s c.args.name.now c.args.now)) c.args.name.now c.args.place.now c.args.sets.now) c.update_placed.ensures.judged)

pub returns-clause-changes : goal.returns-clause-changes
returns-clause-changes c =
    let s : Contents = contents_of c.self.inside.tables in
    subst (λ (s : Contents). IfOk c.update_placed.result (λ (done : Done). ChangesFrom done.id c.args.now (history_of s) (history_of (contents_of c.update_placed.new.tables)))) c.self.view_is
    (ok_changes c.update_placed.result c.args.name.now s (after_update s c.args.now c.args.name.now c.args.place.now c.args.sets.now) (members_of c.update_placed.new.tables) (contents_of c.update_placed.new.tables) c.args.now c.update_placed.ensures.ok
    (λ id after at. update_changes s c.args.now c.args.name.now c.args.place.now c.args.sets.now id c.self.invariant.kept.sound after at))
