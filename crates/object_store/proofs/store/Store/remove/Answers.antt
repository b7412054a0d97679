use Rattle.std.proofs.Common.{subst}
use Rattle.std.specs.Prelude.{is_some, IfOk, OnOk}
use Rattle.history.specs.Write.{Remove}
use Rattle.history.specs.History.{ChangesFrom}
use Rattle.object_store.specs.declared.objects.Done.{Done}
use Rattle.object_store.specs.Contents.{Contents, catalog_of, history_of, state_of}
use Rattle.object_store.specs.Effects.{after_remove}
use Rattle.object_store.specs.Faults.{remove_fault}
use Rattle.object_store.specs.StandsFor.{GrowsBy}
use Rattle.object_store.specs.Tables.{contents_of, members_of}
use Rattle.object_store.proofs.ChangeLemmas.{remove_changes}
use Rattle.object_store.proofs.StoreLemmas.{ok_changes, ok_stands}
use Rattle.object_store.proofs.WriteLemmas.{stands_remove}
use Rattle.object_store.proofs.store.Store.remove.Goals as goal

pub returns-clause-stands : goal.returns-clause-stands
returns-clause-stands c =
    let s : Contents = contents_of c.self.inside.tables in
    subst (λ (s : Contents). OnOk c.remove_placed.result (GrowsBy s (contents_of c.remove_placed.new.tables) (Remove c.args.now c.args.name.now))) c.self.view_is
    (ok_stands c.remove_placed.result (remove_fault (catalog_of s) (is_some (state_of s c.args.name.now c.args.now)) c.args.name.now) c.args.name.now s (after_remove s c.args.now c.args.name.now) (members_of c.remove_placed.new.tables) (contents_of c.remove_placed.new.tables) (Remove c.args.now c.args.name.now)
    c.remove_placed.ensures.ok c.remove_placed.ensures.judged (λ accepted. stands_remove s c.args.now c.args.name.now))

pub returns-clause-changes : goal.returns-clause-changes
returns-clause-changes c =
    let s : Contents = contents_of c.self.inside.tables in
    subst (λ (s : Contents). IfOk c.remove_placed.result (λ (done : Done). ChangesFrom done.id c.args.now (history_of s) (history_of (contents_of c.remove_placed.new.tables)))) c.self.view_is
    (ok_changes c.remove_placed.result c.args.name.now s (after_remove s c.args.now c.args.name.now) (members_of c.remove_placed.new.tables) (contents_of c.remove_placed.new.tables) c.args.now c.remove_placed.ensures.ok
    (λ id after at. remove_changes s c.args.now c.args.name.now id c.self.invariant.kept.sound after at))
