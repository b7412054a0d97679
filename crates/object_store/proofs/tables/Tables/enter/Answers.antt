use Rattle.std.proofs.Common.{◌≡◌, ℕ, Some, List, [], refl, sym, subst, ap, ◌∙◌}
use Rattle.motion.specs.Timeline.{Epoch, put}
use Rattle.object_store.specs.declared.objects.Done.{Done}
use Rattle.object_store.specs.Contents.{Contents, attributes_of_number}
use Rattle.object_store.specs.Effects.{with_object}
use Rattle.object_store.specs.Invariant.{WritesNamed}
use Rattle.object_store.specs.ObjectView.{objects_of}
use Rattle.object_store.specs.Tables.{contents_of, members_of}
use Rattle.object_store.proofs.WriteLemmas.{entered_writes, entered_done, some_fits}
use Rattle.object_store.proofs.SizeLemmas.{few_objects}
use Rattle.object_store.proofs.tables.Tables.enter.Goals as goal

pub returns-clause-ok : goal.returns-clause-ok
returns-clause-ok c =
    let s : Contents = contents_of c.args.self.now in
    let name : List ℕ = c.args.name.now in
    let p : Epoch = record { from = c.args.now; cells = Some c.args.cells.items } in
    let after : Contents = record { classes = s.classes; objects = objects_of c.enter.new.objects.entries; last_tick = c.args.now } in
    subst (λ (done : Done). WritesNamed name s (with_object s c.args.number name p) c.enter.new.members.items after done) (sym c.entered.ensures)
    (entered_writes s (members_of c.args.self.now) c.args.number name p c.begin_with.new.self after.objects c.enter.new.members.items c.in_ok-id.id c.args.now
    c.requires.kept c.requires.now.after c.requires.now.tick c.requires.name c.requires.room (some_fits (attributes_of_number s.classes c.args.number) c.args.cells.items c.requires.fits)
    c.in_ok-id.ensures.objects (c.in_ok-begin_with.ensures.ok ∙ ap (λ epochs. put epochs p) c.new-timeline.ensures) c.in_ok-id.ensures.members c.in_ok-id.ensures.id refl)

pub enter-requires-clause-few : goal.enter-requires-clause-few
enter-requires-clause-few c = few_objects (contents_of c.args.self.now) c.requires.kept.sound
