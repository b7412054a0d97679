use Rattle.std.proofs.Common.{◌≡◌, ℕ, None, Some, List, [], refl, sym, subst, arith}
use Rattle.std.proofs.lemmas.Option.{none-some}
use Rattle.motion.specs.Timeline.{Epoch}
use Rattle.object_store.specs.declared.objects.Done.{Done}
use Rattle.object_store.specs.Contents.{Contents, attributes_of_number}
use Rattle.object_store.specs.Effects.{with_epoch_of}
use Rattle.object_store.specs.Invariant.{WritesNamed}
use Rattle.object_store.specs.ObjectView.{objects_of}
use Rattle.object_store.specs.Tables.{contents_of, members_of}
use Rattle.object_store.proofs.WriteLemmas.{known_writes, object_at_index}
use Rattle.object_store.proofs.SizeLemmas.{few_indexes}
use Rattle.object_store.proofs.tables.Tables.write_remove.Goals as goal

pub returns-clause-ok : goal.returns-clause-ok
returns-clause-ok c =
    let s : Contents = contents_of c.args.self.now in
    let name : List ℕ = c.args.name.now in
    let p : Epoch = record { from = c.args.now; cells = None } in
    let after : Contents = record { classes = s.classes; objects = objects_of c.vanish_at.new.objects.entries; last_tick = c.args.now } in
    let at = object_at_index name s.objects c.args.at c.requires.name in
    subst (λ (done : Done). WritesNamed name s (with_epoch_of s name p) (members_of c.args.self.now) after done) (sym c.known.ensures)
    (known_writes s (members_of c.args.self.now) name c.args.at at.0 p c.in_ok-replaced.replaced (λ _. p) after.objects c.args.now
    c.requires.kept c.requires.now.after c.requires.now.tick c.requires.name at.1 (λ cells is. absurd (none-some cells is))
    c.in_ok-replaced.ensures.ok refl refl)

pub overflow_cast-at : goal.overflow_cast-at
overflow_cast-at c =
    omega (arith, few_indexes (contents_of c.args.self.now) c.args.name.now c.args.at c.requires.kept.sound c.requires.name)
