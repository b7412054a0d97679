use Rattle.std.proofs.Common.{◌≡◌, Some, Bool, true, false, not, [], ◌∷◌, ap, sym, ◌∙◌}
use Rattle.std.specs.Prelude.{is_some}
use Rattle.motion.specs.Timeline.{state_at}
use Rattle.object_store.specs.Contents.{Contents}
use Rattle.object_store.specs.Tables.{contents_of}
use Rattle.object_store.proofs.EntryLemmas.{value_there, value_begun}
use Rattle.object_store.proofs.CommandLemmas.{found_there, remove_known}
use Rattle.object_store.proofs.WriteLemmas.{begun_by}
use Rattle.object_store.proofs.tables.Tables.judge_remove.Goals as goal

pub is_present-requires : goal.is_present-requires
is_present-requires c =
    value_begun c.args.self.now.objects.entries c.args.at c.index.result.now c.args.now c.index.ensures
    (begun_by (contents_of c.args.self.now) c.args.now c.requires.kept.sound c.requires.after)

pub returns-then-is_present : goal.returns-then-is_present
returns-then-is_present c =
    let s : Contents = contents_of c.args.self.now in
    let at = value_there c.args.self.now.objects.entries c.args.at c.index.result.now c.index.ensures in
    remove_known s c.args.name.now c.args.now at.object true (found_there c.args.name.now s.objects c.args.at at.object c.requires.name at.there)
    (sym c.if-is_present.true ∙ c.is_present.ensures ∙ ap (λ epochs. is_some (state_at epochs c.args.now)) (sym at.epochs))

pub returns-else-is_present : goal.returns-else-is_present
returns-else-is_present c =
    let s : Contents = contents_of c.args.self.now in
    let at = value_there c.args.self.now.objects.entries c.args.at c.index.result.now c.index.ensures in
    remove_known s c.args.name.now c.args.now at.object false (found_there c.args.name.now s.objects c.args.at at.object c.requires.name at.there)
    (sym c.if-is_present.false ∙ c.is_present.ensures ∙ ap (λ epochs. is_some (state_at epochs c.args.now)) (sym at.epochs))
