use Rattle.std.proofs.Common.{◌≡◌, List, [], ◌∷◌, ◌++◌, None, ap, subst, sym, ◌∙◌}
use Rattle.std.specs.List.{find}
use Rattle.object_store.specs.declared.objects.Object.{Object}
use Rattle.object_store.specs.Contents.{is_named}
use Rattle.object_store.specs.ObjectView.{objects_of}
use Rattle.object_store.proofs.EntryLemmas.{entered_last, on_ok}
use Rattle.object_store.proofs.objects.enter.Goals as goal

pub returns-clause-objects : goal.returns-clause-objects
returns-clause-objects c =
    let v : Object = record { class = c.args.number; timeline = c.args.timeline } in
    entered_last c.reserve.new.self c.args.name.now v c.insert.new.self.entries
    (ap (λ es. find (is_named c.args.name.now) (objects_of es)) c.reserve.ensures.entries ∙ c.requires.new)
    (on_ok c.insert.result c.unwrap.result _ c.unwrap.ensures c.insert.ensures.entries)
    ∙ ap (λ es. objects_of es ++ record { name = c.args.name.now; class = c.args.number; epochs = c.args.timeline } ∷ []) c.reserve.ensures.entries
