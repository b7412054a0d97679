use Rattle.std.proofs.Common.{◌≡◌, List, [], ◌∷◌, ◌++◌, ap, sym, ◌∙◌, if◌then◌else◌}
use Rattle.std.specs.Prelude.{is_ok}
use Rattle.object_store.specs.Contents.{Contents}
use Rattle.object_store.specs.Tables.{contents_of, members_of}
use Rattle.object_store.proofs.WriteLemmas.{class_kept}
use Rattle.object_store.proofs.tables.Tables.write_class.Goals as goal

pub returns-clause-kept : goal.returns-clause-kept
returns-clause-kept c =
    let s : Contents = contents_of c.args.self.now in
    class_kept s (members_of c.args.self.now) c.push.new.self.items c.in_ok-class.class c.add.new.self c.requires.kept c.in_ok-number.ensures.sound c.in_ok-number.ensures.ok
    (c.push.ensures.items
    ∙ ap (λ r. if is_ok r then (c.reserve.new.self.items ++ c.new-2.result ∷ []) else c.reserve.new.self.items) c.unwrap.ensures
    ∙ ap (λ ms. ms ++ c.new-2.result ∷ []) c.reserve.ensures.items
    ∙ ap (λ m. members_of c.args.self.now ++ m ∷ []) c.new-2.ensures)
