use Rattle.std.proofs.Common.{List, ℕ, None, true, refl, ◌∙◌, subst}
use Rattle.session.specs.Filed.{Puts}
use Rattle.session.proofs.FileLemmas.{class_told, export_is_applied, text_told}
use Rattle.session.proofs.filing.export.Goals as goal

pub returns-in-Ok-clause-applied : goal.returns-in-Ok-clause-applied
returns-in-Ok-clause-applied g c =
    let told = g.F.Shelf.texts c.args.shelf.now in
    let left = g.F.Shelf.texts c.put.new.shelf in
    let journal = c.args.state.now.journal in
    let d = c.args.state.now.database in
    export_is_applied told left journal c.args.class.now c.args.file.now c.args.out.now.items c.put.new.out.items c.put.result
    (class_told journal d c.requires.keeps c.args.class.now None (c.in-Ok.ensures.accepted (refl {a = true})))
    (subst (λ (t : List ℕ). Puts told left c.args.file.now t c.put.result)
    (c.deref.ensures.value ∙ c.in-Ok.ensures.text ∙ text_told journal d c.requires.keeps c.args.class.now) c.put.ensures.puts)
    c.put.ensures.said
