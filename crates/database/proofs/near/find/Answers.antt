use Rattle.std.proofs.Common.{sym, ◌∙◌}
use Rattle.std.specs.List.{position}
use Rattle.std.specs.Str.{bytes_eq}
use Rattle.database.proofs.NearLemmas.{stored_number, unknown_object}
use Rattle.database.proofs.near.find.Goals as goal

pub returns-in_err-id_of : goal.returns-in_err-id_of
returns-in_err-id_of c =
    rw c.from_residual.ensures
    (unknown_object c.args.store.now c.args.sought.now.object.now c.args.sought.now.class.now (sym c.id_of.ensures ∙ c.in_err-id_of.was))

pub returns : goal.returns
returns c =
    let object = stored_number c.args.store.now c.args.sought.now.object.now ∙ sym c.id_of.ensures ∙ c.in_ok-id_of.was in
    let class = (λ i. position (λ k. bytes_eq c.args.sought.now.class.now k.name) (sym c.schema.ensures i)) ∙ sym c.class_of.ensures ∙ c.in_ok-class_of.was in
    (object, class)
