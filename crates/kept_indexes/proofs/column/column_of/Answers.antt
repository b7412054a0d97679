use Rattle.std.proofs.Common.{sym, ap, ◌∙◌}
use Rattle.std.specs.Prelude.{option_copied, slice_get}
use Rattle.std.specs.List.{position}
use Rattle.std.specs.Str.{bytes_eq}
use Rattle.std.proofs.Common.{None}
use Rattle.object_store.specs.Contents.{catalog_of}
use Rattle.kept_indexes.proofs.FindLemmas.{column_is}
use Rattle.kept_indexes.proofs.column.column_of.Goals as goal

pub returns-in_err-place : goal.returns-in_err-place
returns-in_err-place c =
    rw c.from_residual-in_err-place.ensures
    (sym (column_is (catalog_of c.args.store.now) c.args.class.now c.args.attr.now c.in_ok-number.number c.in_ok-class.field-0.now None
    ((λ i. position (λ k. bytes_eq c.args.class.now k.name) (sym c.schema.ensures i)) ∙ sym c.class_of.ensures ∙ c.in_ok-number.was)
    (ap (λ ks. slice_get ks c.in_ok-number.number) (sym c.schema-2.ensures) ∙ sym c.class.ensures ∙ ap option_copied c.in_ok-class.was)
    (sym c.attr_of.ensures ∙ c.in_err-place.was)))
