use Rattle.std.proofs.Common.{ap, is_some, sym, ◌∙◌}
use Rattle.std.specs.Prelude.{option_copied, slice_get}
use Rattle.std.specs.List.{position}
use Rattle.std.specs.Str.{bytes_eq}
use Rattle.history.specs.Catalog.{attributes_of_class}
use Rattle.object_rows.specs.Rows.{rows_in}
use Rattle.database.proofs.FileLemmas.{class_at, class_stands, copied_is_some, known_number}
use Rattle.database.proofs.database.Database.rows_of.Goals as goal

pub unwrap-number-requires : goal.unwrap-number-requires
unwrap-number-requires c =
    let known = known_number (position (λ k. bytes_eq c.args.class.now k.name) c.args.self.now.store.classes) c.requires.known in
    ap is_some (c.class_of.ensures ∙ (λ i. position (λ k. bytes_eq c.args.class.now k.name) (c.schema-schema.ensures i)) ∙ known.1)

pub unwrap-class-requires : goal.unwrap-class-requires
unwrap-class-requires c =
    let found = (λ i. position (λ k. bytes_eq c.args.class.now k.name) (sym c.schema-schema.ensures i)) ∙ sym c.class_of.ensures ∙ c.unwrap-number.ensures in
    copied_is_some c.class.result
    ∙ ap is_some (c.class.ensures ∙ (λ i. slice_get (c.schema-schema.ensures i) c.unwrap-number.result))
    ∙ class_stands c.args.class.now c.args.self.now.store.classes c.unwrap-number.result found

pub returns-in-Ok : goal.returns-in-Ok
returns-in-Ok c =
    let found = (λ i. position (λ k. bytes_eq c.args.class.now k.name) (sym c.schema-schema.ensures i)) ∙ sym c.class_of.ensures ∙ c.unwrap-number.ensures in
    let at = (λ i. slice_get (sym c.schema-schema.ensures i) c.unwrap-number.result) ∙ sym c.class.ensures ∙ ap option_copied c.unwrap-class.ensures in
    let class = class_at c.args.class.now c.args.self.now.store.classes c.unwrap-number.result c.unwrap-class.result.now found at in
    sym (ap (λ o. rows_in (attributes_of_class o) c.args.text.now) class ∙ c.in-Ok.ensures.ok)

pub returns-in-Err-BadRows : goal.returns-in-Err-BadRows
returns-in-Err-BadRows c =
    let found = (λ i. position (λ k. bytes_eq c.args.class.now k.name) (sym c.schema-schema.ensures i)) ∙ sym c.class_of.ensures ∙ c.unwrap-number.ensures in
    let at = (λ i. slice_get (sym c.schema-schema.ensures i) c.unwrap-number.result) ∙ sym c.class.ensures ∙ ap option_copied c.unwrap-class.ensures in
    let class = class_at c.args.class.now c.args.self.now.store.classes c.unwrap-number.result c.unwrap-class.result.now found at in
    sym (ap (λ o. rows_in (attributes_of_class o) c.args.text.now) class ∙ c.in-Err-BadRows.ensures.fault c.in-Err-BadRows.field-0-is)
