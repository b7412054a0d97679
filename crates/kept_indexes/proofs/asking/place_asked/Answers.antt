use Rattle.std.proofs.Common.{◌≡◌, None, true, sym, ap, ◌∙◌}
use Rattle.object_store.specs.Contents.{catalog_of}
use Rattle.line_meaning.specs.Indexed.{column, is_past_index}
use Rattle.kept_indexes.specs.Kept.{entry_of}
use Rattle.kept_indexes.proofs.FindLemmas.{none_is, range_refused, unknown_range}
use Rattle.kept_indexes.proofs.asking.place_asked.Goals as goal

pub returns-in_default-place_of : goal.returns-in_default-place_of
returns-in_default-place_of c =
    unknown_range (catalog_of c.args.database.now.store) c.args.kept.now c.args.database.now.clock c.args.range.now.span c.args.range.now.class.now c.args.range.now.attr.now
    c.in-Some.at ((λ i. column (catalog_of (sym c.store.ensures i)) c.args.range.now.class.now c.args.range.now.attr.now) ∙ sym c.column_of.ensures ∙ c.in-Some.is) (sym c.place_of.ensures ∙ none_is c.place_of.result c.in_default-place_of.not-Some)

pub returns-then-is_past_index : goal.returns-then-is_past_index
returns-then-is_past_index c =
    range_refused (catalog_of c.args.database.now.store) c.args.kept.now c.args.database.now.clock c.args.range.now.span c.args.range.now.class.now c.args.range.now.attr.now
    c.in-Some.at c.in-Some-place_of.place c.index-kept-place.result ((λ i. column (catalog_of (sym c.store.ensures i)) c.args.range.now.class.now c.args.range.now.attr.now) ∙ sym c.column_of.ensures ∙ c.in-Some.is) (sym c.place_of.ensures ∙ c.in-Some-place_of.is) true
    (ap (λ k. is_past_index c.args.database.now.clock c.args.range.now.span (entry_of k)) (sym c.index-kept-place.is)
    ∙ ap (λ n. is_past_index n c.args.range.now.span (entry_of c.index-kept-place.result)) (sym c.clock.ensures)
    ∙ sym c.is_past_index.ensures ∙ c.if-is_past_index.true)
