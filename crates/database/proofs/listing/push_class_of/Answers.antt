use Rattle.std.proofs.Common.{◌≡◌, ℕ, List, ◌++◌, [], length, sym, ap, subst, ◌∙◌}
use Rattle.std.specs.Prelude.{OnOk, Some, slice_get}
use Rattle.std.specs.Option.{option_map_or}
use Rattle.std.proofs.lemmas.List.{length-map}
use Rattle.history.specs.Catalog.{names}
use Rattle.object_store.specs.Contents.{catalog_of, object_name}
use Rattle.line_meaning.specs.Reply.{class_counts, class_line}
use Rattle.database.proofs.listing.push_class_of.Goals as goal

pub returns-in-Some-clause-ok : goal.returns-in-Some-clause-ok
returns-in-Some-clause-ok c =
    let catalog = catalog_of c.args.store.now in
    let k = c.in-Some.class.now in
    let there : slice_get c.args.store.now.classes c.args.number ≡ Some k = sym (c.in-Some.ensures ∙ ap (λ ks. slice_get ks c.args.number) c.schema.ensures) in
    let count : length c.class_names.result.now ≡ length (names catalog c.args.number)
    = sym (length-map c.class_names.result.now (object_name c.args.store.now.objects)) ∙ ap length c.class_names.ensures.names in
    let name : c.name.result.now ≡ k.name = c.name.ensures.value in
    let capacity : c.capacity.result ≡ k.capacity = c.capacity.ensures.value in
    subst (λ o. OnOk c.push_class.result (c.push_class.new.out.items ≡ c.args.out.now.items ++ option_map_or (λ k. class_line catalog (c.args.number, k)) o [])) (sym there)
    (subst (λ (line : List ℕ). OnOk c.push_class.result (c.push_class.new.out.items ≡ c.args.out.now.items ++ line))
    (λ i. class_counts (name i) (count i) (capacity i)) c.push_class.ensures.ok)
