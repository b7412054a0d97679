use Rattle.std.proofs.Common.{◌≡◌, ◌<◌, Some, List, length, get_or, sym, ap, subst, ◌∙◌}
use Rattle.std.specs.Str.{bytes_eq}
use Rattle.history.specs.Write.{Attribute}
use Rattle.ftl_typer.proofs.AttributeLemmas.{kind_there}
use Rattle.ftl_typer.proofs.scope.attribute_in.Goals as goal

pub returns-in_ok-attribute-in-Some-clause-kind : goal.returns-in_ok-attribute-in-Some-clause-kind
returns-in_ok-attribute-in-Some-clause-kind c =
    let attributes = c.args.class.now.attributes in
    let attribute = c.in_ok-attribute-in-Some.attribute.now in
    let looked_up = c.in_ok-attribute-in-Some.ensures.lookup in
    let below : c.in-Some.place < length attributes =
    subst (λ (xs : List Attribute). c.in-Some.place < length xs) c.attrs.ensures.value looked_up.3.0 in
    let here : attribute ≡ get_or attributes c.in-Some.place attribute =
    looked_up.1 ∙ ap (λ (xs : List Attribute). get_or xs c.in-Some.place attribute) c.attrs.ensures.value in
    ap (λ (a : Attribute). Some a.kind) c.attribute.view_is
    ∙ sym (kind_there (λ (a : Attribute). bytes_eq c.args.name.now a.name) attributes c.in-Some.place attribute
    (sym c.attr_of.ensures ∙ c.in-Some.is) below here)
