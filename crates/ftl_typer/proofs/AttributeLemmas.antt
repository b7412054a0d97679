-- The kind of an attribute that is looked for by its name.
use Rattle.std.proofs.Common.{◌≡◌, ℕ, Bool, List, Option, None, Some, slice_get, ◌<◌, length, get_or, sym, ap, ◌∙◌}
use Rattle.std.specs.Prelude.{option_map, option_and_then, position, find}
use Rattle.std.proofs.lemmas.Option.{slice_get-get_or}
use Rattle.motion.specs.declared.cell.AttrKind.{AttrKind}
use Rattle.history.specs.Write.{Attribute}
use Rattle.object_store.proofs.Lists.{find_is}

abbrev pub kind_found : (Attribute → Bool) → List Attribute → Option AttrKind
kind_found p attributes = option_map (λ attribute. attribute.kind) (find p attributes)

pub no_kind : (p : Attribute → Bool) (attributes : List Attribute) →
    position p attributes ≡ None → kind_found p attributes ≡ None
no_kind p attributes none =
    ap (option_map (λ (attribute : Attribute). attribute.kind))
    (find_is p attributes ∙ ap (option_and_then (slice_get attributes)) none)

pub kind_there : (p : Attribute → Bool) (attributes : List Attribute) (place : ℕ) (attribute : Attribute) →
    position p attributes ≡ Some place → place < length attributes → attribute ≡ get_or attributes place attribute →
    kind_found p attributes ≡ Some attribute.kind
kind_there p attributes place attribute found below here =
    ap (option_map (λ (a : Attribute). a.kind))
    (find_is p attributes ∙ ap (option_and_then (slice_get attributes)) found
    ∙ slice_get-get_or attributes place attribute below ∙ ap Some (sym here))
