-- Classes and objects by their names.
use Rattle.std.proofs.Common.{◌≡◌, ℕ, true, false, Option, None, Some, List, [], ◌∷◌, map, refl, sym, ap, ◌∙◌, is_none, is_some, Bor}
use Rattle.std.specs.Prelude.{get_or, option_and_then, option_copied, option_map, slice_get}
use Rattle.std.specs.List.{find, position}
use Rattle.std.specs.Str.{bytes_eq}
use Rattle.std.proofs.lemmas.List.Quantifiers.{position-Some}
use Rattle.std.proofs.lemmas.Option.{slice_get-get_or, slice_get-map}
use Rattle.std.proofs.lemmas.Slice.Eq.{bytes_eq-Decides}
use Rattle.exact.specs.First.{first_that_holds}
use Rattle.motion.specs.Timeline.{state_at}
use Rattle.history.specs.Catalog.{ClassInfo, ObjectInfo}
use Rattle.history.specs.History.{cells_at}
use Rattle.object_store.specs.Contents.{Contents, StoredObject, history_of, is_named, object_info, state_of}
use Rattle.object_store.proofs.Lists.{find_is}
use Rattle.command_text.specs.declared.refusal.Refusal.{Refusal}
use Rattle.command_text.specs.declared.refusal.Refusal.TheVariants as refusals

-- the refusal by what was looked up
abbrev pub unknown_by : Option ℕ → Option Refusal
unknown_by found = first_that_holds ((refusals.UnknownName, is_none found) ∷ [])

pub known_number : (found : Option ℕ) → unknown_by found ≡ None → (n : ℕ) × (found ≡ Some n)
known_number None known = absurd (cc known)
known_number (Some n) known = (n, refl)

-- the class of a number that was looked up is the one of the name
pub class_at : (name : List ℕ) (classes : List ClassInfo) (n : ℕ) (k : ClassInfo) → position (λ k. bytes_eq name k.name) classes ≡ Some n →
    slice_get classes n ≡ Some k → find (λ k. bytes_eq name k.name) classes ≡ Some k
class_at name classes n k found at =
    find_is (λ (k : ClassInfo). bytes_eq name k.name) classes ∙ ap (option_and_then (slice_get classes)) found ∙ at

pub class_stands : (name : List ℕ) (classes : List ClassInfo) (n : ℕ) → position (λ k. bytes_eq name k.name) classes ≡ Some n →
    is_some (slice_get classes n) ≡ true
class_stands name classes n found =
    let d : ClassInfo = record { name = []; capacity = 0; point = false; attributes = [] } in
    ap is_some (slice_get-get_or classes n d (position-Some (λ (k : ClassInfo). bytes_eq name k.name) classes n d found).0)

pub copied_is_some : {X : Type 0} (o : Option (Bor X)) → is_some o ≡ is_some (option_copied o)
copied_is_some None = refl
copied_is_some (Some x) = refl

-- an object is present by its number as by its name
pub present_by : (s : Contents) (name : List ℕ) (t id : ℕ) → position (is_named name) s.objects ≡ Some id →
    is_some (cells_at (history_of s) id t) ≡ is_some (state_of s name t)
present_by s name t id at =
    let d : StoredObject = record { name = name; class = 0; epochs = [] } in
    let found = position-Some (is_named name) s.objects id d at in
    let o : StoredObject = get_or s.objects id d in
    let here : slice_get (map object_info s.objects) id ≡ Some (object_info o) =
    slice_get-map object_info s.objects id ∙ ap (option_map object_info) (slice_get-get_or s.objects id d found.0) in
    let same : name ≡ o.name = (bytes_eq-Decides name o.name).0 found.1 in
    ap (λ (x : Option ObjectInfo). is_some (option_and_then (λ i. state_of s i.name t) x)) here
    ∙ ap (λ n. is_some (state_of s n t)) (sym same)

pub absent_by : (s : Contents) (name : List ℕ) (t : ℕ) → position (is_named name) s.objects ≡ None → false ≡ is_some (state_of s name t)
absent_by s name t none =
    sym (ap (λ (x : Option StoredObject). is_some (option_and_then (λ o. state_at o.epochs t) x))
    (find_is (is_named name) s.objects ∙ ap (option_and_then (slice_get s.objects)) none))
