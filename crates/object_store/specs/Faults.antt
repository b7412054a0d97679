-- The first fault of a writing call. Each condition is a function of the catalog, of whether the object is present,
-- and of what is written.
use Rattle.std.specs.Prelude.{ℕ, ◌==◌, Bool, true, false, ◌&&◌, ◌||◌, not, nat_le, is_some, is_none, Option, List, [], ◌∷◌, ◌++◌, length, slice_get}
use Rattle.std.specs.List.{find, list_any}
use Rattle.std.specs.Option.{option_and_then, option_map_or}
use Rattle.std.specs.Str.{bytes_eq}
use Rattle.exact.specs.First.{first_that_holds}
use Rattle.motion.specs.Cells.{place_sets}
use Rattle.motion.specs.declared.cell.AttrKind.{AttrKind}
use Rattle.motion.specs.declared.cell.AttrKind.TheVariants as kinds
use Rattle.motion.specs.declared.cell.Given.{Given}
use Rattle.motion.specs.declared.cell.Given.TheVariants as givens
use Rattle.motion.specs.declared.cell.NamedSet.{NamedSet}
use Rattle.motion.specs.declared.cell.Place.{Place}
use Rattle.history.specs.Write.{Attribute}
use Rattle.history.specs.Catalog.{Catalog, ClassInfo, ObjectInfo, class_of, number_of_class, object_of, attributes_of_class, with_coordinates, names_in}
use Rattle.object_store.specs.declared.schema.TheConstants.{CLASS_LIMIT}
use Rattle.object_store.specs.declared.fault.StoreFault.{StoreFault}
use Rattle.object_store.specs.declared.fault.StoreFault.TheVariants as faults

-- some name stands twice
abbrev pub repeats : {X : Type 0} → (X → List ℕ) → List X → Bool
repeats name_of [] = false
repeats name_of (x ∷ xs) = list_any (λ y. bytes_eq (name_of x) (name_of y)) xs || repeats name_of xs

-- two attributes of a class have the same name
abbrev pub repeats_attribute : List Attribute → Bool
repeats_attribute attributes = repeats (λ a. a.name) attributes

-- a command writes an attribute twice; `at` and `move` write x and y
abbrev pub repeats_set : Place → List NamedSet → Bool
repeats_set place sets = repeats (λ set. set.name) (place_sets place ++ sets)

-- whether an attribute of a kind takes what is given
abbrev pub takes : AttrKind → Given → Bool
takes kinds.Num (givens.Num n) = true
takes kinds.Text (givens.Text w) = true
takes kinds.Dyn (givens.Num n) = true
takes kinds.Dyn (givens.Rate f) = true
takes kinds.Dyn (givens.Both n f) = true
takes kind given = false

abbrev pub attribute_named : List Attribute → List ℕ → Option Attribute
attribute_named attributes name = find (λ a. bytes_eq name a.name) attributes

-- a setting names an attribute that isn't there
abbrev pub has_unknown : List Attribute → List NamedSet → Bool
has_unknown attributes sets = list_any (λ set. is_none (attribute_named attributes set.name)) sets

-- a setting gives what its attribute doesn't take
abbrev pub is_misfit : List Attribute → NamedSet → Bool
is_misfit attributes set = option_map_or (λ a. not (takes a.kind set.given)) (attribute_named attributes set.name) false

abbrev pub has_misfit : List Attribute → List NamedSet → Bool
has_misfit attributes sets = list_any (is_misfit attributes) sets

abbrev pub is_placed : Place → Bool
is_placed place = is_some place.at || is_some place.moving

-- `at` or `move` is written of a class without positions
abbrev pub is_misplaced : Option ClassInfo → Place → Bool
is_misplaced class index = is_placed index && not (option_map_or (λ k. k.point) class false)

-- the class of the object of a name
abbrev pub class_of_object : Catalog → List ℕ → Option ClassInfo
class_of_object c name = option_and_then (λ o. slice_get c.classes o.class) (object_of c name)

-- whether an object is of the class of a name
abbrev pub is_of_named_class : Catalog → List ℕ → ObjectInfo → Bool
is_of_named_class c class o = option_map_or (λ number. o.class == number) (number_of_class c class) false

-- the name belongs to another class
abbrev pub is_elsewhere : Catalog → List ℕ → List ℕ → Bool
is_elsewhere c class name = option_map_or (λ o. not (is_of_named_class c class o)) (object_of c name) false

-- the name is new, and its class has had as many names as its capacity
abbrev pub is_past_capacity : Catalog → List ℕ → List ℕ → Bool
is_past_capacity c class name =
    is_none (object_of c name)
    && option_map_or (λ k. nat_le k.capacity (length (names_in c (number_of_class c class)))) (class_of c class) false

-- the first fault of a new class beside these
abbrev pub fault_of_class : List ClassInfo → List ℕ → Bool → List Attribute → Option StoreFault
fault_of_class classes name point attributes = first_that_holds
    ((
      faults.NameTaken,
      is_some (find (λ k. bytes_eq name k.name) classes) || repeats_attribute (with_coordinates point attributes),
    )
    ∷ (faults.StoreFull, nat_le CLASS_LIMIT (length classes))
    ∷ [])

abbrev pub class_fault : Catalog → List ℕ → Bool → List Attribute → Option StoreFault
class_fault c name point attributes = fault_of_class c.classes name point attributes

-- the first fault of an insert into a class
abbrev pub fault_of_insert : Option ClassInfo → (elsewhere present past_capacity : Bool) → Place → List NamedSet → Option StoreFault
fault_of_insert k elsewhere present past_capacity place sets = first_that_holds
    ((faults.UnknownName, is_none k || has_unknown (attributes_of_class k) sets)
    ∷ (faults.NameTaken, elsewhere || repeats_set place sets)
    ∷ (faults.WrongKind, is_misplaced k place || has_misfit (attributes_of_class k) sets)
    ∷ (faults.Presence, present)
    ∷ (faults.ClassFull, past_capacity)
    ∷ [])

abbrev pub insert_fault : Catalog → Bool → List ℕ → List ℕ → Place → List NamedSet → Option StoreFault
insert_fault c present class name place sets =
    fault_of_insert (class_of c class) (is_elsewhere c class name) present (is_past_capacity c class name) place sets

-- the first fault of an update of an object of a class
abbrev pub fault_of_update : Option ClassInfo → (present : Bool) → Place → List NamedSet → Option StoreFault
fault_of_update k present place sets = first_that_holds
    ((faults.UnknownName, is_none k || has_unknown (attributes_of_class k) sets)
    ∷ (faults.NameTaken, repeats_set place sets)
    ∷ (faults.WrongKind, is_misplaced k place || has_misfit (attributes_of_class k) sets)
    ∷ (faults.Presence, not present)
    ∷ [])

abbrev pub update_fault : Catalog → Bool → List ℕ → Place → List NamedSet → Option StoreFault
update_fault c present name place sets = fault_of_update (class_of_object c name) present place sets

abbrev pub remove_fault : Catalog → Bool → List ℕ → Option StoreFault
remove_fault c present name = first_that_holds
    ((faults.UnknownName, is_none (object_of c name))
    ∷ (faults.Presence, not present)
    ∷ [])
