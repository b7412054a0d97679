-- What refuses a `nearest`, and the rows that answer it.
use Rattle.std.specs.Prelude.{ℕ, ◌+◌, ◌*◌, Bool, false, ◌&&◌, ◌||◌, not, nat_lt, Option, is_none, List, [], ◌∷◌}
use Rattle.std.specs.List.{position}
use Rattle.std.specs.Option.{option_map_or}
use Rattle.std.specs.Str.{bytes_eq}
use Rattle.exact.specs.First.{first_that_holds}
use Rattle.tick_set.specs.declared.spans.TheConstants.{LAST_TICK}
use Rattle.history.specs.Catalog.{Catalog, ClassInfo, class_of, number_of_class}
use Rattle.history.specs.World.{World}
use Rattle.meaning.specs.Answer.{Row}
use Rattle.nearness.specs.Nearest.{near}
use Rattle.kept_rows.specs.declared.binding.TheConstants.{BINDING_LIMIT}
use Rattle.object_store.specs.Faults.{class_of_object}
use Rattle.command_text.specs.declared.refusal.Refusal.{Refusal}
use Rattle.command_text.specs.declared.refusal.Refusal.TheVariants as refusals
use Rattle.line_meaning.specs.declared.limits.TheConstants.{NEAREST_SPAN_LIMIT}

-- the number of an object by its name, whether it is present or not
abbrev pub number_of_object : Catalog → List ℕ → Option ℕ
number_of_object c name = position (λ o. bytes_eq name o.name) c.objects

-- the object was never inserted, or the class isn't there
abbrev pub is_near_unknown : Catalog → (object class : List ℕ) → Bool
is_near_unknown c object class = is_none (number_of_object c object) || is_none (number_of_class c class)

abbrev pub has_places : Option ClassInfo → Bool
has_places class = option_map_or (λ k. k.point) class false

-- the object is of a class without positions, or the class is one
abbrev pub is_near_placeless : Catalog → (object class : List ℕ) → Bool
is_near_placeless c object class = not (has_places (class_of_object c object) && has_places (class_of c class))

-- the span is too long, or the clock doesn't reach the last of its ticks
abbrev pub is_near_past : (now span : ℕ) → Bool
is_near_past now span = nat_lt NEAREST_SPAN_LIMIT span || nat_lt LAST_TICK (now + span)

-- how many pairs of objects of the class there may come to be
abbrev pub pairs_in : Option ClassInfo → ℕ
pairs_in class = option_map_or (λ k. k.capacity * k.capacity) class 0

-- there are too many of them
abbrev pub is_near_crowded : Catalog → List ℕ → Bool
is_near_crowded c class = nat_lt BINDING_LIMIT (pairs_in (class_of c class))

abbrev pub near_refusal : Catalog → (now span : ℕ) → (object class : List ℕ) → Option Refusal
near_refusal c now span object class = first_that_holds (
    (refusals.UnknownName, is_near_unknown c object class)
    ∷ (refusals.WrongKind, is_near_placeless c object class)
    ∷ (refusals.SpanRange, is_near_past now span)
    ∷ (refusals.BindingLimit, is_near_crowded c class)
    ∷ [])

-- the rows of the k nearest to an object among those of a class, from now to the last tick of the span, none where one of
-- the two isn't there
abbrev pub rows_near : World → (now span k : ℕ) → (object class : List ℕ) → List Row
rows_near w now span k object class =
    option_map_or (λ to. option_map_or (λ number. near w.history number to k now (now + span)) (number_of_class w.history.catalog class) [])
    (number_of_object w.history.catalog object) []
