-- What refuses a `nearest` whose object and class are there.
use Rattle.std.specs.Prelude.{ℕ, ◌&&◌, not, nat_lt, Option, [], ◌∷◌}
use Rattle.exact.specs.First.{first_that_holds}
use Rattle.history.specs.Catalog.{ClassInfo}
use Rattle.kept_rows.specs.declared.binding.TheConstants.{BINDING_LIMIT}
use Rattle.command_text.specs.declared.refusal.Refusal.{Refusal}
use Rattle.command_text.specs.declared.refusal.Refusal.TheVariants as refusals
use Rattle.line_meaning.specs.Near.{has_places, is_near_past, pairs_in}

-- by the class of the object, and the class
abbrev pub refusal_of_found : (own class : Option ClassInfo) → (now span : ℕ) → Option Refusal
refusal_of_found own class now span = first_that_holds (
    (refusals.WrongKind, not (has_places own && has_places class))
    ∷ (refusals.SpanRange, is_near_past now span)
    ∷ (refusals.BindingLimit, nat_lt BINDING_LIMIT (pairs_in class))
    ∷ [])
