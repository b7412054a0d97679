-- What refuses a `must` or a `may`, and the rows that answer it.
use Rattle.std.specs.Prelude.{ℕ, ◌+◌, ℤ, unsigned_abs, Bool, ◌||◌, nat_lt, Option, List, [], ◌∷◌}
use Rattle.exact.specs.First.{first_that_holds}
use Rattle.tick_set.specs.declared.spans.TheConstants.{LAST_TICK}
use Rattle.history.specs.World.{World}
use Rattle.meaning.specs.Answer.{Row, answer_where}
use Rattle.meaning.specs.Binding.{holds_by}
use Rattle.worlds.specs.Blurred.{blurred}
use Rattle.command_text.specs.declared.refusal.Refusal.{Refusal}
use Rattle.command_text.specs.declared.refusal.Refusal.TheVariants as refusals
use Rattle.ftl_parser.specs.Sizes.{has_circle, has_not}
use Rattle.ftl_parser.specs.Tree.{QueryTree, Tree}
use Rattle.ftl_typer.specs.declared.found.FaultKind.TheVariants as kinds
use Rattle.line_meaning.specs.Ask.{bindings_asked, has_fault, query_in}
use Rattle.line_meaning.specs.declared.limits.TheConstants.{BLURRED_BINDING_LIMIT, BLURRED_SPAN_LIMIT}

-- A formula with a NOT or a circle. A NOT takes what surely holds for what possibly does, and no circle is judged by an error.
abbrev pub has_not_or_circle : Tree → Bool
has_not_or_circle f = has_not f || has_circle f

-- the span is too long, or the clock doesn't reach the expiry
abbrev pub is_blurred_past : (now span : ℕ) → Bool
is_blurred_past now span = nat_lt BLURRED_SPAN_LIMIT span || nat_lt LAST_TICK (now + span)

-- there may come to be too many bindings
abbrev pub is_blurred_crowded : World → QueryTree → Bool
is_blurred_crowded w q = nat_lt BLURRED_BINDING_LIMIT (bindings_asked w q)

abbrev pub blurred_refusal : World → (now span : ℕ) → QueryTree → Option Refusal
blurred_refusal w now span q = first_that_holds (
    (refusals.UnknownName, has_fault kinds.UnknownName w q)
    ∷ (refusals.NameTaken, has_fault kinds.NameTaken w q)
    ∷ (refusals.WrongKind, has_fault kinds.WrongKind w q || has_not_or_circle q.formula)
    ∷ (refusals.TermRange, has_fault kinds.TermRange w q)
    ∷ (refusals.SpanRange, is_blurred_past now span)
    ∷ (refusals.BindingLimit, is_blurred_crowded w q)
    ∷ [])

-- the rows of what surely holds, or else of what possibly does, from now to the expiry, where each position may be off by the
-- error along each axis
abbrev pub rows_blurred : Bool → World → (now span : ℕ) → ℤ → QueryTree → List Row
rows_blurred sure w now span error q =
    answer_where w (query_in w q) (holds_by (blurred sure (unsigned_abs error) w) w (query_in w q) (now + span)) now (now + span)
