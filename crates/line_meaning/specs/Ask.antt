-- What refuses an `ask`, and the rows that answer it.
use Rattle.std.specs.Prelude.{ℕ, ◌+◌, Bool, ◌||◌, nat_le, nat_lt, Option, List, [], ◌∷◌, if◌then◌else◌}
use Rattle.exact.specs.First.{first_that_holds}
use Rattle.tick_set.specs.declared.spans.TheConstants.{LAST_TICK, SPAN_LIMIT}
use Rattle.history.specs.Catalog.{most_bindings}
use Rattle.history.specs.World.{World}
use Rattle.formula.specs.Tree.{ResolvedQuery}
use Rattle.meaning.specs.Answer.{Row, answer}
use Rattle.kept_rows.specs.declared.binding.TheConstants.{BINDING_LIMIT}
use Rattle.command_text.specs.declared.refusal.Refusal.{Refusal}
use Rattle.command_text.specs.declared.refusal.Refusal.TheVariants as refusals
use Rattle.ftl_parser.specs.Sizes.{nesting, objects}
use Rattle.ftl_parser.specs.Tree.{QueryTree, Tree}
use Rattle.ftl_typer.specs.Fault.{has_kind}
use Rattle.ftl_typer.specs.Faults.{faults}
use Rattle.ftl_typer.specs.Resolved.{resolved}
use Rattle.ftl_typer.specs.declared.found.FaultKind.{FaultKind}
use Rattle.ftl_typer.specs.declared.found.FaultKind.TheVariants as kinds
use Rattle.line_meaning.specs.declared.limits.TheConstants.{ASSIGNED_SPAN_LIMIT, CIRCLE_NAMES, CIRCLE_SPAN_LIMIT}

-- the query with numbers for its names
abbrev pub query_in : World → QueryTree → ResolvedQuery
query_in w q = resolved w.history.catalog.classes w.regions q

-- whether it has a fault of a kind
abbrev pub has_fault : FaultKind → World → QueryTree → Bool
has_fault kind w q = has_kind kind (faults w.history.catalog.classes w.regions q)

-- the longest span: that of a formula with an assignment, else of one with a circle of three names or more, else of any
abbrev pub span_limit : Tree → ℕ
span_limit f =
    if nat_lt 0 (nesting f) then ASSIGNED_SPAN_LIMIT
    else if nat_le CIRCLE_NAMES (objects f) then CIRCLE_SPAN_LIMIT
    else SPAN_LIMIT

-- the span is too long, or the clock doesn't reach the expiry
abbrev pub is_past_span : ℕ → ℕ → Tree → Bool
is_past_span now span f = nat_lt (span_limit f) span || nat_lt LAST_TICK (now + span)

-- how many bindings there may come to be
abbrev pub bindings_asked : World → QueryTree → ℕ
bindings_asked w q = most_bindings w.history.catalog.classes (query_in w q).classes

abbrev pub ask_refusal : World → ℕ → ℕ → QueryTree → Option Refusal
ask_refusal w now span q = first_that_holds (
    (refusals.UnknownName, has_fault kinds.UnknownName w q)
    ∷ (refusals.NameTaken, has_fault kinds.NameTaken w q)
    ∷ (refusals.WrongKind, has_fault kinds.WrongKind w q)
    ∷ (refusals.TermRange, has_fault kinds.TermRange w q)
    ∷ (refusals.SpanRange, is_past_span now span q.formula)
    ∷ (refusals.BindingLimit, nat_lt BINDING_LIMIT (bindings_asked w q))
    ∷ [])

-- the rows that answer it, from now to the expiry
abbrev pub rows_asked : World → ℕ → ℕ → QueryTree → List Row
rows_asked w now span q = answer w (query_in w q) now (now + span)
