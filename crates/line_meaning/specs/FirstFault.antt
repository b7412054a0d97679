-- How a query is judged: by the first of its faults, and else by its sizes. What refuses it so is what the tables of its
-- refusals say, which a lemma for the crates above shows.
use Rattle.std.specs.Prelude.{ℕ, Bool, true, false, Option, None, Some, option_and_then, List, [], ◌∷◌, nat_le, nat_lt, length}
use Rattle.exact.specs.First.{first_that_holds, or_else}
use Rattle.history.specs.World.{World}
use Rattle.formula.specs.declared.limits.TheConstants.{QUERY_LIMIT}
use Rattle.kept_rows.specs.declared.binding.TheConstants.{BINDING_LIMIT}
use Rattle.command_text.specs.declared.refusal.Refusal.{Refusal}
use Rattle.command_text.specs.declared.refusal.Refusal.TheVariants as refusals
use Rattle.ftl_parser.specs.Tree.{QueryTree}
use Rattle.ftl_typer.specs.Faults.{faults}
use Rattle.ftl_typer.specs.First.{first_fault}
use Rattle.ftl_typer.specs.declared.fault.TypeFault.{TypeFault}
use Rattle.ftl_typer.specs.declared.fault.TypeFault.TheVariants as type_faults
use Rattle.line_meaning.specs.Ask.{bindings_asked, is_past_span}
use Rattle.line_meaning.specs.Blurred.{has_not_or_circle, is_blurred_crowded, is_blurred_past}
use Rattle.line_meaning.specs.QueryFault.{passes_bindings}
use Rattle.line_meaning.specs.Registry.{Known, is_registered}

-- the refusal of a fault of names, kinds or bounds
abbrev pub refusal_by_type : TypeFault → Option Refusal
refusal_by_type (type_faults.UnknownName place) = Some refusals.UnknownName
refusal_by_type (type_faults.NameTaken place) = Some refusals.NameTaken
refusal_by_type (type_faults.WrongKind place) = Some refusals.WrongKind
refusal_by_type (type_faults.TermRange place) = Some refusals.TermRange
refusal_by_type type_faults.NoMemory = None

abbrev pub type_refusal : World → QueryTree → Option Refusal
type_refusal w q = option_and_then refusal_by_type (first_fault (faults w.history.catalog.classes w.regions q))

-- the refusals of an ask by its span and by how many bindings there may be
abbrev pub size_refusal : World → ℕ → ℕ → QueryTree → Option Refusal
size_refusal w now span q = first_that_holds (
    (refusals.SpanRange, is_past_span now span q.formula)
    ∷ (refusals.BindingLimit, nat_lt BINDING_LIMIT (bindings_asked w q))
    ∷ [])

abbrev pub asked_refusal : World → ℕ → ℕ → QueryTree → Option Refusal
asked_refusal w now span q = or_else (type_refusal w q) (size_refusal w now span q)

-- ---- a query of a `must` or a `may`

-- without that of a bound
abbrev pub without_range : Option Refusal → Option Refusal
without_range (Some refusals.TermRange) = None
without_range refusal = refusal

-- the refusal of names, kinds and bounds, where the formula has a NOT or a circle or has none: these come before bounds
abbrev pub refusal_if_barred : Bool → Option Refusal → Option Refusal
refusal_if_barred true type = or_else (without_range type) (Some refusals.WrongKind)
refusal_if_barred false type = type

-- those by its span and by how many bindings there may be
abbrev pub blurred_size_refusal : World → (now span : ℕ) → QueryTree → Option Refusal
blurred_size_refusal w now span q = first_that_holds (
    (refusals.SpanRange, is_blurred_past now span)
    ∷ (refusals.BindingLimit, is_blurred_crowded w q)
    ∷ [])

abbrev pub first_blurred_refusal : World → (now span : ℕ) → QueryTree → Option Refusal
first_blurred_refusal w now span q =
    or_else (refusal_if_barred (has_not_or_circle q.formula) (type_refusal w q)) (blurred_size_refusal w now span q)

-- ---- a query that is to be registered

-- the refusal of an unknown name, which comes before that of a taken one
abbrev pub unknown_among : Option Refusal → Option Refusal
unknown_among (Some refusals.UnknownName) = Some refusals.UnknownName
unknown_among refusal = None

-- the refusals of a query that is to be registered, by its span, how many queries and how many bindings there may be
abbrev pub size_refusal_by : (past full many : Bool) → Option Refusal
size_refusal_by past full many =
    first_that_holds ((refusals.SpanRange, past) ∷ (refusals.StoreFull, full) ∷ (refusals.BindingLimit, many) ∷ [])

abbrev pub register_size_refusal : Known → ℕ → QueryTree → Option Refusal
register_size_refusal k span q = size_refusal_by
    (is_past_span k.now span q.formula)
    (nat_le QUERY_LIMIT (length k.live))
    (passes_bindings k (bindings_asked k.world q))

-- all of them in their order, where the name is a registered query's or not
abbrev pub refusal_in_order : Option Refusal → Bool → Option Refusal → Option Refusal
refusal_in_order type taken size =
    or_else (unknown_among type) (or_else (first_that_holds ((refusals.NameTaken, taken) ∷ [])) (or_else type size))

abbrev pub registered_refusal : Known → List ℕ → ℕ → QueryTree → Option Refusal
registered_refusal k name span q = refusal_in_order (type_refusal k.world q) (is_registered k.live name) (register_size_refusal k span q)
