-- Why a command on registered queries is refused.
use Rattle.std.specs.Prelude.{ℕ, ◌+◌, Bool, not, ◌||◌, nat_le, nat_lt, Option, None, List, [], ◌∷◌, length, sum_by}
use Rattle.exact.specs.First.{first_that_holds, or_else}
use Rattle.history.specs.Catalog.{most_bindings}
use Rattle.kept_rows.specs.declared.binding.TheConstants.{BINDING_LIMIT}
use Rattle.command_text.specs.declared.refusal.Refusal.{Refusal}
use Rattle.command_text.specs.declared.refusal.Refusal.TheVariants as refusals
use Rattle.command_text.specs.Tree
use Rattle.command_text.specs.Tree.{CommandTree}
use Rattle.formula.specs.declared.limits.TheConstants.{QUERY_LIMIT}
use Rattle.ftl_parser.specs.Tree.{QueryTree}
use Rattle.ftl_typer.specs.declared.found.FaultKind.TheVariants as kinds
use Rattle.line_meaning.specs.declared.limits.TheConstants.{ALL_BINDINGS_LIMIT}
use Rattle.line_meaning.specs.Ask.{bindings_asked, has_fault, is_past_span}
use Rattle.line_meaning.specs.Fault.{fault_among}
use Rattle.line_meaning.specs.Registry.{Known, Registration, is_registered}

-- how many bindings there may come to be of all registered queries
abbrev pub bindings_of : Known → ℕ
bindings_of k = sum_by (λ r. most_bindings k.world.history.catalog.classes r.query.query.classes) k.live

-- a query of so many bindings has no room by itself, or beside so many
abbrev pub passes_beside : ℕ → ℕ → Bool
passes_beside bindings all = nat_lt BINDING_LIMIT bindings || nat_lt ALL_BINDINGS_LIMIT (bindings + all)

-- or beside the registered ones
abbrev pub passes_bindings : Known → ℕ → Bool
passes_bindings k bindings = passes_beside bindings (bindings_of k)

-- the refusals of a query that is to be registered
abbrev pub register_refusal : Known → List ℕ → ℕ → QueryTree → Option Refusal
register_refusal k name span q = first_that_holds (
    (refusals.UnknownName, has_fault kinds.UnknownName k.world q)
    ∷ (refusals.NameTaken, has_fault kinds.NameTaken k.world q || is_registered k.live name)
    ∷ (refusals.WrongKind, has_fault kinds.WrongKind k.world q)
    ∷ (refusals.TermRange, has_fault kinds.TermRange k.world q)
    ∷ (refusals.SpanRange, is_past_span k.now span q.formula)
    ∷ (refusals.StoreFull, nat_le QUERY_LIMIT (length k.live))
    ∷ (refusals.BindingLimit, passes_bindings k (bindings_asked k.world q))
    ∷ [])

abbrev pub unregistered_refusal : List Registration → List ℕ → Option Refusal
unregistered_refusal live name = first_that_holds ((refusals.UnknownName, not (is_registered live name)) ∷ [])

-- the refusals by the registered queries
abbrev pub query_fault : Known → CommandTree → Option Refusal
query_fault k (Tree.Watch name span q) = register_refusal k name span q
query_fault k (Tree.Keep name span q) = register_refusal k name span q
query_fault k (Tree.Show name) = unregistered_refusal k.live name
query_fault k (Tree.Drop name) = unregistered_refusal k.live name
query_fault k _ = None

-- the refusals of a command but for those of its line and of the journal
abbrev pub command_fault : Known → CommandTree → Option Refusal
command_fault k c = or_else (fault_among k.world k.now c) (query_fault k c)
