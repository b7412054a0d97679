-- What refuses a query by the first of its faults is what the tables of refusals say, for the crates above.
use Rattle.std.proofs.Common.{◌≡◌, ℕ, Bool, true, false, ◌||◌, Option, None, Some, List, [], ◌∷◌, refl, sym, ap, ◌∙◌}
use Rattle.std.specs.Prelude.{is_some, length, nat_le, nat_lt, option_and_then}
use Rattle.exact.specs.First.{first_that_holds, or_else}
use Rattle.history.specs.World.{World}
use Rattle.formula.specs.declared.limits.TheConstants.{QUERY_LIMIT}
use Rattle.kept_rows.specs.declared.binding.TheConstants.{BINDING_LIMIT}
use Rattle.command_text.specs.declared.refusal.Refusal.{Refusal}
use Rattle.command_text.specs.declared.refusal.Refusal.TheVariants as refusals
use Rattle.ftl_parser.specs.Tree.{QueryTree}
use Rattle.ftl_typer.specs.Fault.{Fault}
use Rattle.ftl_typer.specs.Faults.{faults}
use Rattle.ftl_typer.specs.First.{first_found, found_after, least_place}
use Rattle.ftl_typer.specs.declared.found.FaultKind.TheVariants as kinds
use Rattle.ftl_typer.proofs.FirstLemmas.{least_is_some}
use Rattle.line_meaning.specs.Ask.{ask_refusal, bindings_asked, has_fault, is_past_span}
use Rattle.line_meaning.specs.Blurred.{blurred_refusal, has_not_or_circle, is_blurred_crowded, is_blurred_past}
use Rattle.line_meaning.specs.FirstFault.{asked_refusal, blurred_size_refusal, first_blurred_refusal, refusal_by_type, refusal_if_barred, register_size_refusal, registered_refusal, size_refusal, type_refusal, unknown_among}
use Rattle.line_meaning.specs.QueryFault.{passes_bindings, register_refusal}
use Rattle.line_meaning.specs.Registry.{Known, is_registered}

-- the refusals of names, kinds and bounds, and others after them
abbrev by_kind : (unknown taken wrong past : Bool) → List (Refusal × Bool) → List (Refusal × Bool)
by_kind unknown taken wrong past later =
    (refusals.UnknownName, unknown) ∷ (refusals.NameTaken, taken) ∷ (refusals.WrongKind, wrong) ∷ (refusals.TermRange, past) ∷ later

-- ---- the first fault

found_refusal : (unknown taken wrong past : Option ℕ) →
    option_and_then refusal_by_type (first_found (record { unknown = unknown; taken = taken; kind = wrong; range = past }))
    ≡ first_that_holds (by_kind (is_some unknown) (is_some taken) (is_some wrong) (is_some past) [])
found_refusal (Some place) taken wrong past = refl
found_refusal None (Some place) wrong past = refl
found_refusal None None (Some place) past = refl
found_refusal None None None (Some place) = refl
found_refusal None None None None = refl

type_by_kind : (w : World) (q : QueryTree) →
    type_refusal w q
    ≡ first_that_holds (by_kind (has_fault kinds.UnknownName w q) (has_fault kinds.NameTaken w q) (has_fault kinds.WrongKind w q) (has_fault kinds.TermRange w q) [])
unfolding found_after
type_by_kind w q =
    let fs : List Fault = faults w.history.catalog.classes w.regions q in
    found_refusal (least_place kinds.UnknownName None fs) (least_place kinds.NameTaken None fs)
    (least_place kinds.WrongKind None fs) (least_place kinds.TermRange None fs)
    ∙ (λ i. first_that_holds (by_kind
    (least_is_some kinds.UnknownName None fs i) (least_is_some kinds.NameTaken None fs i)
    (least_is_some kinds.WrongKind None fs i) (least_is_some kinds.TermRange None fs i) []))

-- ---- queries that are asked

in_order : (unknown taken wrong past : Bool) (later : List (Refusal × Bool)) →
    first_that_holds (by_kind unknown taken wrong past later)
    ≡ or_else (first_that_holds (by_kind unknown taken wrong past [])) (first_that_holds later)
in_order true taken wrong past later = refl
in_order false true wrong past later = refl
in_order false false true past later = refl
in_order false false false true later = refl
in_order false false false false later = refl

pub asked_by_fault : (w : World) (now span : ℕ) (q : QueryTree) → ask_refusal w now span q ≡ asked_refusal w now span q
asked_by_fault w now span q =
    in_order (has_fault kinds.UnknownName w q) (has_fault kinds.NameTaken w q) (has_fault kinds.WrongKind w q) (has_fault kinds.TermRange w q)
    ((refusals.SpanRange, is_past_span now span q.formula) ∷ (refusals.BindingLimit, nat_lt BINDING_LIMIT (bindings_asked w q)) ∷ [])
    ∙ ap (λ (first : Option Refusal). or_else first (size_refusal w now span q)) (sym (type_by_kind w q))

-- ---- queries of a `must` or a `may`

-- with a NOT or a circle, or without
barred : (unknown taken wrong past bars : Bool) (later : List (Refusal × Bool)) →
    first_that_holds (by_kind unknown taken (wrong || bars) past later)
    ≡ or_else (refusal_if_barred bars (first_that_holds (by_kind unknown taken wrong past []))) (first_that_holds later)
barred true taken wrong past true later = refl
barred true taken wrong past false later = refl
barred false true wrong past true later = refl
barred false true wrong past false later = refl
barred false false true past true later = refl
barred false false true past false later = refl
barred false false false true true later = refl
barred false false false true false later = refl
barred false false false false true later = refl
barred false false false false false later = refl

pub blurred_by_fault : (w : World) (now span : ℕ) (q : QueryTree) → blurred_refusal w now span q ≡ first_blurred_refusal w now span q
blurred_by_fault w now span q =
    barred (has_fault kinds.UnknownName w q) (has_fault kinds.NameTaken w q) (has_fault kinds.WrongKind w q) (has_fault kinds.TermRange w q)
    (has_not_or_circle q.formula)
    ((refusals.SpanRange, is_blurred_past now span) ∷ (refusals.BindingLimit, is_blurred_crowded w q) ∷ [])
    ∙ ap (λ (first : Option Refusal). or_else (refusal_if_barred (has_not_or_circle q.formula) first) (blurred_size_refusal w now span q)) (sym (type_by_kind w q))

-- ---- queries that are to be registered

-- of a name that is taken
named : (unknown taken wrong past registered : Bool) (later : List (Refusal × Bool)) →
    first_that_holds (by_kind unknown (taken || registered) wrong past later)
    ≡ or_else (unknown_among (first_that_holds (by_kind unknown taken wrong past [])))
    (or_else (first_that_holds ((refusals.NameTaken, registered) ∷ []))
    (or_else (first_that_holds (by_kind unknown taken wrong past [])) (first_that_holds later)))
named true taken wrong past registered later = refl
named false true wrong past true later = refl
named false true wrong past false later = refl
named false false true past true later = refl
named false false true past false later = refl
named false false false true true later = refl
named false false false true false later = refl
named false false false false true later = refl
named false false false false false later = refl

pub registered_by_fault : (k : Known) (name : List ℕ) (span : ℕ) (q : QueryTree) → register_refusal k name span q ≡ registered_refusal k name span q
registered_by_fault k name span q =
    named (has_fault kinds.UnknownName k.world q) (has_fault kinds.NameTaken k.world q) (has_fault kinds.WrongKind k.world q) (has_fault kinds.TermRange k.world q)
    (is_registered k.live name)
    ((refusals.SpanRange, is_past_span k.now span q.formula)
    ∷ (refusals.StoreFull, nat_le QUERY_LIMIT (length k.live))
    ∷ (refusals.BindingLimit, passes_bindings k (bindings_asked k.world q))
    ∷ [])
    ∙ ap
    (λ (type : Option Refusal).
    or_else (unknown_among type)
    (or_else (first_that_holds ((refusals.NameTaken, is_registered k.live name) ∷ [])) (or_else type (register_size_refusal k span q))))
    (sym (type_by_kind k.world q))
