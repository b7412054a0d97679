-- The refusals of a query that is to be registered, by what was judged of it.
use Rattle.std.proofs.Common.{◌≡◌, ℕ, ◌+◌, ◌-◌, ◌≤◌, ◌<◌, Bool, true, false, ◌||◌, Option, None, List, [], ◌∷◌, length, refl, sym, ap, ◌∙◌, inl, inr, arith}
use Rattle.std.specs.Prelude.{◌^◌, min, nat_le, nat_lt, option_and_then, unwrap_or, IfOk, IsOk, Result, Ok, Err}
use Rattle.std.proofs.lemmas.Bool.{cases_lt, or_parts}
use Rattle.std.proofs.lemmas.Bool.Decides.{nat_tests}
use Rattle.exact.specs.First.{first_that_holds, or_else}
use Rattle.exact.proofs.Naturals.{above_from_test, at_most_from_not_below}
use Rattle.tick_set.specs.declared.spans.TheConstants.{LAST_TICK, SPAN_LIMIT}
use Rattle.geometry.specs.Region.{Region}
use Rattle.history.specs.Catalog.{ClassInfo}
use Rattle.formula.specs.declared.limits.TheConstants.{QUERY_LIMIT}
use Rattle.formula.specs.Resolved.{IsResolved}
use Rattle.formula.specs.Tree.{ResolvedQuery}
use Rattle.meaning.specs.Fits.{FitsItsClasses}
use Rattle.kept_rows.specs.declared.binding.TheConstants.{BINDING_LIMIT}
use Rattle.command_text.specs.declared.refusal.Refusal.{Refusal}
use Rattle.command_text.specs.declared.refusal.Refusal.TheVariants as refusals
use Rattle.ftl_parser.specs.Sizes.{nesting, objects}
use Rattle.ftl_parser.specs.Tree.{QueryTree, query_view}
use Rattle.ftl_typer.specs.Faults.{faults}
use Rattle.ftl_typer.specs.First.{first_fault}
use Rattle.ftl_typer.specs.declared.fault.TypeFault.{TypeFault}
use Rattle.ftl_typer.specs.declared.fault.TypeFault.TheVariants as type_faults
use Rattle.line_meaning.specs.declared.limits.TheConstants.{ALL_BINDINGS_LIMIT, CIRCLE_NAMES}
use Rattle.line_meaning.specs.Ask.{bindings_asked, is_past_span, query_in, span_limit}
use Rattle.line_meaning.specs.FirstFault.{refusal_by_type, register_size_refusal, type_refusal, unknown_among}
use Rattle.line_meaning.specs.QueryFault.{bindings_of, passes_bindings, register_refusal}
use Rattle.line_meaning.specs.Registry.{Known, is_registered}
use Rattle.line_meaning.proofs.RefusalLemmas.{registered_by_fault}
use Rattle.line_meaning.proofs.ReachedLemmas.{none_of_both}
use Rattle.database.specs.declared.database.Database.{Database}
use Rattle.database.specs.Keeping.{world_of_database}
use Rattle.database.proofs.AskLemmas.{limit_within, type_refusal_is}
use Rattle.live_queries.specs.Kept.{KeptQuery}
use Rattle.registry.specs.declared.registering.Request.{Request}
use Rattle.registry.specs.Judged.{IsRegistrable}
use Rattle.registry.specs.Standing.{known_of}

-- ---- counts

-- a count that stays at the largest number passes the limits as the count itself does
pub saturated : (b s : ℕ) →
    (nat_lt BINDING_LIMIT (min b (2 ^ 64 - 1)) || nat_lt ALL_BINDINGS_LIMIT (min b (2 ^ 64 - 1) + s))
    ≡ (nat_lt BINDING_LIMIT b || nat_lt ALL_BINDINGS_LIMIT (b + s))
saturated b s = elim (cases_lt (2 ^ 64 - 1) b) [
  | inl past ↦ grind (arith, nat_tests, past)
  | inr at_most_from_not_below ↦
      let same : min b (2 ^ 64 - 1) ≡ b = omega (arith, at_most_from_not_below) in
      ap (λ n. nat_lt BINDING_LIMIT n || nat_lt ALL_BINDINGS_LIMIT (n + s)) same
]

-- ---- names, kinds and bounds

-- by the faults that were looked for in the classes and the regions of a database
module _ (d : Database) (classes : List ClassInfo) (regions : List Region) (q : QueryTree)
    (same : classes ≡ d.store.classes) (likewise : regions ≡ d.regions) where
  found : first_fault (faults classes regions q) ≡ first_fault (faults d.store.classes d.regions q)
  found = λ i. first_fault (faults (same i) (likewise i) q)

  pub fault_refused : (fault : TypeFault) → fault ≡ unwrap_or (first_fault (faults classes regions q)) type_faults.NoMemory →
      type_refusal (world_of_database d) q ≡ refusal_by_type fault
  fault_refused fault is =
      type_refusal_is (first_fault (faults d.store.classes d.regions q)) fault (is ∙ ap (λ first. unwrap_or first type_faults.NoMemory) found)

  pub none_refused : first_fault (faults classes regions q) ≡ None → type_refusal (world_of_database d) q ≡ None
  none_refused none = ap (option_and_then refusal_by_type) (sym found ∙ none)

-- ---- what is so of a query that nothing refuses

not_held : (r : Refusal) (holds : Bool) (later : List (Refusal × Bool)) → first_that_holds ((r, holds) ∷ later) ≡ None →
    (holds ≡ false) × (first_that_holds later ≡ None)
not_held r true later none = absurd (cc none)
not_held r false later none = (refl, none)

pub record IsRight (k : Known) (name : List ℕ) (span : ℕ) (q : QueryTree) : Type 0 where
  pub untaken : is_registered k.live name ≡ false
  pub short : span ≤ SPAN_LIMIT
  pub reached : k.now + span ≤ LAST_TICK
  pub few : length k.live < QUERY_LIMIT
  pub size : bindings_asked k.world q ≤ BINDING_LIMIT

pub right_is : (k : Known) (name : List ℕ) (span : ℕ) (q : QueryTree) → register_refusal k name span q ≡ None → IsRight k name span q
right_is k name span q none =
    let type = type_refusal k.world q in
    let many = bindings_asked k.world q in
    let few : List (Refusal × Bool) = (refusals.BindingLimit, passes_bindings k many) ∷ [] in
    let later : List (Refusal × Bool) = (refusals.StoreFull, nat_le QUERY_LIMIT (length k.live)) ∷ few in
    let rest : Option Refusal = or_else type (register_size_refusal k span q) in
    let held : Option Refusal = first_that_holds ((refusals.NameTaken, is_registered k.live name) ∷ []) in
    let named = none_of_both (unknown_among type) (or_else held rest) (sym (registered_by_fault k name span q) ∙ none) in
    let taken = none_of_both held rest named.1 in
    let sized = none_of_both type (register_size_refusal k span q) taken.1 in
    let past = not_held refusals.SpanRange (is_past_span k.now span q.formula) later sized.1 in
    let full = not_held refusals.StoreFull (nat_le QUERY_LIMIT (length k.live)) few past.1 in
    let bound = not_held refusals.BindingLimit (passes_bindings k many) [] full.1 in
    let spans = or_parts (nat_lt (span_limit q.formula) span) (nat_lt LAST_TICK (k.now + span)) past.0 in
    let sums = or_parts (nat_lt BINDING_LIMIT many) (nat_lt ALL_BINDINGS_LIMIT (many + bindings_of k)) bound.0 in
    let short : span ≤ span_limit q.formula = at_most_from_not_below (span_limit q.formula) span spans.0 in
    let most : span_limit q.formula ≤ SPAN_LIMIT = limit_within (nat_lt 0 (nesting q.formula)) (nat_le CIRCLE_NAMES (objects q.formula)) in
    record {
      untaken = (not_held refusals.NameTaken (is_registered k.live name) [] taken.0).0;
      short = omega (arith, short, most);
      reached = at_most_from_not_below LAST_TICK (k.now + span) spans.1;
      few = above_from_test QUERY_LIMIT (length k.live) full.0;
      size = at_most_from_not_below BINDING_LIMIT many sums.0;
    }

-- ---- a query that was judged beside the others

pub judged_by : {V E : Type 0} (d : Database) (live : List KeptQuery) (r : Request) (view : V → ResolvedQuery) (x : Result V E) →
    IfOk x (λ q. view q ≡ query_in (world_of_database d) (query_view r.query.now)) → IfOk x (λ q. IsResolved (view q)) →
    IfOk x (λ q. FitsItsClasses (world_of_database d) (view q)) →
    (IsOk x → register_refusal (known_of d live) r.name.now r.span (query_view r.query.now) ≡ None) → IfOk x (λ q. IsRegistrable d live r (view q))
judged_by d live r view (Ok q) query sound fits right = record { query = query; sound = sound; fits = fits; right = right refl }
judged_by d live r view (Err fault) query sound fits right = tt
