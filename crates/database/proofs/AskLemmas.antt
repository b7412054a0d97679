-- For this crate and for the crates above: the refusals of a query, by what was judged of it.
use Rattle.std.proofs.Common.{◌≡◌, ℕ, zero, suc, ◌+◌, ◌-◌, ◌*◌, ◌≤◌, Bool, true, false, Option, None, Some, List, [], ◌∷◌, map, refl, sym, ap, subst, ◌∙◌, inl, inr, arith, if◌then◌else◌}
use Rattle.std.specs.Prelude.{◌^◌, length, min, nat_le, nat_lt, option_and_then, unwrap_or, Result, Ok, Err}
use Rattle.std.specs.Option.{option_or}
use Rattle.std.proofs.Math.Nat.{le-mul_of_pos_right, mul-one, mul-zero}
use Rattle.std.proofs.lemmas.Bool.{cases_lt, or_parts}
use Rattle.std.proofs.lemmas.Bool.Decides.{nat_tests}
use Rattle.exact.specs.First.{first_that_holds, or_else}
use Rattle.tick_set.specs.declared.spans.TheConstants.{LAST_TICK, SPAN_LIMIT}
use Rattle.command_text.specs.Tree
use Rattle.command_text.specs.declared.fault.CommandFault.{CommandFault}
use Rattle.command_text.specs.declared.refusal.Refusal.{Refusal}
use Rattle.command_text.specs.declared.refusal.Refusal.TheVariants as refusals
use Rattle.history.specs.World.{World}
use Rattle.ftl_parser.specs.Sizes.{nesting, objects}
use Rattle.ftl_parser.specs.Tree.{QueryTree}
use Rattle.ftl_typer.specs.declared.fault.TypeFault.{TypeFault}
use Rattle.ftl_typer.specs.declared.fault.TypeFault.TheVariants as type_faults
use Rattle.kept_rows.specs.declared.binding.TheConstants.{BINDING_LIMIT}
use Rattle.history.specs.Catalog.{product_of}
use Rattle.line_meaning.specs.Ask.{ask_refusal, bindings_asked, is_past_span, span_limit}
use Rattle.line_meaning.specs.FirstFault.{asked_refusal, refusal_by_type, type_refusal}
use Rattle.line_meaning.proofs.RefusalLemmas.{asked_by_fault}
use Rattle.line_meaning.specs.declared.limits.TheConstants.{ASSIGNED_SPAN_LIMIT, CIRCLE_NAMES, CIRCLE_SPAN_LIMIT}
use Rattle.database.specs.declared.database.Database.{Database}
use Rattle.database.specs.Keeping.{clock_of, world_of_database}
use Rattle.database.specs.Telling.{Asks, IsStoppedBy, Tells}

-- ---- counts that stay at the largest number

pub some_saturated : (n : ℕ) → nat_lt 0 (min n (2 ^ 64 - 1)) ≡ nat_lt 0 n
some_saturated n = grind (arith, nat_tests)

pub many_saturated : (n : ℕ) → nat_lt BINDING_LIMIT (min n (2 ^ 64 - 1)) ≡ nat_lt BINDING_LIMIT n
many_saturated n = grind (arith, nat_tests)

stays : (n most : ℕ) → most ≤ n → min n most ≡ most
stays n most past = omega (arith, past)

-- a product of a count that stays, and of the count itself
pub product_saturated : (a b most : ℕ) → min (min a most * b) most ≡ min (a * b) most
product_saturated a zero most = ap (λ n. min n most) (mul-zero (min a most) ∙ sym (mul-zero a))
product_saturated a (suc b) most =
    elim (cases_lt a most) [
      | inl within ↦
          let same : min a most ≡ a = omega (arith, within) in
          ap (λ n. min (n * suc b) most) same
      | inr past ↦
          let same : min a most ≡ most = omega (arith, past) in
          let wide : most ≤ most * suc b = le-mul_of_pos_right most (omega arith) in
          let wider : a ≤ a * suc b = le-mul_of_pos_right a (omega arith) in
          ap (λ n. min (n * suc b) most) same
          ∙ stays (most * suc b) most wide
          ∙ sym (stays (a * suc b) most (omega (arith, past, wider)))
    ]

-- no factor is left
pub product_done : {X : Type 0} (place : X → ℕ) (own : ℕ → ℕ) (xs : List X) (n most whole : ℕ) → length xs ≡ 0 → n ≤ most →
    min (n * product_of (map own (map place xs))) most ≡ whole → n ≡ whole
product_done place own [] n most whole none within is =
    let same : n ≡ min n most = omega (arith, within) in
    same ∙ ap (λ m. min m most) (sym (mul-one n)) ∙ is
product_done place own (x ∷ xs) n most whole none within is = absurd (omega (arith, none))

-- ---- names, kinds and bounds

-- a fault of them, or want of memory where there is none
pub type_refusal_is : (first : Option TypeFault) (fault : TypeFault) → fault ≡ unwrap_or first type_faults.NoMemory →
    option_and_then refusal_by_type first ≡ refusal_by_type fault
type_refusal_is None fault is = sym (ap refusal_by_type is)
type_refusal_is (Some f) fault is = sym (ap refusal_by_type is)

same_or : (first later : Option Refusal) → or_else first later ≡ option_or first later
same_or None later = refl
same_or (Some r) later = refl

-- what is told of a fault, and of the size where it tells nothing
pub told_refusal : (first : Option TypeFault) (fault : TypeFault) (size : Option Refusal) → fault ≡ unwrap_or first type_faults.NoMemory →
    or_else (option_and_then refusal_by_type first) size ≡ option_or (refusal_by_type fault) size
told_refusal first fault size is =
    ap (λ r. or_else r size) (type_refusal_is first fault is) ∙ same_or (refusal_by_type fault) size

-- ---- spans

not_past : (type : Option Refusal) (past many : Bool) →
    or_else type (first_that_holds ((refusals.SpanRange, past) ∷ (refusals.BindingLimit, many) ∷ [])) ≡ None → past ≡ false
not_past (Some r) past many is = absurd (cc is)
not_past None true many is = absurd (cc is)
not_past None false many is = refl

-- the least that applies is no longer than any
pub limit_within : (assigned circle : Bool) → (if assigned then ASSIGNED_SPAN_LIMIT else if circle then CIRCLE_SPAN_LIMIT else SPAN_LIMIT) ≤ SPAN_LIMIT
limit_within true circle = omega arith
limit_within false true = omega arith
limit_within false false = omega arith

-- what an accepted span is
pub accepted_span : (w : World) (now span : ℕ) (q : QueryTree) → ask_refusal w now span q ≡ None →
    (span ≤ SPAN_LIMIT) × (now + span ≤ LAST_TICK)
accepted_span w now span q accepted =
    let inside : is_past_span now span q.formula ≡ false =
    not_past (type_refusal w q) (is_past_span now span q.formula) (nat_lt BINDING_LIMIT (bindings_asked w q))
    (sym (asked_by_fault w now span q) ∙ accepted) in
    let parts = or_parts (nat_lt (span_limit q.formula) span) (nat_lt LAST_TICK (now + span)) inside in
    let short : span ≤ span_limit q.formula = grind (arith, nat_tests, parts.0) in
    let within : span_limit q.formula ≤ SPAN_LIMIT = limit_within (nat_lt 0 (nesting q.formula)) (nat_le CIRCLE_NAMES (objects q.formula)) in
    (omega (arith, short, within), grind (arith, nat_tests, parts.1))

-- ---- by the first fault of a query

pub right_as_asked : (w : World) (now span : ℕ) (q : QueryTree) → asked_refusal w now span q ≡ None → ask_refusal w now span q ≡ None
right_as_asked w now span q right = asked_by_fault w now span q ∙ right

pub stopped_as_asked : (w : World) (now span : ℕ) (q : QueryTree) (fault : CommandFault) →
    IsStoppedBy (asked_refusal w now span q) fault → IsStoppedBy (ask_refusal w now span q) fault
stopped_as_asked w now span q fault = subst (λ (r : Option Refusal). IsStoppedBy r fault) (sym (asked_by_fault w now span q))

-- what is asked is what is told of an `ask`
pub asks_tell : (d : Database) (span : ℕ) (q : QueryTree) (before after : List ℕ) (result : Result (Unit {0}) CommandFault) →
    Asks (world_of_database d) (clock_of d) span q before after result → Tells d (Tree.Ask span q) before after result
asks_tell d span q before after (Ok u) asked = asked
asks_tell d span q before after (Err fault) asked = asked
