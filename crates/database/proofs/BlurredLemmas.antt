-- The refusals of a query where positions may be off, by what was judged of it.
use Rattle.std.proofs.Common.{◌≡◌, ℕ, ◌+◌, ◌-◌, ◌≤◌, Bool, true, false, Option, None, Some, [], ◌∷◌, refl, sym, subst, ◌∙◌, arith}
use Rattle.std.specs.Prelude.{◌^◌, min, nat_lt}
use Rattle.std.proofs.lemmas.Bool.{or_parts}
use Rattle.std.proofs.lemmas.Bool.Decides.{nat_tests}
use Rattle.exact.specs.First.{first_that_holds, or_else}
use Rattle.tick_set.specs.declared.spans.TheConstants.{LAST_TICK, SPAN_LIMIT}
use Rattle.history.specs.World.{World}
use Rattle.command_text.specs.declared.fault.CommandFault.{CommandFault}
use Rattle.command_text.specs.declared.refusal.Refusal.{Refusal}
use Rattle.command_text.specs.declared.refusal.Refusal.TheVariants as refusals
use Rattle.ftl_parser.specs.Tree.{QueryTree}
use Rattle.line_meaning.specs.Blurred.{blurred_refusal, has_not_or_circle, is_blurred_crowded, is_blurred_past}
use Rattle.line_meaning.specs.FirstFault.{first_blurred_refusal, refusal_if_barred, type_refusal}
use Rattle.line_meaning.specs.declared.limits.TheConstants.{BLURRED_BINDING_LIMIT, BLURRED_SPAN_LIMIT}
use Rattle.line_meaning.proofs.RefusalLemmas.{blurred_by_fault}
use Rattle.database.specs.Telling.{IsStoppedBy}

-- a count that stays at the largest number
pub few_saturated : (n : ℕ) → nat_lt BLURRED_BINDING_LIMIT (min n (2 ^ 64 - 1)) ≡ nat_lt BLURRED_BINDING_LIMIT n
few_saturated n = grind (arith, nat_tests)

-- ---- spans

not_past : (first : Option Refusal) (past many : Bool) →
    or_else first (first_that_holds ((refusals.SpanRange, past) ∷ (refusals.BindingLimit, many) ∷ [])) ≡ None → past ≡ false
not_past (Some r) past many is = absurd (cc is)
not_past None true many is = absurd (cc is)
not_past None false many is = refl

-- what an accepted span is
pub accepted_span : (w : World) (now span : ℕ) (q : QueryTree) → first_blurred_refusal w now span q ≡ None →
    (span ≤ SPAN_LIMIT) × (now + span ≤ LAST_TICK)
accepted_span w now span q accepted =
    let inside : is_blurred_past now span ≡ false =
    not_past (refusal_if_barred (has_not_or_circle q.formula) (type_refusal w q)) (is_blurred_past now span) (is_blurred_crowded w q) accepted in
    let parts = or_parts (nat_lt BLURRED_SPAN_LIMIT span) (nat_lt LAST_TICK (now + span)) inside in
    (grind (arith, nat_tests, parts.0), grind (arith, nat_tests, parts.1))

-- ---- by the first fault of a query

pub right_as_told : (w : World) (now span : ℕ) (q : QueryTree) → first_blurred_refusal w now span q ≡ None → blurred_refusal w now span q ≡ None
right_as_told w now span q right = blurred_by_fault w now span q ∙ right

pub stopped_as_told : (w : World) (now span : ℕ) (q : QueryTree) (fault : CommandFault) →
    IsStoppedBy (first_blurred_refusal w now span q) fault → IsStoppedBy (blurred_refusal w now span q) fault
stopped_as_told w now span q fault = subst (λ (r : Option Refusal). IsStoppedBy r fault) (sym (blurred_by_fault w now span q))
