-- What is told of a query where more holds of its formula; and a query that a `must` or a `may` is answered has no NOT.
use Rattle.std.proofs.Common.{◌≡◌, ℕ, Bool, true, false, ◌&&◌, ◌||◌, None, List, [], ◌∷◌, refl, ◌∙◌}
use Rattle.std.specs.Prelude.{slice_index}
use Rattle.std.specs.Str.{bytes_eq}
use Rattle.std.proofs.lemmas.Bool.{and_from, and_parts, or_parts}
use Rattle.exact.specs.First.{first_that_holds}
use Rattle.exact.proofs.Items.{any_weaker}
use Rattle.history.specs.World.{World}
use Rattle.formula_shape.specs.Shape as shapes
use Rattle.formula_shape.specs.Sizes.{has_not}
use Rattle.formula.specs.Tree.{ResolvedQuery}
use Rattle.formula.specs.Value.{no_values}
use Rattle.meaning.specs.Binding.{are_present, bindings, holds_by, target_where, tuple_of}
use Rattle.meaning.specs.Satisfaction.{Interpretation, sat}
use Rattle.command_text.specs.declared.refusal.Refusal.TheVariants as refusals
use Rattle.ftl_parser.specs.Sizes.{has_circle}
use Rattle.ftl_parser.specs.Tree.{QueryTree, Tree}
use Rattle.ftl_typer.specs.Resolved.{resolved_formula}
use Rattle.ftl_typer.specs.Scope.{NameScope, scope_of, with_assigned}
use Rattle.ftl_typer.specs.declared.found.FaultKind.TheVariants as kinds
use Rattle.line_meaning.specs.Ask.{has_fault, query_in}
use Rattle.line_meaning.specs.Blurred.{blurred_refusal, has_not_or_circle, is_blurred_crowded, is_blurred_past}

-- ---- more bindings pass

pub told_more : (j k : (ℕ → ℕ) → Interpretation) (w : World) (q : ResolvedQuery) (e : ℕ) (key : List ℕ) (t : ℕ)
    → ((b : ℕ → ℕ) → sat (j b) q.formula no_values e t ≡ true → sat (k b) q.formula no_values e t ≡ true)
    → target_where w q (holds_by j w q e) key t ≡ true → target_where w q (holds_by k w q e) key t ≡ true
told_more j k w q e key t more =
    any_weaker
    (λ b. bytes_eq (tuple_of q b) key && holds_by j w q e (slice_index b) t)
    (λ b. bytes_eq (tuple_of q b) key && holds_by k w q e (slice_index b) t)
    (λ b passes.
    let own = and_parts (bytes_eq (tuple_of q b) key) (holds_by j w q e (slice_index b) t) passes in
    let both = and_parts (are_present w q (slice_index b) t) (sat (j (slice_index b)) q.formula no_values e t) own.1 in
    and_from (bytes_eq (tuple_of q b) key) (holds_by k w q e (slice_index b) t) own.0
    (and_from (are_present w q (slice_index b) t) (sat (k (slice_index b)) q.formula no_values e t) both.0 (more (slice_index b) both.1)))
    (bindings w q)

-- ---- no NOT

same_not : (s : NameScope) (f : Tree) → has_not (resolved_formula s f) ≡ has_not f
same_not s (shapes.Truth b) = refl
same_not s (shapes.Atom a) = refl
same_not s (shapes.Not f) = refl
same_not s (shapes.And f g) = λ i. same_not s f i || same_not s g i
same_not s (shapes.Or f g) = λ i. same_not s f i || same_not s g i
same_not s (shapes.Next f) = same_not s f
same_not s (shapes.Eventually f) = same_not s f
same_not s (shapes.Always f) = same_not s f
same_not s (shapes.Bounded form ticks f) = same_not s f
same_not s (shapes.Until form ticks f g) = λ i. same_not s f i || same_not s g i
same_not s (shapes.Assign (name, t) f) = same_not (with_assigned s name t) f

not_barred : (unknown taken wrong bars range past many : Bool) →
    first_that_holds (
    (refusals.UnknownName, unknown)
    ∷ (refusals.NameTaken, taken)
    ∷ (refusals.WrongKind, wrong || bars)
    ∷ (refusals.TermRange, range)
    ∷ (refusals.SpanRange, past)
    ∷ (refusals.BindingLimit, many)
    ∷ [])
    ≡ None → bars ≡ false
not_barred true taken wrong bars range past many is = absurd (cc is)
not_barred false true wrong bars range past many is = absurd (cc is)
not_barred false false true bars range past many is = absurd (cc is)
not_barred false false false true range past many is = absurd (cc is)
not_barred false false false false range past many is = refl

pub without_not : (w : World) (now span : ℕ) (q : QueryTree) → blurred_refusal w now span q ≡ None → has_not (query_in w q).formula ≡ false
without_not w now span q accepted =
    let free : has_not_or_circle q.formula ≡ false =
    not_barred (has_fault kinds.UnknownName w q) (has_fault kinds.NameTaken w q) (has_fault kinds.WrongKind w q) (has_not_or_circle q.formula)
    (has_fault kinds.TermRange w q) (is_blurred_past now span) (is_blurred_crowded w q) accepted in
    same_not (scope_of w.history.catalog.classes w.regions q.from) q.formula
    ∙ (or_parts (has_not q.formula) (has_circle q.formula) free).0
