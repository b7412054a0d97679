use Rattle.std.proofs.Common.{◌≡◌, ℕ, true, false, sym, ap, ◌∙◌, map}
use Rattle.std.specs.Prelude.{◌-◌, ◌^◌, min, nat_le}
use Rattle.history.specs.Catalog.{most_bindings}
use Rattle.formula.specs.declared.limits.TheConstants.{QUERY_LIMIT}
use Rattle.ftl_parser.specs.Tree.{query_view}
use Rattle.ftl_typer.specs.Resolved.{class_place}
use Rattle.line_meaning.specs.Ask.{is_past_span, query_in}
use Rattle.database.specs.Keeping.{world_of_database}
use Rattle.line_meaning.specs.FirstFault.{size_refusal_by}
use Rattle.line_meaning.specs.QueryFault.{passes_beside}
use Rattle.registry.proofs.BesideLemmas.{few_count}
use Rattle.registry.proofs.JudgeLemmas.{saturated}
use Rattle.registry.proofs.judging.size_refusal.Goals as goal

pub returns-then-is_past_bindings : goal.returns-then-is_past_bindings
returns-then-is_past_bindings c =
    let d = c.args.database.now in
    let q = query_view c.args.query.now in
    let most : ℕ = most_bindings d.store.classes (query_in (world_of_database d) q).classes in
    let all : ℕ = c.args.others.now.bindings in
    let bindings : c.most_bindings-bindings.result ≡ min most (2 ^ 64 - 1)
    = c.most_bindings-bindings.ensures
    ∙ (λ i. min (most_bindings (c.schema.ensures i) (map (λ part. class_place (c.schema.ensures i) part.class) (c.items.ensures i)))
    (2 ^ 64 - 1)) in
    let past : is_past_span d.clock c.args.span q.formula ≡ false
    = (λ i. is_past_span (sym c.clock.ensures i) c.args.span q.formula) ∙ sym c.is_past_span.ensures ∙ c.if-is_past_span.false in
    let full : nat_le QUERY_LIMIT c.args.others.now.count ≡ false = few_count c.args.others.now.count c.if-others-ge-QUERY_LIMIT.false in
    let many : passes_beside most all ≡ true
    = sym (saturated most all) ∙ ap (λ n. passes_beside n all) (sym bindings) ∙ sym c.is_past_bindings.ensures ∙ c.if-is_past_bindings.true in
    sym (λ i. size_refusal_by (past i) (full i) (many i))

pub returns-else-is_past_bindings : goal.returns-else-is_past_bindings
returns-else-is_past_bindings c =
    let d = c.args.database.now in
    let q = query_view c.args.query.now in
    let most : ℕ = most_bindings d.store.classes (query_in (world_of_database d) q).classes in
    let all : ℕ = c.args.others.now.bindings in
    let bindings : c.most_bindings-bindings.result ≡ min most (2 ^ 64 - 1)
    = c.most_bindings-bindings.ensures
    ∙ (λ i. min (most_bindings (c.schema.ensures i) (map (λ part. class_place (c.schema.ensures i) part.class) (c.items.ensures i)))
    (2 ^ 64 - 1)) in
    let past : is_past_span d.clock c.args.span q.formula ≡ false
    = (λ i. is_past_span (sym c.clock.ensures i) c.args.span q.formula) ∙ sym c.is_past_span.ensures ∙ c.if-is_past_span.false in
    let full : nat_le QUERY_LIMIT c.args.others.now.count ≡ false = few_count c.args.others.now.count c.if-others-ge-QUERY_LIMIT.false in
    let many : passes_beside most all ≡ false
    = sym (saturated most all) ∙ ap (λ n. passes_beside n all) (sym bindings) ∙ sym c.is_past_bindings.ensures ∙ c.if-is_past_bindings.false in
    sym (λ i. size_refusal_by (past i) (full i) (many i))
