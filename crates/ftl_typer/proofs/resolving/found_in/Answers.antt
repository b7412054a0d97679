use Rattle.std.proofs.Common.{◌≡◌, ◌+◌, ◌*◌, [], length, ap, ◌∙◌, arith}
use Rattle.ftl_parser.specs.Tree.{query_view}
use Rattle.ftl_typer.specs.Context.{scope_in}
use Rattle.ftl_typer.specs.Faults.{formula_faults, parts_faults, targets_faults}
use Rattle.ftl_typer.specs.First.{found_after, nothing_found}
use Rattle.ftl_typer.specs.Scope.{scope_of}
use Rattle.ftl_typer.proofs.FoundLemmas.{found_three}
use Rattle.ftl_typer.proofs.SizeLemmas.{few_names, few_terms, lawful_sizes}
use Rattle.ftl_typer.proofs.resolving.found_in.Goals as goal

pub note_formula-requires-clause-names : goal.note_formula-requires-clause-names
note_formula-requires-clause-names c =
    let names = few_names (query_view c.args.query.now) c.requires in
    let few = (lawful_sizes (query_view c.args.query.now) c.requires).few_variables in
    let parts = ap length c.items-parts.ensures in
    omega arith

pub note_formula-requires-clause-terms : goal.note_formula-requires-clause-terms
note_formula-requires-clause-terms c =
    let terms = few_terms (query_view c.args.query.now) c.requires in
    omega arith

pub returns : goal.returns
returns c =
    let q = query_view c.args.query.now in
    let classes = c.args.schema.now in
    let regions = c.args.regions.now in
    let targets = c.items-targets.ensures in
    let parts = c.items-parts.ensures in
    let around : scope_in c.new-scope.result ≡ scope_of classes regions q.from = c.new-scope.ensures ∙ ap (scope_of classes regions) parts in
    let first : c.note_targets.new.found ≡ found_after nothing_found (targets_faults (scope_of classes regions q.from) 0 [] q.targets) =
    c.note_targets.ensures ∙ (λ i. found_after (c.new-found.ensures i) (targets_faults (around i) 0 [] (targets i))) in
    let second : c.note_parts.new.found ≡ found_after c.note_targets.new.found (parts_faults classes (length q.targets) [] q.from) =
    c.note_parts.ensures ∙ (λ i. found_after c.note_targets.new.found (parts_faults classes (length (targets i)) [] (parts i))) in
    let third : c.note_formula.new.found ≡ found_after c.note_parts.new.found (formula_faults (scope_of classes regions q.from) (length q.targets + 2 * length q.from) 0 q.formula) =
    c.note_formula.ensures.found
    ∙ (λ i. found_after c.note_parts.new.found (formula_faults (around i) (length (targets i) + 2 * length (parts i)) 0 q.formula)) in
    found_three nothing_found (targets_faults (scope_of classes regions q.from) 0 [] q.targets) (parts_faults classes (length q.targets) [] q.from)
    (formula_faults (scope_of classes regions q.from) (length q.targets + 2 * length q.from) 0 q.formula) first second third
