use Rattle.std.proofs.Common.{◌≡◌, None, sym, ap, subst, ◌∙◌}
use Rattle.formula.specs.Resolved.{IsResolved}
use Rattle.formula.specs.Tree.{ResolvedQuery, resolved_view}
use Rattle.meaning.specs.Fits.{FitsItsClasses}
use Rattle.ftl_parser.specs.Tree.{query_view}
use Rattle.ftl_typer.specs.Faults.{faults}
use Rattle.ftl_typer.specs.First.{first_fault, first_found}
use Rattle.ftl_typer.specs.Resolved.{resolved}
use Rattle.ftl_typer.proofs.QueryLemmas.{resolved_fits, resolved_is_right}
use Rattle.ftl_typer.proofs.resolving.resolve.Goals as goal

pub returns-clause-sound : goal.returns-clause-sound
returns-clause-sound c =
    let q = query_view c.args.query.now in
    let none : first_fault (faults c.args.schema.now c.args.regions.now q) ≡ None =
    ap first_found (sym c.found_in.ensures) ∙ sym c.first.ensures ∙ c.in_default.is in
    let built : resolved_view c.in_ok-built.built ≡ resolved c.args.schema.now c.args.regions.now q = c.in_ok-built.ensures in
    subst IsResolved (sym built) (resolved_is_right c.args.schema.now c.args.regions.now q c.requires none)

pub returns-clause-fits : goal.returns-clause-fits
returns-clause-fits c = λ w classes regions.
    let q = query_view c.args.query.now in
    let none : first_fault (faults c.args.schema.now c.args.regions.now q) ≡ None =
    ap first_found (sym c.found_in.ensures) ∙ sym c.first.ensures ∙ c.in_default.is in
    let built : resolved_view c.in_ok-built.built ≡ resolved c.args.schema.now c.args.regions.now q = c.in_ok-built.ensures in
    subst (λ (r : ResolvedQuery). FitsItsClasses w r) (sym built)
    (resolved_fits c.args.schema.now c.args.regions.now q c.requires none w classes regions)
