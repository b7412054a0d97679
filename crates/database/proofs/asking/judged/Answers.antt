use Rattle.std.proofs.Common.{refl, sym, ap, ◌∙◌}
use Rattle.std.specs.Prelude.{unwrap_or}
use Rattle.std.specs.Option.{option_or}
use Rattle.exact.specs.First.{or_else}
use Rattle.ftl_parser.specs.Tree.{query_view}
use Rattle.ftl_typer.specs.Faults.{faults}
use Rattle.ftl_typer.specs.First.{first_fault}
use Rattle.ftl_typer.specs.declared.fault.TypeFault.TheVariants as type_faults
use Rattle.line_meaning.specs.FirstFault.{type_refusal}
use Rattle.database.specs.Keeping.{world_of_database}
use Rattle.database.proofs.AskLemmas.{told_refusal}
use Rattle.database.proofs.asking.judged.Goals as goal

pub returns-in-None-clause-fits : goal.returns-in-None-clause-fits
returns-in-None-clause-fits c = c.in-Ok.ensures.fits (world_of_database c.args.database.now) (sym c.schema.ensures) refl

pub returns-in-Some-or-clause-cause : goal.returns-in-Some-or-clause-cause
returns-in-Some-or-clause-cause c =
    let d = c.args.database.now in
    let q = query_view c.args.query.now in
    let size = c.size_refusal-size.result in
    ap (or_else (type_refusal (world_of_database d) q)) (sym c.size_refusal-size.ensures)
    ∙ told_refusal (first_fault (faults d.store.classes d.regions q)) c.in-Err.fault size
    (c.in-Err.ensures.cause ∙ ap (λ ks. unwrap_or (first_fault (faults ks d.regions q)) type_faults.NoMemory) c.schema.ensures)
    ∙ ap (λ r. option_or r size) (sym c.refusal_by_type.ensures)
    ∙ sym c.or.ensures
    ∙ c.in-Some-or.is
