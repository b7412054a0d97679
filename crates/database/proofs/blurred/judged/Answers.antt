use Rattle.std.proofs.Common.{◌≡◌, Option, refl, sym, ap, ◌∙◌}
use Rattle.std.specs.Prelude.{unwrap_or}
use Rattle.exact.specs.First.{or_else}
use Rattle.command_text.specs.declared.refusal.Refusal.{Refusal}
use Rattle.ftl_parser.specs.Tree.{query_view}
use Rattle.ftl_typer.specs.Faults.{faults}
use Rattle.ftl_typer.specs.First.{first_fault}
use Rattle.ftl_typer.specs.declared.fault.TypeFault.TheVariants as type_faults
use Rattle.line_meaning.specs.Blurred.{has_not_or_circle}
use Rattle.line_meaning.specs.FirstFault.{blurred_size_refusal, refusal_by_type, refusal_if_barred, type_refusal}
use Rattle.database.specs.Keeping.{world_of_database}
use Rattle.database.proofs.AskLemmas.{type_refusal_is}
use Rattle.database.proofs.blurred.judged.Goals as goal

pub returns-in-None-clause-fits : goal.returns-in-None-clause-fits
returns-in-None-clause-fits c = c.in-Ok.ensures.fits (world_of_database c.args.database.now) (sym c.schema.ensures) refl

pub returns-in-Some-refusal_of-clause-cause : goal.returns-in-Some-refusal_of-clause-cause
returns-in-Some-refusal_of-clause-cause c =
    let d = c.args.database.now in
    let w = world_of_database d in
    let q = query_view c.args.query.now in
    let first : type_refusal w q ≡ refusal_by_type c.in-Err.fault =
    type_refusal_is (first_fault (faults d.store.classes d.regions q)) c.in-Err.fault
    (c.in-Err.ensures.cause ∙ ap (λ ks. unwrap_or (first_fault (faults ks d.regions q)) type_faults.NoMemory) c.schema.ensures) in
    ap (λ (type : Option Refusal). or_else (refusal_if_barred (has_not_or_circle q.formula) type) (blurred_size_refusal w d.clock c.args.span q))
    (first ∙ sym c.refusal_by_type.ensures)
    ∙ sym c.refusal_of-in-Err.ensures
    ∙ c.in-Some-refusal_of.is
