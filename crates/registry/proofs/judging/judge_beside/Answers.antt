use Rattle.std.proofs.Common.{refl, sym, ◌∙◌}
use Rattle.ftl_parser.specs.Tree.{query_view}
use Rattle.line_meaning.specs.FirstFault.{refusal_by_type}
use Rattle.database.specs.Keeping.{clock_of, world_of_database}
use Rattle.registry.proofs.BesideLemmas.{beside_is}
use Rattle.registry.proofs.JudgeLemmas.{fault_refused}
use Rattle.registry.proofs.judging.judge_beside.Goals as goal

pub returns-in-None-clause-fits : goal.returns-in-None-clause-fits
returns-in-None-clause-fits c = c.in-Ok.ensures.fits (world_of_database c.args.database.now) (sym c.schema.ensures) (sym c.regions.ensures)

pub returns-in-Some-fault_refusal-clause-cause : goal.returns-in-Some-fault_refusal-clause-cause
returns-in-Some-fault_refusal-clause-cause c =
    let d = c.args.database.now in
    let r = c.args.request.now in
    let q = query_view r.query.now in
    beside_is (world_of_database d) (clock_of d) c.args.others.now r.span q (refusal_by_type c.in-Err.fault) c.args.others.now.taken
    c.size_refusal-size.result
    (fault_refused d c.schema.result.now c.regions.result.now q c.schema.ensures c.regions.ensures c.in-Err.fault c.in-Err.ensures.cause)
    refl c.size_refusal-size.ensures
    ∙ sym c.fault_refusal.ensures
    ∙ c.in-Some-fault_refusal.is
