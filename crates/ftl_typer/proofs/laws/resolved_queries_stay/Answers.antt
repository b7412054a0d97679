use Rattle.ftl_typer.proofs.StableLemmas.{query_stays}
use Rattle.ftl_typer.proofs.laws.resolved_queries_stay.Goals as goal

pub returns : goal.returns
returns c = query_stays
