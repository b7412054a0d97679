use Rattle.ftl_typer.proofs.QueryLemmas.{query_right}
use Rattle.ftl_typer.proofs.laws.queries_without_fault_are_right.Goals as goal

pub returns : goal.returns
returns c = query_right
