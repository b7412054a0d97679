use Rattle.ftl_typer.proofs.FirstLemmas.{first_is_first}
use Rattle.ftl_typer.proofs.laws.the_first_fault_is_told.Goals as goal

pub returns : goal.returns
returns c = first_is_first
