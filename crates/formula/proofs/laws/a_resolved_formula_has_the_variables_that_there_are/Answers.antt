use Rattle.formula.proofs.ResolvedLemmas.{variables_below}
use Rattle.formula.proofs.laws.a_resolved_formula_has_the_variables_that_there_are.Goals as goal

pub returns : goal.returns
returns c = variables_below
