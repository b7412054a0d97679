use Rattle.meaning.proofs.LocalityLemmas.{sees_its_variables}
use Rattle.meaning.proofs.laws.a_formula_sees_its_variables_alone.Goals as goal

pub returns : goal.returns
returns c = sees_its_variables
