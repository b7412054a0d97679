use Rattle.std.proofs.Common.{sym, ◌∙◌}
use Rattle.formula.proofs.CallerLemmas.{variables_same}
use Rattle.atoms.proofs.variables.variables_of_atom.Goals as goal

pub returns-in-Some : goal.returns-in-Some
returns-in-Some c = c.listed_alone.ensures ∙ variables_same _ _ (λ u few. sym (c.in-Some.ensures u))

pub returns-in-None : goal.returns-in-None
returns-in-None c = c.list.ensures ∙ variables_same _ _ c.free_in_atom.ensures
