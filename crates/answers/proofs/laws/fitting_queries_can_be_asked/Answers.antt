use Rattle.formula.specs.Resolved.{no_scope}
use Rattle.formula.specs.Value.{no_values}
use Rattle.meaning.specs.Fits.{no_kinds}
use Rattle.answers.proofs.AskLemmas.{can_ask, few_classes}
use Rattle.answers.proofs.ObjectLemmas.{stored_objects}
use Rattle.std.specs.Prelude.{length}
use Rattle.answers.proofs.laws.fitting_queries_can_be_asked.Goals as goal

pub returns-clause-asked : goal.returns-clause-asked
returns-clause-asked c = λ s regions q domains lo hi of right fits are last short.
    can_ask c.accepted_writes_lead_to_reachable_states.ensures.objects c.values_are_within_their_bounds.ensures.term c.values_are_within_their_bounds.ensures.assigned
    c.resolved_atoms_and_terms_are_sized.ensures.atoms c.resolved_atoms_and_terms_are_sized.ensures.terms
    c.a_resolved_formula_has_the_variables_that_there_are.ensures
    s regions q domains lo hi of are (few_classes q right) last short
    q.formula 0 no_scope no_kinds no_values right.formula fits.formula c.values_are_within_their_bounds.ensures.none

pub returns-clause-over : goal.returns-clause-over
returns-clause-over c = λ q right.
    c.a_resolved_formula_has_the_variables_that_there_are.ensures (length q.classes) 0 no_scope q.formula right.formula

pub returns-clause-objects : goal.returns-clause-objects
returns-clause-objects c = stored_objects
