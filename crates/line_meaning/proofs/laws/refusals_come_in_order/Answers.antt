use Rattle.line_meaning.proofs.RefusingLemmas.{each_in_its_place, first_refuses}
use Rattle.line_meaning.proofs.laws.refusals_come_in_order.Goals as goal

pub returns-clause-first : goal.returns-clause-first
returns-clause-first c = first_refuses

pub returns-clause-places : goal.returns-clause-places
returns-clause-places c = each_in_its_place
