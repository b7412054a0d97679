use Rattle.kept_rows.proofs.NumberLemmas.{places-below, number_of-places_of}
use Rattle.kept_rows.proofs.laws.numbers_have_places.Goals as goal

pub returns-clause-places : goal.returns-clause-places
returns-clause-places c = places-below

pub returns-clause-number : goal.returns-clause-number
returns-clause-number c = number_of-places_of
