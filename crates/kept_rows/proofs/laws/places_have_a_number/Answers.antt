use Rattle.kept_rows.proofs.NumberLemmas.{number_of-below, places_of-number_of}
use Rattle.kept_rows.proofs.laws.places_have_a_number.Goals as goal

pub returns-clause-below : goal.returns-clause-below
returns-clause-below c = number_of-below

pub returns-clause-places : goal.returns-clause-places
returns-clause-places c = places_of-number_of
