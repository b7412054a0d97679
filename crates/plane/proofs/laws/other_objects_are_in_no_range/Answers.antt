use Rattle.plane.proofs.BoxLemmas.{not_in_range}
use Rattle.plane.proofs.laws.other_objects_are_in_no_range.Goals as goal

pub returns : goal.returns
returns c = not_in_range
