use Rattle.courses.proofs.CountLemmas.{counted}
use Rattle.courses.proofs.laws.pieces_are_counted.Goals as goal

pub returns : goal.returns
returns c = counted
