use Rattle.meaning.proofs.AbsenceLemmas.{absent_atom}
use Rattle.meaning.proofs.laws.atoms_of_absent_objects_are_false.Goals as goal

pub returns : goal.returns
returns c = absent_atom
