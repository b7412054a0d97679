use Rattle.atoms.proofs.SizeLemmas.{sized_atom, sized_term}
use Rattle.atoms.proofs.laws.resolved_atoms_and_terms_are_sized.Goals as goal

pub returns : goal.returns
returns c = record { atoms = sized_atom; terms = sized_term }
