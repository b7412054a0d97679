use Rattle.atoms.proofs.NamingLemmas.{atom_asked}
use Rattle.atoms.proofs.naming.named_by.Goals as goal

pub returns-in-Compare : goal.returns-in-Compare
returns-in-Compare c = atom_asked c.args.atom.now
