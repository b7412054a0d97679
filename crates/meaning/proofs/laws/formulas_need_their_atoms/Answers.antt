use Rattle.meaning.proofs.NeedLemmas.{holds_nowhere, needed_pass}
use Rattle.meaning.proofs.laws.formulas_need_their_atoms.Goals as goal

pub returns : goal.returns
returns c = record { needed = holds_nowhere; passing = needed_pass }
