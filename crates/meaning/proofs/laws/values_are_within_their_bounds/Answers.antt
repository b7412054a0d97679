use Rattle.meaning.proofs.BindingLemmas.{assigned_within, none_within}
use Rattle.meaning.proofs.TermLemmas.{term_near}
use Rattle.meaning.proofs.laws.values_are_within_their_bounds.Goals as goal

pub returns : goal.returns
returns c = record { term = term_near; none = none_within; assigned = assigned_within }
