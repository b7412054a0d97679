use Rattle.meaning.proofs.BindingLemmas.{binding_is_reachable}
use Rattle.meaning.proofs.StateLemmas.{number_is_reachable}
use Rattle.meaning.proofs.laws.accepted_writes_lead_to_reachable_states.Goals as goal

pub returns : goal.returns
returns c = record { objects = number_is_reachable; bindings = binding_is_reachable }
