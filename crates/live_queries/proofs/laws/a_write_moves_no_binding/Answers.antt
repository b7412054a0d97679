use Rattle.live_queries.proofs.CurrentLemmas.{binding_stays}
use Rattle.live_queries.proofs.laws.a_write_moves_no_binding.Goals as goal

pub returns : goal.returns
returns c = binding_stays
