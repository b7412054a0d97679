use Rattle.meaning.proofs.ReadsLemmas.{query_reads_within}
use Rattle.meaning.proofs.laws.fewer_objects_take_fewer_looks.Goals as goal

pub returns : goal.returns
returns c = query_reads_within
