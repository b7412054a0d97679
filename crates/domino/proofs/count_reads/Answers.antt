use Rattle.domino.proofs.count_reads.Goals as goal

pub returns : goal.returns
returns g c = rw c.new-reads.ensures at c.count_probes.ensures
