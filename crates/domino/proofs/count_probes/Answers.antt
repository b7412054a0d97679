use Rattle.domino.proofs.count_probes.Goals as goal

pub returns : goal.returns
returns g c = (c.run.result.counters.reads, c.run.ensures)
