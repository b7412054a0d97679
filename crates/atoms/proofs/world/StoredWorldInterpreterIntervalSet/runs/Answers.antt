use Rattle.atoms.proofs.world.StoredWorldInterpreterIntervalSet.runs.Goals as goal

pub returns-clause-runs : goal.returns-clause-runs
returns-clause-runs g c = c.in_ok-runs.ensures.runs.of_values
