use Rattle.atoms.proofs.ticks.atom_runs.Goals as goal

pub runs_of-requires : goal.runs_of-requires
runs_of-requires g c = c.in-Some.ensures.runs.normal

pub returns-in-Some-clause-runs : goal.returns-in-Some-clause-runs
returns-in-Some-clause-runs g c = c.runs_of.ensures _ c.in-Some.ensures.runs
