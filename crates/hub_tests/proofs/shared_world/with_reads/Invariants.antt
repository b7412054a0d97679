-- The ledger is the new one.
use Rattle.hub_tests.proofs.shared_world.with_reads.Given as goal

abbrev pub ghosts-with_probes : goal.ghosts-with_probes
ghosts-with_probes g a = record { name = a.probes.name; parts = a.probes.parts }
