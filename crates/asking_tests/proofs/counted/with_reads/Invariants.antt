-- The ledger of the probes is the new one.
use Rattle.asking_tests.proofs.counted.with_reads.Given as goal

abbrev pub ghosts-with_probes : goal.ghosts-with_probes
ghosts-with_probes g a = record { name = a.blank.name; parts = a.blank.parts }
