-- The ledger of the looks at timelines is the new one.
use Rattle.asking_tests.proofs.counted.with_counters.Given as goal

abbrev pub ghosts-with_reads : goal.ghosts-with_reads
ghosts-with_reads g a = record { name = a.blank.name; parts = a.blank.parts }
