-- The ledger is the new one.
use Rattle.run_tests.proofs.runs.leaves.Given as goal

abbrev pub ghosts-with_reads : goal.ghosts-with_reads
ghosts-with_reads a = record { name = a.reads.name; parts = a.reads.parts }
