-- The ledger is the new one.
use Rattle.feeds.proofs.run_program.Given as goal

abbrev pub ghosts-count_reads : goal.ghosts-count_reads
ghosts-count_reads g a = record { name = a.reads.name; parts = a.reads.parts }
