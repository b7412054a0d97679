-- The ledger is the new one.
use Rattle.feeds_tests.proofs.feeds.outcome.Given as goal

abbrev pub ghosts-with_reads : goal.ghosts-with_reads
ghosts-with_reads a = record { name = a.reads.name; parts = a.reads.parts }
