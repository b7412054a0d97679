-- The ledger is the new one.
use Rattle.asking_tests.proofs.asked.answers.Given as goal

abbrev pub ghosts-with_reads : goal.ghosts-with_reads
ghosts-with_reads g a = record { name = a.blank.name; parts = a.blank.parts }
