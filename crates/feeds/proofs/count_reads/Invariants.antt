-- The ledger is the new one.
use Rattle.feeds.proofs.count_reads.Given as goal

abbrev pub ghosts-count_probes : goal.ghosts-count_probes
ghosts-count_probes g a = record { name = a.probes.name; parts = a.probes.parts }
