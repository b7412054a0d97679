-- The ledger is the new one.
use Rattle.value_tests.proofs.counters.counting_takes_no_bytes.Given as goal

abbrev pub ghosts-bytes_after_a_step : goal.ghosts-bytes_after_a_step
ghosts-bytes_after_a_step g a = record { name = a.blank.name; parts = a.blank.parts }
