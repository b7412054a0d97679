-- The ledger is the new one.
use Rattle.motion_tests.proofs.distances.distances_that_compare.Given as goal

abbrev pub ghosts-comparisons_are_found : goal.ghosts-comparisons_are_found
ghosts-comparisons_are_found g a = record { name = a.blank.name; parts = a.blank.parts }
