-- The ledger is the new one.
use Rattle.motion_tests.proofs.distances.motions_that_pass_by.Given as goal

abbrev pub ghosts-passing_motions_are_told : goal.ghosts-passing_motions_are_told
ghosts-passing_motions_are_told g a = record { name = a.blank.name; parts = a.blank.parts }
