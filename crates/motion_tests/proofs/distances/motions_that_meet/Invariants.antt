-- The ledger is the new one.
use Rattle.motion_tests.proofs.distances.motions_that_meet.Given as goal

abbrev pub ghosts-meetings_are_found : goal.ghosts-meetings_are_found
ghosts-meetings_are_found g a = record { name = a.blank.name; parts = a.blank.parts }
