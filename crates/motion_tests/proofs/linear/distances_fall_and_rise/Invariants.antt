-- The ledger is the new one.
use Rattle.motion_tests.proofs.linear.distances_fall_and_rise.Given as goal

abbrev pub ghosts-shapes_are_right : goal.ghosts-shapes_are_right
ghosts-shapes_are_right g a = record { name = a.blank.name; parts = a.blank.parts }
