-- The ledger is the new one.
use Rattle.motion_tests.proofs.circles.motions_that_come_together.Given as goal

abbrev pub ghosts-is_between_posts : goal.ghosts-is_between_posts
ghosts-is_between_posts g a = record { name = a.blank.name; parts = a.blank.parts }
