-- For this crate and for the crates above: the set of lemmas by which a chain of steps of this crate is proved.
use Rattle.std.proofs.lemmas.Int.{to_z-of_z}

-- For `grind (arith, steps)`: a number that was passed to a call is the same number.
pub ruleset steps = (to_z-of_z)
