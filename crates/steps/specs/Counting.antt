-- How many steps are taken from one count to a later one.
use Rattle.std.specs.Prelude.{ℕ, ◌+◌, ◌<◌, ◌≡◌, ◌≤◌}

-- from the old count to the new one at most so many steps are taken
pub record StepsAtMost (old new count : ℕ) : Type 0 where
  pub least : old ≤ new
  pub most : new ≤ old + count

-- a blank of this name and with so many parts, of which there is one, is the ledger's
pub record IsBlankOf (blank count ledger shares : ℕ) : Type 0 where
  pub name : blank ≡ ledger
  pub parts : count ≡ shares
  pub some : 0 < count
