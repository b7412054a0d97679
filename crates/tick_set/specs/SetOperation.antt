-- What each way to put two sets together keeps.
use Rattle.std.specs.Prelude.{Bool, ◌&&◌, ◌||◌, not}
use Rattle.tick_set.specs.declared.operation.SetOperation.{SetOperation}
use Rattle.tick_set.specs.declared.operation.SetOperation.TheVariants.{Union, Meet, Without}

-- whether a tick is kept, by whether it is in the first set and in the second
abbrev pub kept : SetOperation → Bool → Bool → Bool
kept Union x y = x || y
kept Meet x y = x && y
kept Without x y = x && not y
