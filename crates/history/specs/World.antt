-- What a query may ask of.
use Rattle.std.specs.Prelude.{List}
use Rattle.geometry.specs.Region.{Region}
use Rattle.history.specs.Write.{Write}
use Rattle.history.specs.History.{History, history}

pub record World : Type 0 where
  pub history : History
  pub regions : List Region

abbrev pub world_of : List Write → List Region → World
world_of writes regions = record { history = history writes; regions = regions }
