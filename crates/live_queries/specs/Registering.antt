-- What is registered anew.
use Rattle.std.specs.Prelude.{◌≡◌, ℕ, List, [], ◌∷◌, ◌++◌}
use Rattle.history.specs.World.{World}
use Rattle.formula.specs.Tree.{ResolvedQuery}
use Rattle.live_queries.specs.Asked.{FitsWorld}
use Rattle.live_queries.specs.Current.{IsCurrentFor}
use Rattle.live_queries.specs.Kept.{KeptQuery}
use Rattle.live_queries.specs.Told.{Info, info_of}

-- it is the query that was given, and its rows are current at tick `now`
pub record IsRegistered (w : World) (now : ℕ) (given : Info) (q : ResolvedQuery) (k : KeptQuery) : Type 0 where
  pub info : info_of k ≡ given
  pub query : k.query ≡ q
  pub current : IsCurrentFor w now k
  pub fits : FitsWorld w k

-- it stands after those that there were
pub record AddsQuery (w : World) (now : ℕ) (given : Info) (q : ResolvedQuery) (old new : List KeptQuery) : Type 0 where
  pub added : KeptQuery
  pub is : IsRegistered w now given q added
  pub list : new ≡ old ++ added ∷ []
