-- Queries of one variable.
use Rattle.std.specs.Prelude.{◌≡◌, ℕ, List, [], ◌∷◌, length, map}
use Rattle.live_queries.specs.declared.lone.Lone.{Lone}
use Rattle.live_queries.specs.Columns.{Column}

-- a query has one variable, of this class, and so many objects of it
pub record IsLone (classes : List ℕ) (columns : List Column) (lone : Lone) : Type 0 where
  pub class : classes ≡ lone.class ∷ []
  pub count : map (λ c. length c.ids) columns ≡ lone.count ∷ []
