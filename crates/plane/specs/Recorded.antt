-- What an index is told of objects: their states, and the tick of the last write to each.
use Rattle.std.specs.Prelude.{ℕ, Option, None, Some, unwrap_or, List, if◌then◌else◌}
use Rattle.std.specs.List.{fold}
use Rattle.std.specs.Str.{bytes_eq}
use Rattle.history.specs.Catalog.{catalog, name_of}
use Rattle.history.specs.History.{History, history}
use Rattle.history.specs.Write.{Write, Class, Insert, Update, Remove}

-- a history, and of each object by its number the tick from which on its last state is in force
pub record Recorded : Type 0 where
  pub history : History
  pub begun : ℕ → ℕ

-- the tick of a write to the object of a name
abbrev pub written_tick : List ℕ → Write → Option ℕ
written_tick o (Class name capacity point attributes) = None
written_tick o (Insert s class name place sets) = if bytes_eq o name then Some s else None
written_tick o (Update s name place sets) = if bytes_eq o name then Some s else None
written_tick o (Remove s name) = if bytes_eq o name then Some s else None

-- the tick of the last write to the object of a name, 0 where there is none
abbrev pub last_written : List Write → List ℕ → ℕ
last_written writes o = fold (λ tick write. unwrap_or (written_tick o write) tick) 0 writes

-- what a list of writes tells
abbrev pub recorded : List Write → Recorded
recorded writes = record { history = history writes; begun = λ id. last_written writes (name_of (catalog writes) id) }
