-- A store stands for the writes that it has accepted.
use Rattle.std.specs.Prelude.{◌≡◌, List, [], ◌∷◌, ◌++◌}
use Rattle.history.specs.Write.{Write}
use Rattle.history.specs.History.{history}
use Rattle.object_store.specs.Contents.{Contents, history_of}

-- Where the old contents stand for a list of writes, the new ones stand for that list with one more.
abbrev pub GrowsBy : Contents → Contents → Write → Type 0
GrowsBy old new write =
    (writes : List Write) → history_of old ≡ history writes → history_of new ≡ history (writes ++ write ∷ [])
