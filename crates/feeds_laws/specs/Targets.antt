-- The names of target objects, as a row tells them.
use Rattle.std.specs.Prelude.{ℕ, List, [], ◌∷◌, ◌++◌, map}
use Rattle.std.specs.List.{flat_map}
use Rattle.history.specs.Catalog.{Catalog, name_of}
use Rattle.line_meaning.specs.Reply.{name_text}

-- `a b`
abbrev pub target_text : List (List ℕ) → List ℕ
target_text [] = []
target_text (name ∷ names) = name ++ flat_map name_text names

-- of objects by their numbers
abbrev pub target_of : Catalog → List ℕ → List ℕ
target_of c key = target_text (map (name_of c) key)
