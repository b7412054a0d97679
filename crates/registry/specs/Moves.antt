-- The lines of what changes for registered queries.
use Rattle.std.specs.Prelude.{ℕ, Bool, nat_lt, List}
use Rattle.std.specs.List.{flat_map, list_all}
use Rattle.history.specs.Catalog.{Catalog}
use Rattle.line_meaning.specs.Changes.{change_text}
use Rattle.live_queries.specs.Told.{Told}

abbrev pub told_change_text : Catalog → Told → List ℕ
told_change_text c told = change_text c told.query told.change

abbrev pub told_moves_text : Catalog → List Told → List ℕ
told_moves_text c moves = flat_map (told_change_text c) moves

-- the objects of a change are some of so many
abbrev pub names_objects : ℕ → Told → Bool
names_objects count told = list_all (λ id. nat_lt id count) told.change.key
