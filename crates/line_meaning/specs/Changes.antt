-- The lines of what a write or the passing of time changes for the registered queries.
use Rattle.std.specs.Prelude.{ℕ, Bool, List, [], ◌++◌, map, codes, if◌then◌else◌}
use Rattle.std.specs.List.{flat_map}
use Rattle.history.specs.Catalog.{Catalog, name_of}
use Rattle.history.specs.World.{World}
use Rattle.meaning.specs.Answer.{has_ticks}
use Rattle.meaning.specs.Registered.{Change, changes_of_tick, changes_of_write, registered_answer}
use Rattle.line_meaning.specs.Registry.{Registration}
use Rattle.line_meaning.specs.Reply.{line_feed, name_text, rows_text, run_text}

-- the word, the query and the target objects, as `gain q a b`
abbrev pub change_head : List ℕ → List ℕ → List (List ℕ) → List ℕ
change_head word query names = word ++ name_text query ++ flat_map name_text names

-- `gain q a : 1..4`, where there are ticks
abbrev pub ticks_line : List ℕ → List (ℕ × ℕ) → List ℕ
ticks_line head runs = if has_ticks runs then head ++ codes " :" ++ flat_map run_text runs ++ line_feed else []

-- `enter q a`, where it happens
abbrev pub turn_line : List ℕ → Bool → List ℕ
turn_line head happens = if happens then head ++ line_feed else []

-- by the names of the objects: the ticks that they gain, those that they lose, and whether they enter or leave
abbrev pub change_lines : List ℕ → List (List ℕ) → List (ℕ × ℕ) → List (ℕ × ℕ) → Bool → Bool → List ℕ
change_lines query names gained lost enters leaves =
    ticks_line (change_head (codes "gain") query names) gained
    ++ ticks_line (change_head (codes "lose") query names) lost
    ++ turn_line (change_head (codes "enter") query names) enters
    ++ turn_line (change_head (codes "leave") query names) leaves

abbrev pub change_text : Catalog → List ℕ → Change → List ℕ
change_text c query change =
    change_lines query (map (name_of c) change.key) change.gained change.lost change.enters change.leaves

-- of a write at a tick, query by query
abbrev pub write_lines : World → World → ℕ → List Registration → List ℕ
write_lines old new now live =
    flat_map (λ r. flat_map (change_text new.history.catalog r.name) (changes_of_write old new r.query now)) live

-- of the passing of time from one tick to another
abbrev pub tick_lines : World → ℕ → ℕ → List Registration → List ℕ
tick_lines w before now live =
    flat_map (λ r. flat_map (change_text w.history.catalog r.name) (changes_of_tick w r.query before now)) live

-- the answer of a registered query at a tick
abbrev pub answer_text : World → ℕ → Registration → List ℕ
answer_text w now r = rows_text w.history.catalog now (registered_answer w r.query now)
