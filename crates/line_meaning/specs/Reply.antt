-- The text of replies.
use Rattle.std.specs.Prelude.{ℕ, length, nat_le, nat_lt, ◌&&◌, List, [], ◌∷◌, ◌++◌, map, codes, decimal, if◌then◌else◌}
use Rattle.std.specs.List.{enumerate_from, list_any, flat_map}
use Rattle.geometry.specs.Region.{Region}
use Rattle.history.specs.Catalog.{Catalog, ClassInfo, name_of, names}
use Rattle.formula.specs.Kinds.{kind_word}
use Rattle.meaning.specs.Answer.{Row}
use Rattle.line_meaning.specs.Registry.{Registration}

abbrev pub line_feed : List ℕ
line_feed = 10 ∷ []

-- the end of an accepted line's reply
abbrev pub ok_line : List ℕ
ok_line = codes "ok" ++ line_feed

-- ` lo..hi`, with the space before it
abbrev pub run_text : ℕ × ℕ → List ℕ
run_text run = codes " " ++ decimal run.0 ++ codes ".." ++ decimal run.1

-- `now` for a row that holds at the present tick, `later` for one that has a later tick, else `past`
abbrev pub time_word : ℕ → List (ℕ × ℕ) → List ℕ
time_word now runs =
    if list_any (λ run. nat_le run.0 now && nat_le now run.1) runs then codes "now"
    else if list_any (λ run. nat_lt now run.1) runs then codes "later"
    else codes "past"

-- a name, with the space before it
abbrev pub name_text : List ℕ → List ℕ
name_text name = codes " " ++ name

-- the line of a row by the names of its objects, as `later a b : 12..30`
abbrev pub row_line : ℕ → List (List ℕ) → List (ℕ × ℕ) → List ℕ
row_line now names runs =
    time_word now runs ++ flat_map name_text names ++ codes " :" ++ flat_map run_text runs ++ line_feed

abbrev pub row_text : Catalog → ℕ → Row → List ℕ
row_text c now row = row_line now (map (name_of c) row.key) row.runs

abbrev pub rows_text : Catalog → ℕ → List Row → List ℕ
rows_text c now rows = flat_map (row_text c now) rows

-- `clock 7`
abbrev pub clock_line : ℕ → List ℕ
clock_line now = codes "clock " ++ decimal now ++ line_feed

-- a word, a name, and a number after it
abbrev pub counted_text : List ℕ → List ℕ → ℕ → List ℕ
counted_text word name number = word ++ name ++ codes " " ++ decimal number

-- `class car 2/100`: how many names it ever had, and how many it may have
abbrev pub class_counts : List ℕ → ℕ → ℕ → List ℕ
class_counts name count capacity = counted_text (codes "class ") name count ++ codes "/" ++ decimal capacity ++ line_feed

-- the line of a class, which stands with its number
abbrev pub class_line : Catalog → ℕ × ClassInfo → List ℕ
class_line c (number, k) = class_counts k.name (length (names c number)) k.capacity

-- `region P 4`: how many points it has
abbrev pub region_counts : List ℕ → ℕ → List ℕ
region_counts name points = counted_text (codes "region ") name points ++ line_feed

abbrev pub region_line : Region → List ℕ
region_line r = region_counts r.name (length r.points)

-- `watch w 0..30`
abbrev pub query_line : List ℕ → List ℕ → ℕ → ℕ → List ℕ
query_line word name entry expiry = word ++ name_text name ++ run_text (entry, expiry) ++ line_feed

abbrev pub registration_line : Registration → List ℕ
registration_line r = query_line (kind_word r.query.kind) r.name r.query.entry r.query.expiry

abbrev pub listing : ℕ → Catalog → List Region → List ℕ
listing now c regions =
    clock_line now ++ flat_map (class_line c) (enumerate_from 0 c.classes) ++ flat_map region_line regions
