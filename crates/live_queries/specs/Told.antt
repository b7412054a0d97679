-- What is told of registered queries: their answers, and what becomes otherwise.
use Rattle.std.specs.Prelude.{ℕ, ◌*◌, Bool, not, nat_le, Option, List, [], drop, length, map, take, if◌then◌else◌, ◌∷◌, ◌++◌}
use Rattle.std.specs.List.{find}
use Rattle.std.specs.Str.{bytes_eq}
use Rattle.tick_set.specs.Runs.{spans_have}
use Rattle.tick_set.specs.declared.spans.Span.{Span}
use Rattle.formula.specs.declared.kind.QueryKind.{QueryKind}
use Rattle.kept_rows.specs.declared.change.Change.{Change}
use Rattle.kept_rows.specs.Changes.{rows_after}
use Rattle.kept_rows.specs.Listing.{line_of, lines_upto, passing_of, target_has}
use Rattle.kept_rows.specs.Moves.{Moved, move_of}
use Rattle.kept_rows.specs.Numbers.{size_of}
use Rattle.meaning.specs.Answer.{Row}
use Rattle.meaning.specs.Registered as registered
use Rattle.live_queries.specs.declared.fresh.Renewal.{Renewal}
use Rattle.live_queries.specs.declared.told.QueryInfo.{QueryInfo}
use Rattle.live_queries.specs.Columns.{column_variables, object_or}
use Rattle.live_queries.specs.Current.{row_at}
use Rattle.live_queries.specs.Kept.{KeptQuery}

-- the name of a query, its kind and its ticks
pub record Info : Type 0 where
  pub name : List ℕ
  pub kind : QueryKind
  pub entry : ℕ
  pub expiry : ℕ

abbrev pub told_info : QueryInfo → Info
told_info i = record { name = i.name; kind = i.kind; entry = i.entry; expiry = i.expiry }

abbrev pub info_of : KeptQuery → Info
info_of k = record { name = k.name; kind = k.kind; entry = k.entry; expiry = k.expiry }

-- how many targets have numbers, and how many numbers follow one another for each
abbrev pub target_count : KeptQuery → ℕ
target_count k = size_of (column_variables (take (length k.query.targets) k.columns))

abbrev pub target_width : KeptQuery → ℕ
target_width k = size_of (column_variables (drop (length k.query.targets) k.columns))

-- the ticks that rows give the target of a number
abbrev pub target_times : KeptQuery → (ℕ → ℕ → Bool) → ℕ → ℕ → Bool
target_times k rows = target_has rows (target_width k)

-- the objects of the target of a number, where a place past the last is that of an object that is added
abbrev pub key_of : ℕ → KeptQuery → ℕ → List ℕ
key_of added k target = map (object_or added k.columns (target * target_width k)) k.query.targets

-- ---- the answer of a query at a tick
abbrev pub listed_lines : KeptQuery → ℕ → List (ℕ × List (ℕ × ℕ))
listed_lines k now =
    lines_upto (line_of (target_times k (row_at k)) (registered.first_tick k.kind k.entry now) k.expiry) (target_count k)

abbrev pub row_of_line : KeptQuery → ℕ × List (ℕ × ℕ) → Row
row_of_line k line = record { key = key_of 0 k line.0; runs = line.1 }

abbrev pub answer_of : KeptQuery → ℕ → List Row
answer_of k now = map (row_of_line k) (listed_lines k now)

abbrev pub query_named : List KeptQuery → List ℕ → Option KeptQuery
query_named live name = find (λ k. bytes_eq k.name name) live

-- ---- what becomes otherwise for some target objects of a query
pub record Told : Type 0 where
  pub query : List ℕ
  pub change : registered.Change

-- the same of many
abbrev pub told_changes : List ℕ → List registered.Change → List Told
told_changes name changes = map (λ c. record { query = name; change = c }) changes

-- what the passing of time from tick `before` to `now` changes
abbrev pub passing_change : KeptQuery → ℕ × Bool → Told
passing_change k p = record {
  query = k.name;
  change = record { key = key_of 0 k p.0; gained = []; lost = []; enters = p.1; leaves = not p.1 };
}

abbrev pub passings_of : ℕ → ℕ → KeptQuery → List Told
passings_of before now k =
    map (passing_change k) (lines_upto (passing_of (target_times k (row_at k)) k.expiry before now) (target_count k))

-- what changes of rows change at tick `now`, where an object may be added
abbrev pub move : ℕ → KeptQuery → Moved → Told
move added k m = record {
  query = k.name;
  change = record { key = key_of added k m.target; gained = m.gained; lost = m.lost; enters = m.enters; leaves = m.leaves };
}

abbrev pub moves_of : ℕ → ℕ → KeptQuery → List (Change (List Span)) → List Told
moves_of added now k changes =
    if nat_le now k.expiry
    then map (move added k)
    (lines_upto
    (move_of (target_times k (row_at k)) (target_times k (rows_after spans_have changes (row_at k)))
    (registered.first_tick k.kind k.entry now) k.expiry now)
    (target_count k))
    else []

-- those of each query, in the order of registration
abbrev pub changes_of : ℕ → ℕ → List KeptQuery → List Renewal → List Told
changes_of added now [] renewals = []
changes_of added now (k ∷ live) [] = []
changes_of added now (k ∷ live) (r ∷ renewals) = moves_of added now k r.changes ++ changes_of added now live renewals
