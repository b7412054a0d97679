-- How many looks at the timelines of objects a write may take, by the ticks that it judges.
use Rattle.std.specs.Prelude.{ℕ, ◌+◌, ◌-◌, max, nat_le, List, sum_by, if◌then◌else◌}
use Rattle.history.specs.Catalog.{Catalog}
use Rattle.meaning.specs.Reads.{change_reads}
use Rattle.live_queries.specs.Kept.{KeptQuery}
use Rattle.live_queries.specs.Renewed.{judged_from}

-- for one query, from the first tick of which the write may change what is told, up to its expiry
abbrev pub judged_reads : Catalog → ℕ → ℕ → KeptQuery → ℕ
judged_reads c now class k =
    if nat_le now k.expiry then change_reads c k.query (k.expiry + 1 - max k.entry (judged_from k now)) class else 0

-- and for all of them
abbrev pub all_judged_reads : Catalog → List KeptQuery → ℕ → ℕ → ℕ
all_judged_reads c live now class = sum_by (judged_reads c now class) live
