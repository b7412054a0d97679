-- What a write makes of each registered query, told by those that it touches alone.
use Rattle.std.specs.Prelude.{◌≡◌, ℕ, zero, suc, ◌<◌, ◌==◌, true, false, Option, None, Some, List, [], ◌∷◌}
use Rattle.std.specs.List.{list_any}
use Rattle.live_queries.specs.declared.fresh.Renewal.{Renewal}
use Rattle.live_queries.specs.declared.fresh.Touched.{Touched}
use Rattle.live_queries.specs.Kept.{KeptQuery}

-- a write touches a query: it has a variable of the object's class, and it runs still or gets an object more
pub record TouchesQuery (class now : ℕ) (k : KeptQuery) (r : Renewal) : Type 0 where
  pub variable : list_any (λ c. c == class) k.query.classes ≡ true
  pub runs : k.expiry < now → r.grows ≡ true

-- a query gets no object and no other row
abbrev pub untouched : Renewal
untouched = record { grows = false; changes = [] }

abbrev pub or_untouched : Option Renewal → Renewal
or_untouched None = untouched
or_untouched (Some renewal) = renewal

-- so many untouched queries, and then others
abbrev pub untouched_before : ℕ → List Renewal → List Renewal
untouched_before zero later = later
untouched_before (suc n) later = untouched ∷ untouched_before n later

-- one for each query: the touched ones, those that are passed before each, and as many as rest after the last
abbrev pub spread : List Touched → ℕ → List Renewal
spread [] rest = untouched_before rest []
spread (t ∷ ts) rest = untouched_before t.passed (t.renewal ∷ spread ts rest)
