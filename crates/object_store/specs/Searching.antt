-- A walk over the ids of a class, for the objects that can come into an area.
use Rattle.std.specs.Prelude.{◌≡◌, ℕ, ◌+◌, ◌≤◌, true, false, Option, option_and_then, List, [], ◌∷◌, ◌++◌, slice_get}
use Rattle.motion.specs.declared.cell.Cell.{Cell}
use Rattle.motion.specs.Timeline.{state_at}
use Rattle.object_store.specs.declared.areas.Area.{Area}
use Rattle.object_store.specs.Areas.{is_in_area, is_listed}
use Rattle.object_store.specs.Contents.{StoredObject}

-- the cells of the object of an id at a tick, None where it is absent
abbrev pub state_in : List StoredObject → ℕ → ℕ → Option (List Cell)
state_in objects id t = option_and_then (λ o. state_at o.epochs t) (slice_get objects id)

-- the object of an id is in an area at no tick of lo to hi
abbrev pub IsNowhere : List StoredObject → Area → ℕ → ℕ → ℕ → Type 0
IsNowhere objects area lo hi id =
    (t : ℕ) → lo ≤ t → t ≤ hi → is_in_area area t (state_in objects id t) ≡ false

-- the numbers of a list are at least `low`, and each is past the one before
abbrev pub AreFrom : ℕ → List ℕ → Type 0
AreFrom low [] = Unit {0}
AreFrom low (id ∷ ids) = (low ≤ id) × AreFrom (id + 1) ids

-- Of ascending ids, those before the rest are found or lost.
pub record IsSearched (Lost : ℕ → Type 0) (ids found rest : List ℕ) : Type 0 where
  pub ascending : AreFrom 0 (found ++ rest)
  pub among : (id : ℕ) → is_listed (found ++ rest) id ≡ true → is_listed ids id ≡ true
  pub lost : (id : ℕ) → is_listed ids id ≡ true → is_listed (found ++ rest) id ≡ false → Lost id
