-- The timeline of an object: one epoch for each tick at which it was written, so that the recorded past stays.
use Rattle.std.specs.Prelude.{◌≡◌, ℕ, ◌+◌, ◌-◌, ◌<◌, ◌≤◌, nat_lt, nat_le, Bool, false, All, IfSome, Option, None, Some, unwrap_or, option_and_then, List, [], ◌∷◌, ◌++◌, length, take, slice_get, if◌then◌else◌}
use Rattle.std.specs.List.{filter, fold}
use Rattle.std.specs.Option.{option_map_or, option_to_list}
use Rattle.tick_set.specs.declared.spans.TheConstants.{LAST_TICK}
use Rattle.motion.specs.declared.cell.Cell.{Cell}
use Rattle.motion.specs.Cells.{AreCellsAt}

-- From a tick on, up to the next epoch, the object has these cells, or is absent. An `Epoch` of the code is seen as this record.
pub record Epoch : Type 0 where
  pub from : ℕ
  pub cells : Option (List Cell)

-- the cells of an epoch, none where the object is absent
abbrev pub cells_of : Epoch → List Cell
cells_of p = unwrap_or p.cells []

-- the epoch in force at tick t: the last one that begins by then, None before the first
abbrev pub epoch_at : List Epoch → ℕ → Option Epoch
epoch_at epochs t = fold (λ found p. if nat_le p.from t then Some p else found) None epochs

-- the object at tick t: its cells, None where it is absent
abbrev pub state_at : List Epoch → ℕ → Option (List Cell)
state_at epochs t = option_and_then (λ p. p.cells) (epoch_at epochs t)

-- the timeline after an epoch was written: those that begin before it, and then the new one
abbrev pub put : List Epoch → Epoch → List Epoch
put epochs p = filter (λ q. nat_lt q.from p.from) epochs ++ p ∷ []

-- the tick from which on the last epoch is in force
abbrev pub last_begun : List Epoch → ℕ
last_begun epochs = option_map_or (λ p. p.from) (slice_get epochs (length epochs - 1)) 0

-- the ticks at which the epochs begin are at least `low`, and each is past the one before
abbrev pub IsRisingFrom : ℕ → List Epoch → Type 0
IsRisingFrom low [] = Unit {0}
IsRisingFrom low (p ∷ epochs) = (low ≤ p.from) × IsRisingFrom (p.from + 1) epochs

abbrev pub IsRising : List Epoch → Type 0
IsRising epochs = IsRisingFrom 0 epochs

-- no epoch begins after tick t
abbrev pub AreBegunBy : List Epoch → ℕ → Type 0
AreBegunBy epochs t = All (λ p. p.from ≤ t) epochs

-- the first `count` epochs begin by tick t, and the others after it
pub record AreBegunUpTo (epochs : List Epoch) (t count : ℕ) : Type 0 where
  pub within : count ≤ length epochs
  pub begun : (k : ℕ) → k < count → IfSome (slice_get epochs k) (λ p. p.from ≤ t)
  pub later : (k : ℕ) → count ≤ k → IfSome (slice_get epochs k) (λ p. t < p.from)

-- An epoch is written within the ticks, and its cells by the tick at which it begins.
pub record IsEpoch (p : Epoch) : Type 0 where
  pub tick : p.from ≤ LAST_TICK
  pub written : AreCellsAt (cells_of p) p.from

-- the fields of an `Epoch` of the code as the record
abbrev pub epoch_with : ℕ → Bool → List Cell → Epoch
epoch_with from present cells = record { from = from; cells = if present then (Some cells) else None }

-- what holds of those fields: there are cells only where the object is present
pub record AreEpochFields (from : ℕ) (present : Bool) (cells : List Cell) : Type 0 where
  pub epoch : IsEpoch (epoch_with from present cells)
  pub absent : present ≡ false → cells ≡ []

-- the timeline without its last epoch, which gives way to the one that it had replaced, where there is one
abbrev pub restored : List Epoch → Option Epoch → List Epoch
restored epochs replaced = take (length epochs - 1) epochs ++ option_to_list replaced

-- The timeline stands as a call that answered `replaced` left it: the last epoch can be taken back.
pub record StandsAsLeft (epochs : List Epoch) (replaced : Option Epoch) : Type 0 where
  pub written : 0 < length epochs
  pub rising : IsRising (restored epochs replaced)

-- A call made the timeline `new` of `old`, and answered the epoch that it replaced.
pub record TakesBack (old new : List Epoch) (replaced : Option Epoch) : Type 0 where
  pub stands : StandsAsLeft new replaced
  pub before : restored new replaced ≡ old
