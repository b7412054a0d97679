-- The pieces of a timeline: stretches of ticks in which each dynamic attribute moves by one slope.
use Rattle.std.specs.Prelude.{◌≡◌, ℕ, pos, ◌+◌, ◌-◌, ◌+ℤ◌, ◌*ℤ◌, ◌<◌, ◌≤◌, max, ◌==◌, Bool, true, false, ◌||◌, Some, List, [], ◌∷◌, slice_get, length}
use Rattle.std.specs.List.{list_any}
use Rattle.std.specs.Option.{option_map_or}
use Rattle.tick_set.specs.Ticks.{within}
use Rattle.motion.specs.Dynamic.{Dynamic, value_at, slope_at}
use Rattle.motion.specs.Cells.{cell_turns}
use Rattle.motion.specs.declared.asked.Asked.{Asked}
use Rattle.motion.specs.declared.asked.Asked.TheVariants as which
use Rattle.motion.specs.declared.cell.Cell.{Cell}
use Rattle.motion.specs.declared.cell.Cell.TheVariants as cells
use Rattle.motion.specs.declared.pieces.Piece.{Piece}
use Rattle.motion.specs.Timeline.{Epoch, cells_of, epoch_at}

-- whether the attribute of an index is asked, counted from 0
abbrev pub is_asked : Asked → ℕ → Bool
is_asked which.All a = true
is_asked (which.These indexes) a = list_any (λ index. index == a) indexes.now

-- whether a leg of an asked attribute ends at tick t
abbrev pub legs_end : Asked → ℕ → List Cell → Bool
legs_end which.All t cells = list_any (cell_turns t) cells
legs_end (which.These indexes) t cells = list_any (λ index. option_map_or (cell_turns t) (slice_get cells index) false) indexes.now

-- whether a piece of the asked attributes begins at tick t: the epoch in force begins there, or a leg of one of these ends
abbrev pub changes_for : Asked → ℕ → Epoch → Bool
changes_for asked t p = p.from == t || legs_end asked t (cells_of p)

abbrev pub is_cut_for : Asked → List Epoch → ℕ → Bool
is_cut_for asked epochs t = option_map_or (changes_for asked t) (epoch_at epochs t) false

-- the same of all attributes
abbrev pub changes_at : ℕ → Epoch → Bool
changes_at t p = changes_for which.All t p

abbrev pub is_cut : List Epoch → ℕ → Bool
is_cut epochs t = is_cut_for which.All epochs t

-- the first tick past `at` and before `end` that passes the test, `end` where none does
pub record IsFirstOrEnd (test : ℕ → Bool) (at end first : ℕ) : Type 0 where
  pub past : at < first
  pub within : first ≤ end
  pub none : (t : ℕ) → at < t → t < first → test t ≡ false
  pub some : (first == end || test first) ≡ true

-- A piece begins at tick `at`, and ends before the next tick that is a cut for the asked attributes, or with the window's last tick.
pub record IsPieceFor (asked : Asked) (epochs : List Epoch) (at last : ℕ) (piece : Piece) : Type 0 where
  pub begins : piece.span.lo ≡ at
  pub within : piece.span.hi ≤ last
  pub epoch : slice_get epochs piece.epoch ≡ epoch_at epochs at
  pub whole : (t : ℕ) → at < t → t ≤ piece.span.hi → is_cut_for asked epochs t ≡ false
  pub ends : (piece.span.hi == last || is_cut_for asked epochs (piece.span.hi + 1)) ≡ true

abbrev pub IsPiece : List Epoch → ℕ → ℕ → Piece → Type 0
IsPiece epochs at last piece = IsPieceFor which.All epochs at last piece

-- pieces without a gap from tick `at` to `last`
abbrev pub ArePiecesFrom : List Epoch → ℕ → ℕ → List Piece → Type 0
ArePiecesFrom epochs at last [] = last < at
ArePiecesFrom epochs at last (piece ∷ pieces) =
    IsPiece epochs at last piece × ArePiecesFrom epochs (piece.span.hi + 1) last pieces

-- the pieces of the ticks from `lo` to `last`: they begin with the first of these that isn't before the first epoch
abbrev pub ArePieces : List Epoch → ℕ → ℕ → List Piece → Type 0
ArePieces [] lo last pieces = pieces ≡ []
ArePieces (p ∷ epochs) lo last pieces = ArePiecesFrom (p ∷ epochs) (max lo p.from) last pieces

-- from tick `lo` to `hi` a dynamic attribute, written by then, moves by the slope of the first tick
pub record IsLinear (v : Dynamic) (lo hi : ℕ) : Type 0 where
  pub written : v.updatetime ≤ lo
  pub slope : (t : ℕ) → lo ≤ t → t ≤ hi → slope_at v t ≡ slope_at v lo
  pub value : (t : ℕ) → lo ≤ t → t ≤ hi → value_at v t ≡ value_at v lo +ℤ slope_at v lo *ℤ pos (t - lo)

-- each asked dynamic attribute of an epoch moves by one slope from tick `lo` to `hi`
abbrev pub AreSteadyFor : Asked → Epoch → ℕ → ℕ → Type 0
AreSteadyFor which.All p lo hi = (a : ℕ) (v : Dynamic) → slice_get (cells_of p) a ≡ Some (cells.Dyn v) → IsLinear v lo hi
AreSteadyFor (which.These indexes) p lo hi =
    (a : ℕ) (v : Dynamic) → is_asked (which.These indexes) a ≡ true → slice_get (cells_of p) a ≡ Some (cells.Dyn v) → IsLinear v lo hi

-- each dynamic attribute does
abbrev pub AreSteadyCells : Epoch → ℕ → ℕ → Type 0
AreSteadyCells p lo hi = AreSteadyFor which.All p lo hi

-- At each tick of a piece the same epoch is in force, and each of its asked dynamic attributes moves by one slope.
pub record IsSteadyFor (asked : Asked) (epochs : List Epoch) (piece : Piece) : Type 0 where
  pub within : piece.epoch < length epochs
  pub in_force : (t : ℕ) → piece.span.lo ≤ t → t ≤ piece.span.hi → epoch_at epochs t ≡ slice_get epochs piece.epoch
  pub linear : (p : Epoch) → slice_get epochs piece.epoch ≡ Some p → AreSteadyFor asked p piece.span.lo piece.span.hi

abbrev pub IsSteadyPiece : List Epoch → Piece → Type 0
IsSteadyPiece epochs piece = IsSteadyFor which.All epochs piece

-- whether a tick is in one of the pieces
abbrev pub pieces_have : List Piece → ℕ → Bool
pieces_have pieces t = list_any (λ piece. within piece.span.lo piece.span.hi t) pieces
