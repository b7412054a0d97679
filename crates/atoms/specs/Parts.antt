-- The timelines of some variables, and what a common part of them shows of each variable.
use Rattle.std.specs.Prelude.{◌≡◌, ℕ, ◌+◌, ◌<◌, ◌≤◌, ◌==◌, ⊤, true, length, replicate, Option, None, Some, is_some, option_and_then, unwrap_or, List, [], ◌∷◌, slice_get, slice_index, IsTrue, if◌then◌else◌}
use Rattle.std.specs.List.{list_all}
use Rattle.std.specs.Option.{option_copied, option_map_or}
use Rattle.courses.specs.Parts.{asked_each, pieces_for}
use Rattle.courses.specs.declared.parts.TheConstants.{MOST_TIMELINES}
use Rattle.motion.specs.declared.asked.Asked.{Asked}
use Rattle.motion.specs.Dynamic.{Dynamic}
use Rattle.motion.specs.Pieces.{IsLinear, is_asked}
use Rattle.motion.specs.Timeline.{Epoch, cells_of, state_at}
use Rattle.motion.specs.declared.cell.Cell.{Cell}
use Rattle.motion.specs.declared.cell.Cell.TheVariants as cells
use Rattle.object_store.specs.Contents.{Contents}
use Rattle.meaning.specs.Trace.{Trace}
use Rattle.atoms.specs.declared.parts.Part.{Part}
use Rattle.atoms.specs.Asked.{HasStored}

-- the variable is one that a query may have, and its object in the binding, which is 0 past the end, is one of the store
abbrev pub HasObject : List ℕ → Contents → ℕ → Type 0
HasObject b s v = HasStored s (slice_index b) v

-- the timeline of an object by its number
abbrev pub epochs_of : Contents → ℕ → List Epoch
epochs_of s id = option_map_or (λ o. o.epochs) (slice_get s.objects id) []

-- what stands at the place of a variable in a list, None where it isn't one of the variables
abbrev pub beside : {A : Type 0} → List ℕ → List A → ℕ → Option A
beside [] xs v = None
beside (u ∷ us) [] v = None
beside (u ∷ us) (x ∷ xs) v = if u == v then Some x else beside us xs v

-- the states of the variables that have these timelines, in the same order
abbrev pub trace_by : List ℕ → List (List Epoch) → Trace
trace_by variables timelines v t = option_and_then (λ epochs. state_at epochs t) (beside variables timelines v)

-- the epoch in force of a variable's object
abbrev pub epoch_of : Part → ℕ → Option Epoch
epoch_of part v = option_copied (unwrap_or (beside part.variables.now part.epochs v) None)

-- the cells of a variable's object in a part, None where it is absent
abbrev pub held_cells : Part → ℕ → Option (List Cell)
held_cells part v = option_and_then (λ p. p.cells) (epoch_of part v)

-- the same at each tick
abbrev pub shown : Part → Trace
shown part v t = held_cells part v

-- each asked dynamic attribute of an epoch moves by one slope
abbrev pub IsSteadyEpoch : Asked → Epoch → ℕ → ℕ → Type 0
IsSteadyEpoch asked p lo hi = (a : ℕ) (d : Dynamic) → is_asked asked a ≡ true → slice_get (cells_of p) a ≡ Some (cells.Dyn d) → IsLinear d lo hi

-- those of each variable do so in the part
abbrev pub AreSteady : Part → Type 0
AreSteady part = (v : ℕ) (p : Epoch) → epoch_of part v ≡ Some p → IsSteadyEpoch part.asked p part.span.lo part.span.hi

abbrev pub IsSteadyCell : Cell → ℕ → ℕ → Type 0
IsSteadyCell cell lo hi = (v : Dynamic) → cell ≡ cells.Dyn v → IsLinear v lo hi

-- each variable of the part has an epoch in force
abbrev pub HaveEpochs : Part → Type 0
HaveEpochs part = IsTrue (list_all (λ v. is_some (epoch_of part v)) part.variables.now)

-- how many pieces several timelines have, for the attributes that are asked of each
abbrev pub pieces_asked : Asked → List (List Epoch) → ℕ → ℕ → ℕ
pieces_asked asked timelines at last = pieces_for (asked_each (replicate MOST_TIMELINES asked) timelines) at last

-- The part of the timelines of these variables that begins at tick `at` and ends by `last`, for the attributes that are asked of each. Where
-- each variable has an epoch in force, fewer pieces are left past it.
pub record IsPartFrom (variables : List ℕ) (asked : Asked) (timelines : List (List Epoch)) (at last : ℕ) (part : Part) : Type 0 where
  pub begins : part.span.lo ≡ at
  pub within : part.span.hi ≤ last
  pub of_variables : part.variables.now ≡ variables
  pub as_asked : part.asked ≡ asked
  pub shown : (v t : ℕ) → part.span.lo ≤ t → t ≤ part.span.hi → trace_by variables timelines v t ≡ shown part v t
  pub steady : AreSteady part
  pub fewer : 0 < length timelines → HaveEpochs part → pieces_asked asked timelines (part.span.hi + 1) last < pieces_asked asked timelines at last
  pub not_more : pieces_asked asked timelines (part.span.hi + 1) last ≤ pieces_asked asked timelines at last

-- the variables ascend from `low` on, each once
abbrev pub AreAscendingFrom : ℕ → List ℕ → Type 0
AreAscendingFrom low [] = ⊤
AreAscendingFrom low (v ∷ variables) = (low ≤ v) × AreAscendingFrom (v + 1) variables

abbrev pub AreAscending : List ℕ → Type 0
AreAscending variables = AreAscendingFrom 0 variables
