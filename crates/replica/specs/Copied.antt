-- The copy of an answer, and what lines make of it.
use Rattle.std.specs.Prelude.{ℕ, Bool, true, false, IfSome, Option, Some, None, List, [], option_map, if◌then◌else◌}
use Rattle.formula.specs.declared.kind.QueryKind.{QueryKind}
use Rattle.formula.specs.declared.kind.QueryKind.TheVariants.{Watch, Keep}
use Rattle.tick_set.specs.declared.operation.SetOperation.{SetOperation}
use Rattle.tick_set.specs.declared.operation.SetOperation.TheVariants.{Union}
use Rattle.replica.specs.Line.{ToldLine, Starts, Answers, Changes, Passes, Stops, Nothing, Broken}
use Rattle.replica.specs.Rows.{AreInOrder, TargetRow, rows_after_told, target_rows_text}
use Rattle.replica.specs.declared.copied.Copied.{Copied}

abbrev pub begun_copy : QueryKind → ℕ → Copied
begun_copy kind clock = record { kind = kind; clock = clock; rows = [] }

abbrev pub with_change : SetOperation → TargetRow → Copied → Copied
with_change operation row copied =
    record { kind = copied.kind; clock = copied.clock; rows = rows_after_told operation row copied.rows }

abbrev pub at_clock : ℕ → Copied → Copied
at_clock clock copied = record { kind = copied.kind; clock = clock; rows = copied.rows }

-- rows of an answer count where they follow the line that began the query
abbrev pub copy_after : Bool → Option Copied → ToldLine → Option Copied
copy_after starting copy (Starts kind clock) = Some (begun_copy kind clock)
copy_after starting copy (Answers row) = if starting then option_map (with_change Union row) copy else copy
copy_after starting copy (Changes operation row) = option_map (with_change operation row) copy
copy_after starting copy (Passes clock) = option_map (at_clock clock) copy
copy_after starting copy Stops = None
copy_after starting copy Nothing = copy
copy_after starting copy Broken = copy

-- whether rows may follow
abbrev pub starting_after : Bool → ToldLine → Bool
starting_after starting (Starts kind clock) = true
starting_after starting (Answers row) = starting
starting_after starting (Changes operation row) = false
starting_after starting (Passes clock) = false
starting_after starting Stops = false
starting_after starting Nothing = false
starting_after starting Broken = false

-- a watched query is told from its clock on
abbrev pub first_copied_tick : QueryKind → ℕ → ℕ
first_copied_tick Watch clock = clock
first_copied_tick Keep clock = 0

abbrev pub copy_text : Copied → List ℕ
copy_text copied = target_rows_text (first_copied_tick copied.kind copied.clock) copied.rows

-- the rows of a copy, where there is one, ascend by the bytes of their targets
abbrev pub HasRowsInOrder : Option Copied → Type 0
HasRowsInOrder copy = IfSome copy (λ copied. AreInOrder copied.rows)
