-- What an attempt to carry out a command answers.
use Rattle.std.specs.Prelude.{◌≡◌, ℕ, ◌++◌, [], ◌∷◌, true, false, List, map, Option, None, Some, Result, Ok, Err}
use Rattle.std.specs.List.{position}
use Rattle.fixed_point.specs.declared.number.Point.{Point}
use Rattle.geometry.specs.Polygon.{is_convex}
use Rattle.history.specs.History.{ChangesFrom}
use Rattle.object_store.specs.Contents.{history_of, is_named}
use Rattle.object_store.specs.Effects.{with_class}
use Rattle.command_text.specs.declared.fault.CommandFault.{CommandFault}
use Rattle.command_text.specs.declared.fault.CommandFault.TheVariants as faults
use Rattle.command_text.specs.declared.refusal.Refusal.{Refusal}
use Rattle.command_text.specs.declared.refusal.Refusal.TheVariants as refusals
use Rattle.command_text.specs.Journal.{Accepted}
use Rattle.command_text.specs.Tree
use Rattle.command_text.specs.Tree.{CommandTree}
use Rattle.line_meaning.specs.Fault.{fault_among}
use Rattle.line_meaning.specs.Journal.{attribute_of, regions_of}
use Rattle.database.specs.declared.change.Change.{Change}
use Rattle.database.specs.declared.change.Change.TheVariants as changes
use Rattle.database.specs.declared.database.Database.{Database}
use Rattle.database.specs.Keeping.{clock_of, world_of_database, Keeps}
use Rattle.database.specs.Taking.{TakesBackChange}
use Rattle.database.specs.Written.{WritesByCommand}

-- the refusal of a command by what is kept
abbrev pub fault_told : Database → CommandTree → Option Refusal
fault_told d c = fault_among (world_of_database d) (clock_of d) c

-- what the object of a change is named by
abbrev pub written_name : CommandTree → List ℕ
written_name (Tree.Insert class name place sets) = name
written_name (Tree.Update name place sets) = name
written_name (Tree.Remove name) = name
written_name c = []

-- What it makes of all that a query may ask of: one class or one region more, another state of the one object that is
-- written, from now on, or nothing, where the clock moves.
abbrev pub ChangesWorld : CommandTree → Change → Database → Database → Type 0
ChangesWorld c (changes.Object done) old new =
    ChangesFrom done.id old.clock (history_of old.store) (history_of new.store) × (new.regions ≡ old.regions)
    × (position (is_named (written_name c)) new.store.objects ≡ Some done.id)
ChangesWorld c (changes.Clock ticks) old new = world_of_database new ≡ world_of_database old
ChangesWorld (Tree.Class name capacity point attributes) changes.Class old new =
    (new.store ≡ with_class old.store name capacity point (map attribute_of attributes)) × (new.regions ≡ old.regions)
ChangesWorld c changes.Region old new = (new.store ≡ old.store) × (new.regions ≡ old.regions ++ regions_of c)
ChangesWorld c changes.Class old new = ⊥

-- The command was carried out, and can be taken back: a journal that was kept is kept with the command at its end.
pub record Carries (c : CommandTree) (old new : Database) (change : Change) : Type 0 where
  pub accepted : fault_told old c ≡ None
  pub keeps : (journal : List Accepted) → Keeps journal old → Keeps (journal ++ (clock_of old, c) ∷ []) new
  pub undoes : TakesBackChange change old new
  pub changes : ChangesWorld c change old new
  pub writes : WritesByCommand c change old new

-- What want of memory says of a command: nothing refuses it. The attributes of a class are copied before it is judged,
-- and the clock moves without memory.
abbrev pub MayLackMemory : Database → CommandTree → Type 0
MayLackMemory d (Tree.Class name capacity point attributes) = Unit {0}
MayLackMemory d (Tree.Tick ticks) = ⊥
MayLackMemory d c = fault_told d c ≡ None

-- the command was stopped, and nothing changed
abbrev pub StopsCommand : CommandTree → Database → Database → CommandFault → Type 0
StopsCommand c old new (faults.Refused r) = (fault_told old c ≡ Some r) × (new ≡ old)
StopsCommand c old new faults.NoMemory = MayLackMemory old c × (new ≡ old)

abbrev pub Attempts : CommandTree → Database → Database → Result Change CommandFault → Type 0
Attempts c old new (Ok change) = Carries c old new change
Attempts c old new (Err fault) = StopsCommand c old new fault

-- why there is no polygon of some points
abbrev pub IsFlat : List Point → CommandFault → Type 0
IsFlat points (faults.Refused r) = (r ≡ refusals.NotConvex) × (is_convex points ≡ false)
IsFlat points faults.NoMemory = is_convex points ≡ true
