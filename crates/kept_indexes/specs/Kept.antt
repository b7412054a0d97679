-- The indexes of a session, as contracts see them, and when they are right for the store and the journal beside them.
use Rattle.std.specs.Prelude.{◌≡◌, ◌⊎◌, ℕ, ◌<◌, ◌≤◌, true, Some, List, All, get_or, length, map, option_map, slice_get, slice_index}
use Rattle.history.specs.Catalog.{name_of}
use Rattle.object_store.specs.Contents.{Contents, catalog_of}
use Rattle.object_store.specs.Sound.{IsSound}
use Rattle.plane.specs.Recorded.{last_written}
use Rattle.plane_index.specs.Index.{Index, is_fresh, IsIndexOf, IsTouched}
use Rattle.plane_index.specs.Told.{recorded_by}
use Rattle.command_text.specs.Journal.{Accepted, clock}
use Rattle.line_meaning.specs.Indexed.{IndexEntry}
use Rattle.line_meaning.specs.Journal.{writes}
use Rattle.line_meaning.specs.Looks.{is_written_since}
use Rattle.database.specs.declared.change.Change.{Change}
use Rattle.database.specs.declared.change.Change.TheVariants as changes
use Rattle.kept_indexes.specs.declared.indexes.Kept.{Kept}

-- what is held of an index
abbrev pub entry_of : Kept → IndexEntry
entry_of k = record { grid = k.index.grid; seen = k.seen }

abbrev pub entries : List Kept → List IndexEntry
entries kept = map entry_of kept

-- an object isn't stale in an index
pub record IsFreshIn (index : Index) (id : ℕ) : Type 0 where
  pub place : ℕ
  pub below : place < length index.ids
  pub is : slice_index index.ids place ≡ id
  pub fresh : is_fresh index place ≡ true

-- an object is of a class
abbrev pub IsOf : Contents → (class id : ℕ) → Type 0
IsOf s class id = option_map (λ o. o.class) (slice_get s.objects id) ≡ Some class

-- It begins by now, and is one of the store: what it keeps of those that aren't stale is right. Who is stale was written
-- since its last `range`, or there was none.
pub record IsRight (journal : List Accepted) (s : Contents) (k : Kept) : Type 0 where
  pub begun : k.index.grid.from ≤ clock journal
  pub seen : k.seen ≤ length journal
  pub of_store : IsIndexOf s k.index
  pub known : (id : ℕ) → IsOf s k.index.grid.class id
      → IsFreshIn k.index id ⊎ (is_written_since journal k.seen (name_of (catalog_of s) id) ≡ true)

abbrev pub AreRight : List Accepted → Contents → List Kept → Type 0
AreRight journal s kept = All (IsRight journal s) kept

-- the last states of the objects begin at the last writes to them
abbrev pub BeginAtLastWrites : List Accepted → Contents → Type 0
BeginAtLastWrites journal s = (id : ℕ) → id < length s.objects → (recorded_by s).begun id ≡ last_written (writes journal) (name_of (catalog_of s) id)

pub record AreIndexes (journal : List Accepted) (s : Contents) (kept : List Kept) : Type 0 where
  pub begun : BeginAtLastWrites journal s
  pub right : AreRight journal s kept

-- ---- An object is stale in each of them from now on

pub record IsTouchedKept (id : ℕ) (old new : Kept) : Type 0 where
  pub index : IsTouched id old.index new.index
  pub seen : new.seen ≡ old.seen

pub record AreTouched (id : ℕ) (old new : List Kept) : Type 0 where
  pub count : length new ≡ length old
  pub each : (place : ℕ) (d : Kept) → place < length old → IsTouchedKept id (get_or old place d) (get_or new place d)

-- a change of the database touches the object that it wrote, if it wrote to one
abbrev pub TouchesChange : Change → Contents → (old new : List Kept) → Type 0
TouchesChange (changes.Object done) s old new = AreTouched done.id old new × IsSound s
TouchesChange change s old new = new ≡ old
