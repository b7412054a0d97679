-- Why a command that was read is refused: the first of these conditions that holds, in the order of the refusals.
use Rattle.std.specs.Prelude.{ℕ, ◌+◌, Bool, true, false, ◌||◌, ◌&&◌, not, nat_le, nat_lt, is_none, is_some, Option, None, Some, option_and_then, List, [], ◌∷◌, map, length}
use Rattle.fixed_point.specs.declared.number.Point.{Point}
use Rattle.tick_set.specs.declared.spans.TheConstants.{LAST_TICK}
use Rattle.geometry.specs.Region.{Region, region_number}
use Rattle.geometry.specs.Polygon.{is_convex}
use Rattle.polygon.specs.declared.named.TheConstants.{REGION_LIMIT}
use Rattle.history.specs.Catalog.{Catalog, number_of_class}
use Rattle.history.specs.History.{History}
use Rattle.history.specs.World.{World}
use Rattle.object_store.specs.declared.fault.StoreFault.{StoreFault}
use Rattle.object_store.specs.declared.fault.StoreFault.TheVariants as store_faults
use Rattle.object_store.specs.Faults.{class_fault, insert_fault, update_fault, remove_fault}
use Rattle.command_text.specs.declared.refusal.Refusal.{Refusal}
use Rattle.command_text.specs.declared.refusal.Refusal.TheVariants as refusals
use Rattle.command_text.specs.declared.journal.TheConstants.{MOST_ENTRIES, MOST_BYTES}
use Rattle.exact.specs.First.{first_that_holds}
use Rattle.command_text.specs.Text.{text_of}
use Rattle.command_text.specs.Tree
use Rattle.command_text.specs.Tree.{CommandTree}
use Rattle.line_meaning.specs.Ask.{ask_refusal}
use Rattle.line_meaning.specs.Blurred.{blurred_refusal}
use Rattle.line_meaning.specs.Journal.{attribute_of}
use Rattle.line_meaning.specs.Near.{near_refusal}
use Rattle.command_text.specs.Journal.{is_kept}

-- the refusal of a fault of the store
abbrev pub refusal_by_store : StoreFault → Option Refusal
refusal_by_store store_faults.UnknownName = Some refusals.UnknownName
refusal_by_store store_faults.NameTaken = Some refusals.NameTaken
refusal_by_store store_faults.WrongKind = Some refusals.WrongKind
refusal_by_store store_faults.Presence = Some refusals.Presence
refusal_by_store store_faults.ClassFull = Some refusals.ClassFull
refusal_by_store store_faults.StoreFull = Some refusals.StoreFull
refusal_by_store store_faults.NoMemory = None

abbrev pub region_refusal : List Region → List ℕ → List Point → Option Refusal
region_refusal regions name points = first_that_holds (
    (refusals.NameTaken, is_some (region_number regions name))
    ∷ (refusals.NotConvex, not (is_convex points))
    ∷ (refusals.StoreFull, nat_le REGION_LIMIT (length regions))
    ∷ [])

abbrev pub tick_refusal : ℕ → ℕ → Option Refusal
tick_refusal now ticks = first_that_holds ((refusals.ClockEnd, nat_lt LAST_TICK (now + ticks)) ∷ [])

-- whether the object of a name is there
abbrev pub is_present : History → List ℕ → ℕ → Bool
is_present h o t = is_some (h.state o t)

-- the refusal of a class that isn't there
abbrev pub class_refusal : Catalog → List ℕ → Option Refusal
class_refusal c class = first_that_holds ((refusals.UnknownName, is_none (number_of_class c class)) ∷ [])

-- the refusals of a command but for those of its line, of the registered queries and of the journal, by what a query may
-- ask of and the clock
abbrev pub fault_among : World → ℕ → CommandTree → Option Refusal
fault_among w now (Tree.Class name capacity point attributes) =
    option_and_then refusal_by_store (class_fault w.history.catalog name point (map attribute_of attributes))
fault_among w now (Tree.Region name points) = region_refusal w.regions name points
fault_among w now (Tree.Insert class name place sets) =
    option_and_then refusal_by_store (insert_fault w.history.catalog (is_present w.history name now) class name place sets)
fault_among w now (Tree.Update name place sets) =
    option_and_then refusal_by_store (update_fault w.history.catalog (is_present w.history name now) name place sets)
fault_among w now (Tree.Remove name) =
    option_and_then refusal_by_store (remove_fault w.history.catalog (is_present w.history name now) name)
fault_among w now (Tree.Tick ticks) = tick_refusal now ticks
fault_among w now (Tree.Ask span q) = ask_refusal w now span q
fault_among w now (Tree.Nearest span k object class) = near_refusal w.history.catalog now span object class
fault_among w now (Tree.Must error span q) = blurred_refusal w now span q
fault_among w now (Tree.May error span q) = blurred_refusal w now span q
fault_among w now (Tree.Import class file) = class_refusal w.history.catalog class
fault_among w now (Tree.Export class file) = class_refusal w.history.catalog class
fault_among w now _ = None

-- one more entry of so many bytes passes the limits of a journal of so many entries and bytes
abbrev pub passes_limits : ℕ → ℕ → ℕ → Bool
passes_limits entries bytes line = nat_le MOST_ENTRIES entries || nat_lt MOST_BYTES (bytes + line + 1)

abbrev pub journal_refusal : ℕ → ℕ → CommandTree → Option Refusal
journal_refusal entries bytes c =
    first_that_holds ((refusals.JournalFull, is_kept c && passes_limits entries bytes (length (text_of c))) ∷ [])
