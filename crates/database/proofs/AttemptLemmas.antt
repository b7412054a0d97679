-- What the calls of the store and of the regions make of the database.
use Rattle.std.proofs.Common.{◌≡◌, ℕ, ◌+◌, ◌-◌, ◌≤◌, ◌<◌, Bool, true, false, Option, None, Some, List, [], ◌∷◌, ◌++◌, length, map, take, refl, sym, ap, subst, ◌∙◌, arith, append-nil}
use Rattle.std.specs.Prelude.{is_some, not, nat_le, nat_lt, if◌then◌else◌, option_and_then, unwrap_or}
use Rattle.std.specs.List.{position}
use Rattle.std.specs.Option.{option_map_or}
use Rattle.tick_set.specs.declared.spans.TheConstants.{LAST_TICK}
use Rattle.geometry.specs.Region.{Region}
use Rattle.history.specs.Write.{Attribute, Write, Class}
use Rattle.history.specs.History.{ChangesFrom, history}
use Rattle.std.proofs.Math.Seq.{take-append_seam}
use Rattle.std.proofs.lemmas.List.{length-append}
use Rattle.std.proofs.lemmas.Bool.Decides.{nat_tests}
use Rattle.fixed_point.specs.declared.number.Point.{Point}
use Rattle.motion.specs.declared.cell.AttrKind.{AttrKind}
use Rattle.geometry.specs.Region.{region_number}
use Rattle.geometry.specs.Polygon.{is_convex}
use Rattle.polygon.specs.declared.named.TheConstants.{REGION_LIMIT}
use Rattle.object_store.specs.declared.objects.Done.{Done}
use Rattle.object_store.specs.Effects.{with_class}
use Rattle.object_store.specs.Faults.{class_fault}
use Rattle.object_store.specs.TakingBack as undoing
use Rattle.object_store.specs.TakingBack.{without_last_class, HasEmptyLastClass}
use Rattle.command_text.specs.declared.refusal.Refusal.{Refusal}
use Rattle.command_text.specs.declared.refusal.Refusal.TheVariants as refusals
use Rattle.exact.specs.First.{first_that_holds}
use Rattle.command_text.specs.Tree
use Rattle.object_store.specs.declared.fault.StoreFault.{StoreFault}
use Rattle.object_store.specs.declared.fault.StoreFault.TheVariants as store_faults
use Rattle.object_store.specs.Contents.{Contents, catalog_of, history_of, is_named}
use Rattle.object_store.specs.StandsFor.{GrowsBy}
use Rattle.command_text.specs.Tree.{CommandTree}
use Rattle.database.specs.declared.database.Database.{Database}
use Rattle.command_text.specs.declared.fault.CommandFault.{CommandFault}
use Rattle.command_text.specs.declared.fault.CommandFault.TheVariants as stops
use Rattle.database.specs.declared.change.Change.TheVariants as changes
use Rattle.database.specs.Attempt.{fault_told, Carries, MayLackMemory, StopsCommand, written_name}
use Rattle.line_meaning.specs.Fault.{refusal_by_store, region_refusal}
use Rattle.line_meaning.specs.Journal.{attribute_of, writes, regions, writes_of, regions_of}
use Rattle.line_meaning.proofs.JournalLemmas.{world_more, clock_more}
use Rattle.history.specs.World.{World}
use Rattle.command_text.specs.Journal.{Accepted, clock, ticks_of}
use Rattle.database.specs.Keeping.{clock_of, Keeps}
use Rattle.database.specs.Written.{WritesOneObject, writes_object}

-- What an accepted command made of the database, from which the rest follows.
record Makes (c : CommandTree) (old new : Database) : Type 0 where
  stands : (writes : List Write) → history_of old.store ≡ history writes
      → history_of new.store ≡ history (writes ++ writes_of old.clock c)
  regions : new.regions ≡ old.regions ++ regions_of c
  clock : new.clock ≡ old.clock + ticks_of c
  in_range : new.clock ≤ LAST_TICK
  written : new.store.last_tick ≤ new.clock

-- a journal that was kept is kept with the command at its end
keeps_more : (c : CommandTree) (old new : Database) → Makes c old new → (journal : List Accepted) → Keeps journal old →
    Keeps (journal ++ (clock_of old, c) ∷ []) new
keeps_more c old new m journal k =
    let stood : history_of new.store ≡ history (writes journal ++ writes_of old.clock c)
    = m.stands (writes journal) (ap (λ (w : World). w.history) k.told_is) in
    let regions_are : new.regions ≡ regions journal ++ regions_of c
    = m.regions ∙ ap (λ (w : World). w.regions ++ regions_of c) k.told_is in
    record {
      told_is = (λ i. record { history = stood i; regions = regions_are i }) ∙ sym (world_more journal old.clock c);
      clock_is = m.clock ∙ ap (λ n. n + ticks_of c) k.clock_is ∙ sym (clock_more journal old.clock c);
      timely = record { in_range = m.in_range; written = m.written };
    }

-- the store refused, and the database is as before
stopped_by : (c : CommandTree) (old new : Database) (fault : Option StoreFault) (stop : CommandFault) →
    stop ≡ option_map_or stops.Refused (refusal_by_store (unwrap_or fault store_faults.NoMemory)) stops.NoMemory →
    fault_told old c ≡ option_and_then refusal_by_store fault → (fault_told old c ≡ None → MayLackMemory old c) → new ≡ old → StopsCommand c old new stop
stopped_by c old new None stop is told lacks same = subst (λ (s : CommandFault). StopsCommand c old new s) (sym is) (lacks told, same)
stopped_by c old new (Some store_faults.UnknownName) stop is told lacks same = subst (λ (s : CommandFault). StopsCommand c old new s) (sym is) (told, same)
stopped_by c old new (Some store_faults.NameTaken) stop is told lacks same = subst (λ (s : CommandFault). StopsCommand c old new s) (sym is) (told, same)
stopped_by c old new (Some store_faults.WrongKind) stop is told lacks same = subst (λ (s : CommandFault). StopsCommand c old new s) (sym is) (told, same)
stopped_by c old new (Some store_faults.Presence) stop is told lacks same = subst (λ (s : CommandFault). StopsCommand c old new s) (sym is) (told, same)
stopped_by c old new (Some store_faults.ClassFull) stop is told lacks same = subst (λ (s : CommandFault). StopsCommand c old new s) (sym is) (told, same)
stopped_by c old new (Some store_faults.StoreFull) stop is told lacks same = subst (λ (s : CommandFault). StopsCommand c old new s) (sym is) (told, same)
stopped_by c old new (Some store_faults.NoMemory) stop is told lacks same = subst (λ (s : CommandFault). StopsCommand c old new s) (sym is) (lacks told, same)

pub store_stopped : (c : CommandTree) (old new : Database) (fault : Option StoreFault) (said : StoreFault) (stop : CommandFault) →
    said ≡ unwrap_or fault store_faults.NoMemory → stop ≡ option_map_or stops.Refused (refusal_by_store said) stops.NoMemory →
    fault_told old c ≡ option_and_then refusal_by_store fault → (fault_told old c ≡ None → MayLackMemory old c) → new ≡ old → StopsCommand c old new stop
store_stopped c old new fault said stop is stop-is told lacks same =
    stopped_by c old new fault stop (stop-is ∙ ap (λ f. option_map_or stops.Refused (refusal_by_store f) stops.NoMemory) is) told lacks same

-- the store grew by the one write of a command
store_makes : (c : CommandTree) (write : Write) (store new : Contents) (rs : List Region) (clock : ℕ) →
    writes_of clock c ≡ write ∷ [] → regions_of c ≡ [] → ticks_of c ≡ 0 → clock ≤ LAST_TICK → new.last_tick ≤ clock → GrowsBy store new write →
    Makes c (record { store = store; regions = rs; clock = clock }) (record { store = new; regions = rs; clock = clock })
store_makes c write store new rs clock writes no-region no-ticks in-range written grows = record {
  stands = λ ws h. grows ws h ∙ ap (λ (more : List Write). history (ws ++ more)) (sym writes);
  regions = sym (append-nil rs) ∙ ap (λ more. rs ++ more) (sym no-region);
  clock = omega (arith, no-ticks);
  in_range = in-range;
  written = written;
}

-- a command without a write
region_makes : (name : List ℕ) (c : CommandTree) (store : Contents) (rs new : List Region) (clock : ℕ) →
    writes_of clock c ≡ [] → ticks_of c ≡ 0 → new ≡ rs ++ regions_of c → clock ≤ LAST_TICK → store.last_tick ≤ clock →
    Makes c (record { store = store; regions = rs; clock = clock }) (record { store = store; regions = new; clock = clock })
region_makes name c store rs new clock no-write no-ticks is in-range written = record {
  stands = λ ws h. h ∙ ap history (sym (ap (λ w. ws ++ w) no-write ∙ append-nil ws));
  regions = is;
  clock = omega (arith, no-ticks);
  in_range = in-range;
  written = written;
}

tick_makes : (c : CommandTree) (store : Contents) (rs : List Region) (clock new : ℕ) →
    writes_of clock c ≡ [] → regions_of c ≡ [] → new ≡ clock + ticks_of c → new ≤ LAST_TICK → store.last_tick ≤ clock →
    Makes c (record { store = store; regions = rs; clock = clock }) (record { store = store; regions = rs; clock = new })
tick_makes c store rs clock new no-write no-region is in-range written = record {
  stands = λ ws h. h ∙ ap history (sym (ap (λ w. ws ++ w) no-write ∙ append-nil ws));
  regions = sym (append-nil rs) ∙ ap (λ more. rs ++ more) (sym no-region);
  clock = is;
  in_range = in-range;
  written = omega (arith, is, written);
}

-- an object was written
pub store_carries : (c : CommandTree) (write : Write) (d : Database) (new : Contents) (done : Done) →
    writes_of d.clock c ≡ write ∷ [] → regions_of c ≡ [] → ticks_of c ≡ 0 → fault_told d c ≡ None → d.clock ≤ LAST_TICK → new.last_tick ≡ d.clock →
    GrowsBy d.store new write → undoing.Undoes done.undo d.store new →
    ChangesFrom done.id d.clock (history_of d.store) (history_of new) → position (is_named (written_name c)) new.objects ≡ Some done.id →
    WritesOneObject done.id d.clock d.store.objects new.objects → writes_object c ≡ true →
    Carries c d (record { store = new; regions = d.regions; clock = d.clock }) (changes.Object done)
store_carries c write d new done writes no-region no-ticks accepted in-range last grows undoes changed id written writing = record {
  accepted = accepted;
  keeps = keeps_more c d (record { store = new; regions = d.regions; clock = d.clock })
      (store_makes c write d.store new d.regions d.clock writes no-region no-ticks in-range (omega (arith, last)) grows);
  undoes = record {
    last = undoes.revertible;
    before = ap (λ (s : Contents). let x : Database = record { store = s; regions = d.regions; clock = d.clock } in x) undoes.before;
  };
  changes = (changed, refl, id);
  writes = (written, writing);
}

-- a class was made
pub class_carries : (name : List ℕ) (capacity : ℕ) (point : Bool) (attrs : List (List ℕ × AttrKind)) (given : List Attribute) (d : Database) (new : Contents) →
    given ≡ map attribute_of attrs → class_fault (catalog_of d.store) name point given ≡ None → d.clock ≤ LAST_TICK → d.store.last_tick ≤ d.clock →
    new ≡ with_class d.store name capacity point given → GrowsBy d.store new (Class name capacity point given) → HasEmptyLastClass new → without_last_class new ≡ d.store →
    Carries (Tree.Class name capacity point attrs) d (record { store = new; regions = d.regions; clock = d.clock }) changes.Class
class_carries name capacity point attrs given d new given-is accepted in-range written is grows spare before =
    let tick : new.last_tick ≡ d.store.last_tick = ap (λ (s : Contents). s.last_tick) is in
    let classes : length new.classes ≡ length d.store.classes + 1 = ap (λ (s : Contents). length s.classes) is ∙ simp (length-append) in
    record {
      accepted = ap (option_and_then refusal_by_store) (ap (class_fault (catalog_of d.store) name point) (sym given-is) ∙ accepted);
      keeps = keeps_more (Tree.Class name capacity point attrs) d (record { store = new; regions = d.regions; clock = d.clock })
          (store_makes (Tree.Class name capacity point attrs) (Class name capacity point given) d.store new d.regions d.clock
          (ap (λ g. Class name capacity point g ∷ []) (sym given-is)) refl refl in-range (omega (arith, tick, written)) grows);
      undoes = record {
        last = (omega (arith, classes), spare);
        before = ap (λ (s : Contents). let x : Database = record { store = s; regions = d.regions; clock = d.clock } in x) before;
      };
      changes = (is ∙ ap (with_class d.store name capacity point) given-is, refl);
      writes = refl;
    }

-- the refusals of a region
region_by : List Region → List ℕ → List Point → Bool → Bool → Bool → Option Refusal
region_by regions name points taken flat full = first_that_holds ((refusals.NameTaken, taken) ∷ (refusals.NotConvex, flat) ∷ (refusals.StoreFull, full) ∷ [])

pub region_taken : (regions : List Region) (name : List ℕ) (points : List Point) → is_some (region_number regions name) ≡ true → region_refusal regions name points ≡ Some refusals.NameTaken
unfolding region_by
region_taken regions name points taken = ap (λ b. region_by regions name points b (not (is_convex points)) (nat_le REGION_LIMIT (length regions))) taken

pub region_flat : (regions : List Region) (name : List ℕ) (points : List Point) → is_some (region_number regions name) ≡ false → is_convex points ≡ false → region_refusal regions name points ≡ Some refusals.NotConvex
unfolding region_by
region_flat regions name points free flat =
    ap (λ b. region_by regions name points b (not (is_convex points)) (nat_le REGION_LIMIT (length regions))) free
    ∙ ap (λ b. region_by regions name points false (not b) (nat_le REGION_LIMIT (length regions))) flat

pub region_full : (regions : List Region) (name : List ℕ) (points : List Point) → is_some (region_number regions name) ≡ false → is_convex points ≡ true → REGION_LIMIT ≤ length regions → region_refusal regions name points ≡ Some refusals.StoreFull
unfolding region_by
region_full regions name points free convex full =
    let passed : nat_le REGION_LIMIT (length regions) ≡ true = grind (arith, nat_tests, full) in
    ap (λ b. region_by regions name points b (not (is_convex points)) (nat_le REGION_LIMIT (length regions))) free
    ∙ ap (λ b. region_by regions name points false (not b) (nat_le REGION_LIMIT (length regions))) convex
    ∙ ap (λ b. region_by regions name points false false b) passed

pub region_fits : (regions : List Region) (name : List ℕ) (points : List Point) → is_some (region_number regions name) ≡ false → is_convex points ≡ true → length regions < REGION_LIMIT → region_refusal regions name points ≡ None
unfolding region_by
region_fits regions name points free convex room =
    let within : nat_le REGION_LIMIT (length regions) ≡ false = grind (arith, nat_tests, room) in
    ap (λ b. region_by regions name points b (not (is_convex points)) (nat_le REGION_LIMIT (length regions))) free
    ∙ ap (λ b. region_by regions name points false (not b) (nat_le REGION_LIMIT (length regions))) convex
    ∙ ap (λ b. region_by regions name points false false b) within

-- a region was made
pub region_carries : (name : List ℕ) (points : List Point) (d : Database) (new : List Region) →
    region_refusal d.regions name points ≡ None → d.clock ≤ LAST_TICK → d.store.last_tick ≤ d.clock → new ≡ d.regions ++ record { name = name; points = points } ∷ [] →
    Carries (Tree.Region name points) d (record { store = d.store; regions = new; clock = d.clock }) changes.Region
region_carries name points d new accepted in-range written is =
    let count : length new ≡ length d.regions + 1 = ap length is ∙ simp (length-append) in
    record {
      accepted = accepted;
      keeps = keeps_more (Tree.Region name points) d (record { store = d.store; regions = new; clock = d.clock })
          (region_makes name (Tree.Region name points) d.store d.regions new d.clock refl refl is in-range written);
      undoes = record {
        last = omega (arith, count);
        before = ap (λ (rs : List Region). let x : Database = record { store = d.store; regions = rs; clock = d.clock } in x)
            (ap (λ n. take (n - 1) new) count ∙ ap (λ n. take n new) (omega (arith)) ∙ ap (take (length d.regions)) is ∙ take-append_seam d.regions (record { name = name; points = points } ∷ []));
      };
      changes = (refl, is);
      writes = refl;
    }

-- a region that is judged without memory: the list of regions is full, or nothing refuses it
pub region_unmade : (name : List ℕ) (points : List Point) (d : Database) → is_some (region_number d.regions name) ≡ false → is_convex points ≡ true →
    StopsCommand (Tree.Region name points) d d (if nat_le REGION_LIMIT (length d.regions) then stops.Refused refusals.StoreFull else stops.NoMemory)
region_unmade name points d free convex = judged (nat_le REGION_LIMIT (length d.regions)) refl
  where
    judged : (full : Bool) → nat_le REGION_LIMIT (length d.regions) ≡ full →
        StopsCommand (Tree.Region name points) d d (if full then stops.Refused refusals.StoreFull else stops.NoMemory)
    judged true full = (region_full d.regions name points free convex (grind (arith, nat_tests, full)), refl)
    judged false room = (region_fits d.regions name points free convex (grind (arith, nat_tests, room)), refl)

-- the clock moved
pub tick_carries : (ticks : ℕ) (d : Database) (new : ℕ) → new ≡ d.clock + ticks → new ≤ LAST_TICK → d.store.last_tick ≤ d.clock →
    Carries (Tree.Tick ticks) d (record { store = d.store; regions = d.regions; clock = new }) (changes.Clock ticks)
tick_carries ticks d new is in-range written = record {
  accepted = let late : nat_lt LAST_TICK (d.clock + ticks) ≡ false = grind (arith, nat_tests, is, in-range) in
      ap (λ b. first_that_holds ((refusals.ClockEnd, b) ∷ [])) late;
  keeps = keeps_more (Tree.Tick ticks) d (record { store = d.store; regions = d.regions; clock = new })
      (tick_makes (Tree.Tick ticks) d.store d.regions d.clock new refl refl is in-range written);
  undoes = record {
    last = omega (arith, is);
    before = ap (λ n. let x : Database = record { store = d.store; regions = d.regions; clock = n } in x) (omega (arith, is));
  };
  changes = refl;
  writes = refl;
}
