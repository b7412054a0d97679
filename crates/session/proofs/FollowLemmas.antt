-- A database that a command changed, before its command is entered.
use Rattle.std.proofs.Common.{◌≡◌, ℕ, ◌+◌, ◌<◌, ◌≤◌, true, false, Option, None, Some, List, [], ◌∷◌, ◌++◌, length, map, refl, sym, ap, ◌∙◌, subst, append-nil, arith}
use Rattle.std.specs.Prelude.{All, IfSome, Ok, Err, slice_index_or}
use Rattle.std.proofs.lemmas.List.Quantifiers.{position-Some}
use Rattle.history.specs.Catalog.{ClassInfo}
use Rattle.history.specs.World.{World}
use Rattle.meaning.specs.Reads.{write_reads}
use Rattle.meaning.specs.Registered.{RegisteredQuery}
use Rattle.geometry.specs.Region.{Region}
use Rattle.object_store.specs.Contents.{catalog_of, is_named}
use Rattle.command_text.specs.declared.fault.CommandFault.{CommandFault}
use Rattle.command_text.specs.declared.fault.CommandFault.TheVariants as stops
use Rattle.command_text.specs.Journal.{Accepted, bytes_of, clock, is_kept, ticks_of}
use Rattle.command_text.specs.Shape.{IsPrintable}
use Rattle.command_text.specs.Text.{text_of}
use Rattle.command_text.specs.Tree
use Rattle.command_text.specs.Tree.{CommandTree}
use Rattle.session_file.specs.declared.kept.TheConstants.{SESSION_LINE_LIMIT}
use Rattle.line_meaning.specs.Answering.{kept_lines}
use Rattle.line_meaning.specs.Fault.{passes_limits}
use Rattle.line_meaning.specs.Journal.{regions_of, world, writes_of}
use Rattle.line_meaning.specs.Looks.{looks_of_write, most_looks}
use Rattle.line_meaning.specs.QueryFault.{command_fault}
use Rattle.line_meaning.specs.Reached.{AreReached}
use Rattle.line_meaning.specs.Registry.{Known, Registration, known, live_after, registered}
use Rattle.line_meaning.specs.Role.{is_on_queries}
use Rattle.line_meaning.specs.Step.{fault_of, held}
use Rattle.line_meaning.proofs.JournalLemmas.{registered_more}
use Rattle.live_queries.specs.Asked.{FitsWorld, HaveObjectsBefore, class_in}
use Rattle.live_queries.specs.Current.{AreCurrent}
use Rattle.live_queries.specs.Kept as kept_queries
use Rattle.live_queries.specs.Kept.{AreKept, KeptQuery}
use Rattle.live_queries.specs.Prepared.{IsPrepared, Prepared}
use Rattle.live_queries.specs.Renewed.{IsSameRequest}
use Rattle.database.specs.declared.change.Change.{Change}
use Rattle.database.specs.declared.database.Database.{Database}
use Rattle.database.specs.Attempt as attempts
use Rattle.database.specs.Attempt.{Carries, StopsCommand, written_name}
use Rattle.database.specs.Keeping.{Keeps, TellsAcceptedWrites, clock_of, world_of_database}
use Rattle.database.proofs.CallerLemmas.{fault_is_told}
use Rattle.database.specs.Written.{writes_object}
use Rattle.registry.specs.Standing.{Stand, known_of, registration_of}
use Rattle.session.specs.declared.state.State.{State}
use Rattle.session.specs.Carried.{IsAccepted, IsStopped, is_class}
use Rattle.session.specs.Entering.{Admits}
use Rattle.session.specs.Followed.{IsChanged, Prepares, Settles, lines_told, object_of_change}
use Rattle.session.specs.State.{IsState}
use Rattle.session.proofs.ChangeLemmas.{WritesWorld, adds_at_most, by_class, clock_after, same_world, writes_world}
use Rattle.session.proofs.FaultLemmas.{accepted, accepted_kept, data_fault, refused, stopped_full, stopped_lacking}
use Rattle.session.proofs.KnownLemmas.{accepted_told, entered_state, known_is, reached_entry}
use Rattle.session.proofs.RowLemmas.{write_plain}
use Rattle.session.proofs.SettleLemmas.{IsSettled, Laws, same_head, settled}

-- ---- by the command

plain_live : (w : World) (now : ℕ) (live : List Registration) (c : CommandTree) → is_on_queries c ≡ false → live_after w now live c ≡ live
plain_live w now live (Tree.Watch name span q) plain = absurd (cc plain)
plain_live w now live (Tree.Keep name span q) plain = absurd (cc plain)
plain_live w now live (Tree.Drop name) plain = absurd (cc plain)
plain_live w now live c plain = refl

write_looks : (journal : List Accepted) (c : CommandTree) → writes_object c ≡ true →
    most_looks (held journal) c ≡ looks_of_write (known (journal ++ (clock journal, c) ∷ [])) (written_name c)
write_looks journal (Tree.Insert class name place sets) write = refl
write_looks journal (Tree.Update name place sets) write = refl
write_looks journal (Tree.Remove name) write = refl
write_looks journal c write = absurd (cc write)

-- nothing is told of a write that changed nothing
pub none_told : (c : CommandTree) (before : ℕ) (d : Database) (live : List KeptQuery) → writes_object c ≡ true → lines_told c before d live None ≡ []
none_told (Tree.Insert class name place sets) before d live write = refl
none_told (Tree.Update name place sets) before d live write = refl
none_told (Tree.Remove name) before d live write = refl
none_told c before d live write = absurd (cc write)

queries_are : (ks : List KeptQuery) → map (λ (r : Registration). r.query) (map registration_of ks) ≡ map kept_queries.registered_query ks
queries_are [] = refl
queries_are (k ∷ ks) = ap (λ rest. kept_queries.registered_query k ∷ rest) (queries_are ks)

-- ---- by the change

module _ (s : State) (c : CommandTree) (before : ℕ) (change : Change) (is : IsChanged c before change s) where
  keeps_entered : Keeps (s.journal ++ (before, c) ∷ []) s.database
  keeps_entered = subst (λ t. Keeps (s.journal ++ (t, c) ∷ []) s.database) (sym is.tick) (is.carries.keeps s.journal is.state.keeps)

  pub tick_is : before ≡ clock s.journal
  tick_is = is.tick ∙ is.state.keeps.clock_is

  pub changed_accepted : AreReached [] (s.journal ++ (before, c) ∷ []) → TellsAcceptedWrites s.database
  changed_accepted reached = accepted_told (s.journal ++ (before, c) ∷ []) s.database keeps_entered reached

  -- where nothing was written, the rows are current still
  pub still_current : writes_of before c ≡ [] → regions_of c ≡ [] → AreCurrent (world_of_database s.database) before s.live
  still_current no-write no-region =
      subst (λ (w : World). AreCurrent w before s.live)
      (sym (same_world s.journal before c is.old s.database is.state.keeps keeps_entered no-write no-region))
      (subst (λ t. AreCurrent (world_of_database is.old) t s.live) (sym is.tick) is.state.stand.current)

  pub still_entered : All (λ k. k.entry ≤ before) s.live
  still_entered = subst (λ (t : ℕ). All (λ (k : KeptQuery). k.entry ≤ t) s.live) (sym is.tick) is.state.stand.entered

  -- the clock doesn't go back
  pub still_before : before ≤ clock_of s.database
  still_before =
      let later : clock_of s.database ≡ clock_of is.old + ticks_of c
      = clock_after s.journal (clock_of is.old) c is.old s.database is.state.keeps (is.carries.keeps s.journal is.state.keeps) in
      omega (arith, later, is.tick)

  known_entered : is_on_queries c ≡ false → known (s.journal ++ (before, c) ∷ []) ≡ known_of s.database s.live
  known_entered plain =
      let live : registered (s.journal ++ (before, c) ∷ []) ≡ map registration_of s.live =
      registered_more s.journal before c ∙ plain_live (world s.journal) before (registered s.journal) c plain ∙ sym is.state.queries in
      λ i. record { world = sym keeps_entered.told_is i; now = sym keeps_entered.clock_is i; live = live i }

  module _ (id : ℕ) (its : object_of_change change ≡ Some id) where
    its_world : WritesWorld c id is.old s.database
    its_world = writes_world c change id is.old s.database its is.carries.changes

    pub object_there : id < length s.database.store.objects
    object_there =
        (position-Some (is_named (written_name c)) s.database.store.objects id (record { name = []; class = 0; epochs = [] }) its_world.place).0

    pub still_fit : ((old new : World) (m : List ClassInfo) (n : List Region) →
        new.history.catalog.classes ≡ old.history.catalog.classes ++ m → new.regions ≡ old.regions ++ n →
        (k k' : KeptQuery) → IsSameRequest k k' → FitsWorld old k → FitsWorld new k') → All (FitsWorld (world_of_database s.database)) s.live
    still_fit goes-on = λ i d within.
        goes-on (world_of_database is.old) (world_of_database s.database) [] [] (its_world.changes.classes ∙ sym (append-nil is.old.store.classes))
        (its_world.regions ∙ sym (append-nil is.old.regions)) (slice_index_or s.live i d) (slice_index_or s.live i d) (same_head (slice_index_or s.live i d))
        (is.state.stand.fits i d within)

    module _ (write : writes_object c ≡ true) where
      pub objects_before : HaveObjectsBefore id (catalog_of s.database.store) s.live
      objects_before = record {
        old = catalog_of is.old.store;
        before = record {
          objects = its_world.changes.objects;
          adds = adds_at_most s.journal c id is.old s.database is.state.keeps (is.carries.keeps s.journal is.state.keeps) write its_world.place;
        };
        objects = λ i d within. (is.state.stand.current i d within).objects;
      }

      pub changed_looks : most_looks (held s.journal) c
          ≡ write_reads (catalog_of s.database.store) (map kept_queries.registered_query s.live) (clock_of s.database) (class_in s.database.store id)
      changed_looks =
          let looks : List RegisteredQuery → ℕ → ℕ = λ rs class. write_reads (catalog_of s.database.store) rs (clock_of s.database) class in
          write_looks s.journal c write
          ∙ ap (λ t. looks_of_write (known (s.journal ++ (t, c) ∷ [])) (written_name c)) (sym tick_is)
          ∙ ap (λ (k : Known). looks_of_write k (written_name c)) (known_entered (write_plain c write))
          ∙ by_class (looks (map (λ (r : Registration). r.query) (map registration_of s.live))) (written_name c) s.database.store id its_world.place
          ∙ ap (λ rs. looks rs (class_in s.database.store id)) (queries_are s.live)

  -- ---- the entry

  module _ (kept : is_kept c ≡ true) (plain : is_on_queries c ≡ false) where
    changed_right : command_fault (known s.journal) c ≡ None
    changed_right = data_fault (known s.journal) c plain ∙ sym (fault_is_told s.journal is.old c is.state.keeps) ∙ is.carries.accepted

    pub changed_full : (line : List ℕ) (fault : CommandFault) → Admits s.journal c line (Err fault) →
        IsStopped c (held s.journal) (held s.journal) fault
    changed_full line fault admits = stopped_full s.journal c kept line fault changed_right admits

    pub changed_lacks : (new : List Accepted) (fault : CommandFault) → new ≡ s.journal → fault ≡ stops.NoMemory →
        IsStopped c (held s.journal) (held new) fault
    changed_lacks new fault still lacks = stopped_lacking s.journal c kept new fault still lacks (λ other. changed_right)

    module _ (line : List ℕ) (admits : Admits s.journal c line (Ok tt)) where
      pub changed_fault : fault_of (held s.journal) c ≡ None
      changed_fault = accepted s.journal c kept changed_right admits.1

      pub changed_reached : IsPrintable c → length (text_of c) ≤ SESSION_LINE_LIMIT → AreReached [] (s.journal ++ (before, c) ∷ [])
      changed_reached printable short = reached_entry s.journal before c tick_is kept printable short changed_fault is.state.reached

      pub changed_room : passes_limits (length s.journal) (bytes_of s.journal) (length line) ≡ false
      changed_room = ap (λ l. passes_limits (length s.journal) (bytes_of s.journal) (length l)) admits.0 ∙ admits.1

      pub changed_entered : (spells : List ℕ → CommandTree) → spells (text_of c) ≡ c → (new : List Accepted) →
          new ≡ s.journal ++ (before, spells line) ∷ [] → new ≡ s.journal ++ (before, c) ∷ []
      changed_entered spells canonical new entered = entered ∙ ap (λ x. s.journal ++ (before, x) ∷ []) (ap spells admits.0 ∙ canonical)

-- ---- once what was prepared is made

pub prepared_is : (c : CommandTree) (change : Change) (d : Database) (live : List KeptQuery) (f : Option Prepared) → Prepares c change d live f →
    IfSome f (IsPrepared live)
prepared_is c change d live None is = tt
prepared_is c change d live (Some f) is = is.prepared

module _ (laws : Laws) (s : State) (d : Database) (live : List KeptQuery) (c : CommandTree) (change : Change) (is : IsState s.journal s)
    (carries : Carries c s.database d change) (kept : is_kept c ≡ true) (plain : is_on_queries c ≡ false)
    (none : fault_of (held s.journal) c ≡ None) (before : AreKept s.live) (after : AreKept live) (f : Option Prepared)
    (prepares : Prepares c change d s.live f) (settles : Settles f s.live live) where
  all_settled : IsSettled c s.database d s.live live f
  all_settled = settled laws s.journal change s.database d s.live is.keeps is.stand before live after c carries kept plain f prepares settles

  pub changed_state : (n : State) → IsPrintable c → length (text_of c) ≤ SESSION_LINE_LIMIT → n.journal ≡ s.journal ++ (clock_of s.database, c) ∷ [] → n.database ≡ d → n.live ≡ live →
      IsState n.journal n
  changed_state n printable short entered database its =
      entered_state s.journal (clock_of s.database) c s n refl is is.keeps.clock_is kept printable short none entered
      (subst (λ (x : Database). Keeps (s.journal ++ (clock_of s.database, c) ∷ []) x) (sym database) (carries.keeps s.journal is.keeps))
      (ap (map registration_of) its ∙ all_settled.queries ∙ is.queries
      ∙ sym (plain_live (world s.journal) (clock_of s.database) (registered s.journal) c plain))
      (subst (λ (x : Database). Stand x n.live) (sym database) (subst (λ (ks : List KeptQuery). Stand d ks) (sym its) all_settled.stand))

  known_later : known (s.journal ++ (clock s.journal, c) ∷ []) ≡ known_of d s.live
  known_later =
      let keeps : Keeps (s.journal ++ (clock s.journal, c) ∷ []) d =
      subst (λ t. Keeps (s.journal ++ (t, c) ∷ []) d) is.keeps.clock_is (carries.keeps s.journal is.keeps) in
      let same : registered (s.journal ++ (clock s.journal, c) ∷ []) ≡ map registration_of s.live =
      registered_more s.journal (clock s.journal) c ∙ plain_live (world s.journal) (clock s.journal) (registered s.journal) c plain ∙ sym is.queries in
      λ i. record { world = sym keeps.told_is i; now = sym keeps.clock_is i; live = same i }

  pub changed_done : (new : List Accepted) (out out' : List ℕ) → new ≡ s.journal ++ (clock_of s.database, c) ∷ [] →
      out' ≡ out ++ lines_told c (clock_of s.database) d s.live f → IsAccepted c (held s.journal) (held new) out out'
  changed_done new out out' entered said =
      let lines : List ℕ = lines_told c (clock_of s.database) d s.live f in
      accepted_kept s.journal c kept (clock_of s.database) new out out' lines is.keeps.clock_is entered none
      (all_settled.lines ∙ (λ i. kept_lines (known_is s.journal s is i) (sym known_later i) c))
      said

-- ---- an attempt that was stopped

attempt_lacks : (journal : List Accepted) (d : Database) (c : CommandTree) → Keeps journal d → attempts.MayLackMemory d c → is_on_queries c ≡ false →
    is_class c ≡ false → command_fault (known journal) c ≡ None
attempt_lacks journal d (Tree.Class name capacity point attributes) keeps lacks plain other = absurd (cc other)
attempt_lacks journal d (Tree.Tick ticks) keeps lacks plain other = absurd lacks
attempt_lacks journal d c keeps lacks plain other = data_fault (known journal) c plain ∙ sym (fault_is_told journal d c keeps) ∙ lacks

pub attempt_stopped : (journal : List Accepted) (d new : Database) (c : CommandTree) (fault : CommandFault) → Keeps journal d →
    is_kept c ≡ true → is_on_queries c ≡ false → StopsCommand c d new fault → IsStopped c (held journal) (held journal) fault
attempt_stopped journal d new c (stops.Refused r) keeps kept plain is =
    (refused journal c kept r (data_fault (known journal) c plain ∙ sym (fault_is_told journal d c keeps) ∙ is.0), refl)
attempt_stopped journal d new c stops.NoMemory keeps kept plain is =
    stopped_lacking journal c kept journal stops.NoMemory refl refl (attempt_lacks journal d c keeps is.0 plain)

pub attempt_same : (c : CommandTree) (d new : Database) (fault : CommandFault) → StopsCommand c d new fault → new ≡ d
attempt_same c d new (stops.Refused r) is = is.1
attempt_same c d new stops.NoMemory is = is.1
