-- The registered queries once a change of the database is made and what was prepared of it too.
use Rattle.std.proofs.Common.{◌≡◌, ℕ, ◌+◌, ◌≤◌, true, false, Option, None, Some, List, [], ◌∷◌, ◌++◌, map, refl, sym, ap, ◌∙◌, subst, append-nil, arith}
use Rattle.std.specs.Prelude.{All, slice_index_or}
use Rattle.std.proofs.lemmas.List.Elements.{All-cons, All-head, All-nil, All-tail}
use Rattle.tick_set.specs.Runs.{spans_have}
use Rattle.tick_set.specs.declared.spans.Span.{Span}
use Rattle.kept_rows.specs.declared.change.Change as row_changes
use Rattle.kept_rows.specs.Changes.{rows_after}
use Rattle.geometry.specs.Region.{Region}
use Rattle.history.specs.Catalog.{ClassInfo}
use Rattle.history.specs.History.{ChangesFrom, History}
use Rattle.history.specs.World.{World}
use Rattle.meaning.specs.Agreement.{world_with}
use Rattle.meaning.specs.Fits.{FitsItsClasses}
use Rattle.meaning.specs.Registered.{changes_of_tick, changes_of_write}
use Rattle.object_store.specs.Contents.{catalog_of, history_of}
use Rattle.command_text.specs.Journal.{Accepted, is_kept, ticks_of}
use Rattle.command_text.specs.Tree
use Rattle.command_text.specs.Tree.{CommandTree}
use Rattle.line_meaning.specs.Answering.{kept_lines}
use Rattle.line_meaning.specs.Changes.{write_lines}
use Rattle.line_meaning.specs.Role.{is_on_queries}
use Rattle.live_queries.specs.declared.fresh.Renewal.{Renewal}
use Rattle.live_queries.specs.Asked.{FitsWorld}
use Rattle.live_queries.specs.Current.{AreCurrent, IsCurrentFor, row_at}
use Rattle.live_queries.specs.Kept.{AreKept, IsKeptQuery, KeptQuery, registered_query}
use Rattle.live_queries.specs.Prepared.{AreFreshFor, AreMade, IsFreshFor, IsMade, Prepared}
use Rattle.live_queries.specs.Renewed.{AddsAtMost, ChangesNoObject, IsRenewed, IsSameRequest}
use Rattle.live_queries.specs.Told.{changes_of, moves_of, passings_of, told_changes}
use Rattle.live_queries.proofs.SpreadLemmas.{same_columns}
use Rattle.database.specs.declared.change.Change.{Change}
use Rattle.database.specs.declared.database.Database.{Database}
use Rattle.database.specs.Attempt.{Carries}
use Rattle.database.specs.Keeping.{Keeps, clock_of, world_of_database}
use Rattle.database.specs.Written.{writes_object}
use Rattle.registry.specs.Moves.{told_moves_text}
use Rattle.registry.specs.Standing.{Stand, known_of, registration_of}
use Rattle.session.specs.Followed.{IsRenewal, Prepares, Settles, lines_told, object_of_change}
use Rattle.session.proofs.ChangeLemmas.{WritesWorld, adds_at_most, adds_to_world, clock_after, same_world, write_ticks, write_unmade, writes_world}
use Rattle.session.proofs.LineLemmas.{lines_of_write, moves_are, passings_are, same_lines}

-- what the laws of registered queries say
pub record Laws : Type 0 where
  pub goes_on : (old new : World) (m : List ClassInfo) (n : List Region)
      → new.history.catalog.classes ≡ old.history.catalog.classes ++ m → new.regions ≡ old.regions ++ n
      → (k k' : KeptQuery) → IsSameRequest k k' → FitsWorld old k → FitsWorld new k'
  pub stays : (old new : World) → ChangesNoObject old new → (before now : ℕ) → before ≤ now
      → (k : KeptQuery) → FitsItsClasses old k.query
      → IsCurrentFor old before k → IsCurrentFor new now k
  pub commits : (id now class : ℕ) (old new : History) → ChangesFrom id now old new → AddsAtMost id old.catalog new.catalog
      → (regions : List Region) (rs : List Renewal) (live live' : List KeptQuery) → All IsKeptQuery live → All IsKeptQuery live'
      → AreCurrent (world_with old regions) now live → AreFreshFor (world_with new regions) id class now live rs
      → AreMade id class rs live live' → AreCurrent (world_with new regions) now live'
  pub renews : (w : World) (object class now : ℕ) (r : Renewal) (k k' : KeptQuery)
      → IsFreshFor w object class now k r → IsMade object class r k k' → IsRenewed w object now k k'
  pub tells : (id now : ℕ) (old new : History) → ChangesFrom id now old new → AddsAtMost id old.catalog new.catalog
      → (regions : List Region) (k k' : KeptQuery) → IsKeptQuery k → IsKeptQuery k'
      → IsCurrentFor (world_with old regions) now k → IsRenewed (world_with new regions) id now k k'
      → (changes : List (row_changes.Change (List Span))) → ((c t : ℕ) → row_at k' c t ≡ rows_after spans_have changes (row_at k) c t)
      → k.entry ≤ now
      → moves_of id now k changes
      ≡ told_changes k.name (changes_of_write (world_with old regions) (world_with new regions) (registered_query k) now)
  pub passed : (w : World) (k : KeptQuery) → IsKeptQuery k → (before now : ℕ) → IsCurrentFor w before k
      → k.entry ≤ before → before ≤ now
      → passings_of before now k ≡ told_changes k.name (changes_of_tick w (registered_query k) before now)

-- ---- queries that stay as they are

pub same_head : (k : KeptQuery) → IsSameRequest k k
same_head k = record { name = refl; kind = refl; query = refl; entry = refl; expiry = refl; columns = same_columns k.columns }

-- ---- queries of which what was prepared was made

module _ (id class : ℕ) where
  made_registrations : (rs : List Renewal) (ks ks' : List KeptQuery) → AreMade id class rs ks ks' → map registration_of ks' ≡ map registration_of ks
  made_registrations [] [] [] made = refl
  made_registrations [] [] (k' ∷ ks') made = absurd made
  made_registrations [] (k ∷ ks) ks' made = absurd made
  made_registrations (r ∷ rs) [] ks' made = absurd made
  made_registrations (r ∷ rs) (k ∷ ks) [] made = absurd made
  made_registrations (r ∷ rs) (k ∷ ks) (k' ∷ ks') made =
      let h : IsSameRequest k k' = made.0.head in
      λ i. record {
        name = h.name i;
        query = record { kind = h.kind i; query = h.query i; entry = h.entry i; expiry = h.expiry i };
      } ∷ made_registrations rs ks ks' made.1 i

  -- what the heads of queries tell stays
  made_all : (P Q : KeptQuery → Type 0) → ((k k' : KeptQuery) → IsSameRequest k k' → P k → Q k') → (rs : List Renewal) (ks ks' : List KeptQuery) →
      AreMade id class rs ks ks' → All P ks → All Q ks'
  made_all P Q stays [] [] [] made all = All-nil Q
  made_all P Q stays [] [] (k' ∷ ks') made all = absurd made
  made_all P Q stays [] (k ∷ ks) ks' made all = absurd made
  made_all P Q stays (r ∷ rs) [] ks' made all = absurd made
  made_all P Q stays (r ∷ rs) (k ∷ ks) [] made all = absurd made
  made_all P Q stays (r ∷ rs) (k ∷ ks) (k' ∷ ks') made all =
      All-cons Q k' ks' (stays k k' made.0.head (All-head P k ks all)) (made_all P Q stays rs ks ks' made.1 (All-tail P k ks all))

-- ---- both

-- the queries stand in the new database, are the same, and the lines are those of the command
pub record IsSettled (c : CommandTree) (old new : Database) (live live' : List KeptQuery) (f : Option Prepared) : Type 0 where
  pub stand : Stand new live'
  pub queries : map registration_of live' ≡ map registration_of live
  pub lines : lines_told c (clock_of old) new live f ≡ kept_lines (known_of old live) (known_of new live) c

module _ (laws : Laws) (journal : List Accepted) (change : Change) (old new : Database) (live : List KeptQuery) (keeps : Keeps journal old)
    (stand : Stand old live) (before : AreKept live) where
  unwritten_lines : (c : CommandTree) → Carries c old new change → is_kept c ≡ true → is_on_queries c ≡ false →
      (writes_object c ≡ true → object_of_change change ≡ None) →
      lines_told c (clock_of old) new live None ≡ kept_lines (known_of old live) (known_of new live) c
  unwritten_lines (Tree.Tick ticks) carries kept plain none =
      let rows_after = carries.keeps journal keeps in
      let same : world_of_database new ≡ world_of_database old = same_world journal (clock_of old) (Tree.Tick ticks) old new keeps rows_after refl refl in
      let later : clock_of new ≡ clock_of old + ticks = clock_after journal (clock_of old) (Tree.Tick ticks) old new keeps rows_after in
      let upto : clock_of old ≤ clock_of new = omega (arith, later) in
      passings_are (world_of_database old) (catalog_of new.store) (ap (λ (w : World). w.history.catalog) same) (clock_of old) (clock_of new) upto
      (λ k is current entered. laws.passed (world_of_database old) k is (clock_of old) (clock_of new) current entered upto)
      live before.each stand.current stand.entered
  unwritten_lines (Tree.Insert class name place sets) carries kept plain none =
      sym (same_lines (world_of_database old) (world_of_database new) (clock_of old) (map registration_of live)
      (write_unmade (Tree.Insert class name place sets) change old new refl (none refl) carries.changes))
  unwritten_lines (Tree.Update name place sets) carries kept plain none =
      sym (same_lines (world_of_database old) (world_of_database new) (clock_of old) (map registration_of live)
      (write_unmade (Tree.Update name place sets) change old new refl (none refl) carries.changes))
  unwritten_lines (Tree.Remove name) carries kept plain none =
      sym (same_lines (world_of_database old) (world_of_database new) (clock_of old) (map registration_of live)
      (write_unmade (Tree.Remove name) change old new refl (none refl) carries.changes))
  unwritten_lines (Tree.Class name capacity point attributes) carries kept plain none = refl
  unwritten_lines (Tree.Region name points) carries kept plain none = refl
  unwritten_lines (Tree.Watch name span q) carries kept plain none = absurd (cc plain)
  unwritten_lines (Tree.Keep name span q) carries kept plain none = absurd (cc plain)
  unwritten_lines (Tree.Drop name) carries kept plain none = absurd (cc plain)
  unwritten_lines c carries kept plain none = absurd (cc kept)

  unwritten_stand : (c : CommandTree) → Carries c old new change → is_kept c ≡ true → is_on_queries c ≡ false →
      (writes_object c ≡ true → object_of_change change ≡ None) → Stand new live
  unwritten_stand c carries kept plain none =
      let adds = adds_to_world journal c change old new keeps carries kept plain none in
      let later = clock_after journal (clock_of old) c old new keeps (carries.keeps journal keeps) in
      record {
        current = λ i d within. laws.stays (world_of_database old) (world_of_database new) adds.changes (clock_of old) (clock_of new) (omega (arith, later)) (slice_index_or live i d)
            (stand.fits i d within).fits (stand.current i d within);
        fits = λ i d within. laws.goes_on (world_of_database old) (world_of_database new) adds.classes adds.changes.more adds.all_classes
            adds.changes.regions (slice_index_or live i d) (slice_index_or live i d) (same_head (slice_index_or live i d)) (stand.fits i d within);
        entered = λ i d within. let e : (slice_index_or live i d).entry ≤ clock_of old = stand.entered i d within in omega (arith, e, later);
      }

  module _ (live' : List KeptQuery) (kept' : AreKept live') (c : CommandTree) (carries : Carries c old new change) where
    written : (f : Prepared) → IsRenewal c change new live f → AreMade f.object f.class f.renewals live live' → IsSettled c old new live live' (Some f)
    written f is made =
        let w : WritesWorld c f.object old new = writes_world c change f.object old new is.object carries.changes in
        let adds = adds_at_most journal c f.object old new keeps (carries.keeps journal keeps) is.write w.place in
        let still : clock_of new ≡ clock_of old =
        let later : clock_of new ≡ clock_of old + ticks_of c = clock_after journal (clock_of old) c old new keeps (carries.keeps journal keeps) in
        let none : ticks_of c ≡ 0 = write_ticks c is.write in
        omega (arith, later, none) in
        let here : World = world_with (history_of new.store) old.regions in
        let same : world_of_database new ≡ here = λ i. record { history = history_of new.store; regions = w.regions i } in
        let fresh : AreFreshFor here f.object f.class (clock_of old) live f.renewals =
        subst (λ (v : World). AreFreshFor v f.object f.class (clock_of old) live f.renewals) same
        (subst (λ n. AreFreshFor (world_of_database new) f.object f.class n live f.renewals) still is.fresh) in
        record {
          stand = record {
            current = subst (λ (v : World). AreCurrent v (clock_of new) live') (sym same) (subst (λ n. AreCurrent here n live') (sym still)
                (laws.commits f.object (clock_of old) f.class (history_of old.store) (history_of new.store) w.changes adds old.regions f.renewals
                live live' before.each kept'.each stand.current fresh made));
            fits = made_all f.object f.class (FitsWorld (world_of_database old)) (FitsWorld (world_of_database new))
                (laws.goes_on (world_of_database old) (world_of_database new) [] [] (w.changes.classes ∙ sym (append-nil old.store.classes))
                (w.regions ∙ sym (append-nil old.regions)))
                f.renewals live live' made stand.fits;
            entered = made_all f.object f.class (λ (k : KeptQuery). k.entry ≤ clock_of old) (λ (k : KeptQuery). k.entry ≤ clock_of new)
                (λ k k' head entered. let e : k'.entry ≡ k.entry = head.entry in omega (arith, e, entered, still))
                f.renewals live live' made stand.entered;
          };
          queries = made_registrations f.object f.class f.renewals live live' made;
          lines = ap (λ n. told_moves_text (catalog_of new.store) (changes_of f.object n live f.renewals)) still
              ∙ moves_are (world_of_database old) here f.object f.class (clock_of old)
              (λ r k k' fresh' made'. laws.renews here f.object f.class (clock_of old) r k k' fresh' made')
              (λ k k' kept kept'' current renewed changes rows entered. laws.tells f.object (clock_of old) (history_of old.store) (history_of new.store)
              w.changes adds old.regions k k' kept kept'' current renewed changes rows entered)
              f.renewals live live' before.each kept'.each stand.current stand.entered fresh made
              ∙ ap (λ (v : World). write_lines (world_of_database old) v (clock_of old) (map registration_of live)) (sym same)
              ∙ sym (lines_of_write (known_of old live) (known_of new live) c is.write);
        }

    pub settled : is_kept c ≡ true → is_on_queries c ≡ false → (f : Option Prepared) → Prepares c change new live f → Settles f live live' →
        IsSettled c old new live live' f
    settled kept plain None none same = record {
      stand = subst (λ (ks : List KeptQuery). Stand new ks) (sym same) (unwritten_stand c carries kept plain none);
      queries = ap (map registration_of) same;
      lines = unwritten_lines c carries kept plain none;
    }
    settled kept plain (Some f) is made = written f is made
