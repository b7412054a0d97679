-- For this crate and for the crates above: the indexes stay right as the journal gets an entry.
use Rattle.std.proofs.Common.{◌≡◌, ◌⊎◌, ℕ, suc, ◌+◌, ◌<◌, ◌≤◌, Bool, true, false, ◌||◌, ◌&&◌, not, Option, None, Some, List, [], ◌∷◌, ◌++◌, length, get_or, max, refl, sym, ap, subst, ◌∙◌, inl, inr, arith, append-nil}
use Rattle.std.specs.Prelude.{◌==◌, All, drop, fold, if◌then◌else◌, map, option_and_then, option_map, slice_get, slice_index, take, unwrap_or}
use Rattle.std.specs.List.{enumerate_from, filter, filter_map, find, list_any, position}
use Rattle.std.specs.Option.{option_map_or}
use Rattle.std.specs.Str.{bytes_eq}
use Rattle.std.proofs.lemmas.Bool.{cases_Bool, cases_eq, false≢true, or_cases, or_left, or_right}
use Rattle.std.proofs.lemmas.Bool.Decides.{nat_tests}
use Rattle.std.proofs.lemmas.List.{drop-append-le, length-append, length-take, take-append-drop, take-append-le}
use Rattle.std.proofs.lemmas.List.Folds.{list_any-append}
use Rattle.std.proofs.lemmas.List.Quantifiers.{position-Some}
use Rattle.std.proofs.lemmas.List.Sums.{fold-append}
use Rattle.std.proofs.lemmas.Option.{slice_get-get_or, slice_get-map, slice_get_within}
use Rattle.exact.proofs.Lists.{bytes_eq_refl, bytes_eq_true}
use Rattle.exact.proofs.Truths.{both_true, false_from_not}
use Rattle.tick_set.specs.Ticks.{between}
use Rattle.history.specs.Catalog.{Catalog, ObjectInfo, ids_of, name_of}
use Rattle.history.specs.History.{ChangesFrom, cells_at}
use Rattle.history.specs.Write.{Write}
use Rattle.meaning.specs.Value.{cell_in, cell_value}
use Rattle.object_store.specs.Contents.{Contents, StoredObject, catalog_of, history_of, is_named, object_info}
use Rattle.object_store.specs.Sound.{IsSound}
use Rattle.object_store.proofs.Lists.{find_is}
use Rattle.object_store.proofs.NumberLemmas.{found_by_name}
use Rattle.plane.specs.Boxes.{Grid, box_of, number_in_value, slice_first, slice_last, strips_in, strips_of}
use Rattle.plane.specs.Recorded.{last_written, written_tick}
use Rattle.plane_index.specs.Held.{kept_strips}
use Rattle.plane_index.specs.Index.{Index, IsIndexOf, is_fresh}
use Rattle.plane_index.specs.Told.{recorded_by}
use Rattle.command_text.specs.Journal.{Accepted, clock}
use Rattle.command_text.specs.Tree
use Rattle.command_text.specs.Tree.{CommandTree}
use Rattle.line_meaning.specs.Journal.{writes, writes_of}
use Rattle.line_meaning.specs.Looks.{is_written_since, writes_to}
use Rattle.line_meaning.proofs.JournalLemmas.{clock_more, writes_more}
use Rattle.database.specs.declared.change.Change.{Change}
use Rattle.database.specs.declared.change.Change.TheVariants as changes
use Rattle.database.specs.declared.database.Database.{Database}
use Rattle.database.specs.Attempt.{Carries, written_name}
use Rattle.database.specs.Keeping.{clock_of}
use Rattle.database.specs.Written.{WritesOneObject, writes_object}
use Rattle.kept_indexes.specs.declared.indexes.Kept.{Kept}
use Rattle.kept_indexes.specs.Kept.{AreIndexes, AreRight, AreTouched, BeginAtLastWrites, IsFreshIn, IsOf, IsRight, IsTouchedKept, TouchesChange, entries, entry_of}
use Rattle.motion.specs.Timeline.{last_begun}

-- ---- no indexes

pub none_stand : (journal : List Accepted) (s : Contents) → BeginAtLastWrites journal s → AreIndexes journal s []
none_stand journal s begun = record { begun = begun; right = λ k d below. absurd (omega (arith, below)) }

-- ---- what was written since some entry

since_more : (journal : List Accepted) (e : Accepted) (seen : ℕ) (name : List ℕ) → seen ≤ length journal →
    is_written_since journal seen name ≡ true → is_written_since (journal ++ e ∷ []) seen name ≡ true
since_more journal e seen name upto is =
    elim (or_cases (seen == 0) (list_any (λ (x : Accepted). writes_to name x.1) (drop seen journal)) is) [
      | inl never ↦ or_left (seen == 0) (list_any (λ (x : Accepted). writes_to name x.1) (drop seen (journal ++ e ∷ []))) never
      | inr since ↦
          or_right (seen == 0) (list_any (λ (x : Accepted). writes_to name x.1) (drop seen (journal ++ e ∷ [])))
          (ap (list_any (λ (x : Accepted). writes_to name x.1)) (drop-append-le seen journal (e ∷ []) upto)
          ∙ list_any-append (λ (x : Accepted). writes_to name x.1) (drop seen journal) (e ∷ [])
          ∙ or_left (list_any (λ (x : Accepted). writes_to name x.1) (drop seen journal)) (list_any (λ (x : Accepted). writes_to name x.1) (e ∷ [])) since)
    ]

since_now : (journal : List Accepted) (e : Accepted) (seen : ℕ) (name : List ℕ) → seen ≤ length journal → writes_to name e.1 ≡ true →
    is_written_since (journal ++ e ∷ []) seen name ≡ true
since_now journal e seen name upto is =
    or_right (seen == 0) (list_any (λ (x : Accepted). writes_to name x.1) (drop seen (journal ++ e ∷ [])))
    (ap (list_any (λ (x : Accepted). writes_to name x.1)) (drop-append-le seen journal (e ∷ []) upto)
    ∙ list_any-append (λ (x : Accepted). writes_to name x.1) (drop seen journal) (e ∷ [])
    ∙ or_right (list_any (λ (x : Accepted). writes_to name x.1) (drop seen journal)) (list_any (λ (x : Accepted). writes_to name x.1) (e ∷ []))
    (or_left (writes_to name e.1) false is))

-- ---- an entry that writes to no object

clock_upto : (journal : List Accepted) (e : Accepted) → clock journal ≤ clock (journal ++ e ∷ [])
clock_upto journal (tick, c) = let more = clock_more journal tick c in omega (arith, more)

longer : (journal : List Accepted) (e : Accepted) → length journal ≤ length (journal ++ e ∷ [])
longer journal e = omega (arith, length-append journal (e ∷ []))

module _ (journal : List Accepted) (e : Accepted) (s n : Contents) (same : n.objects ≡ s.objects) where
  same_catalog : (catalog_of n).objects ≡ (catalog_of s).objects
  same_catalog = ap (map object_info) same

  right_on : (k : Kept) → IsRight journal s k → IsRight (journal ++ e ∷ []) n k
  right_on k is =
      let more = clock_upto journal e in
      let longer_is = longer journal e in
      let begun = is.begun in
      let seen = is.seen in
      record {
        begun = omega (arith, more, begun);
        seen = omega (arith, longer_is, seen);
        of_store = record {
          seen = is.of_store.seen
              ∙ (λ i. take (length k.index.ids) (ids_of (record { classes = []; objects = sym same_catalog i }) k.index.grid.class));
          right = λ place slice fresh under.
              is.of_store.right place slice fresh under
              ∙ (λ i. kept_strips (strips_in (recorded_by (record { classes = []; objects = sym same i; last_tick = 0 })) k.index.grid (slice_index k.index.ids place) slice));
        };
        known = λ id its.
            elim (is.known id (ap (λ (os : List StoredObject). option_map (λ (o : StoredObject). o.class) (slice_get os id)) (sym same) ∙ its)) [
              | inl fresh ↦ inl fresh
              | inr since ↦
                  inr (ap (λ (os : List ObjectInfo). is_written_since (journal ++ e ∷ []) k.seen (name_of (record { classes = []; objects = os }) id)) same_catalog
                  ∙ since_more journal e k.seen (name_of (catalog_of s) id) is.seen since)
            ];
      }

  pub others_stand : (kept : List Kept) → ((name : List ℕ) → last_written (writes (journal ++ e ∷ [])) name ≡ last_written (writes journal) name) →
      AreIndexes journal s kept → AreIndexes (journal ++ e ∷ []) n kept
  others_stand kept unwritten is = record {
    begun = λ id below.
        let there : id < length s.objects = (let count = ap length same in omega (arith, count, below)) in
        ap (λ (os : List StoredObject). (recorded_by (record { classes = []; objects = os; last_tick = 0 })).begun id) same
        ∙ is.begun id there
        ∙ sym (unwritten (name_of (catalog_of s) id))
        ∙ ap (λ (os : List ObjectInfo). last_written (writes (journal ++ e ∷ [])) (name_of (record { classes = []; objects = os }) id)) (sym same_catalog);
    right = λ place d below. right_on (get_or kept place d) (is.right place d below);
  }

no_ticks : (name : List ℕ) (now last : ℕ) (c : CommandTree) → writes_object c ≡ false →
    fold (λ (tick : ℕ) (w : Write). unwrap_or (written_tick name w) tick) last (writes_of now c) ≡ last
no_ticks name now last (Tree.Insert class o place sets) other = absurd (false≢true (sym other))
no_ticks name now last (Tree.Update o place sets) other = absurd (false≢true (sym other))
no_ticks name now last (Tree.Remove o) other = absurd (false≢true (sym other))
no_ticks name now last c other = refl

written_more : (journal : List Accepted) (now : ℕ) (c : CommandTree) (name : List ℕ) →
    last_written (writes (journal ++ (now, c) ∷ [])) name
    ≡ fold (λ (tick : ℕ) (w : Write). unwrap_or (written_tick name w) tick) (last_written (writes journal) name) (writes_of now c)
written_more journal now c name =
    ap (λ (ws : List Write). last_written ws name) (writes_more journal now c)
    ∙ fold-append (λ (tick : ℕ) (w : Write). unwrap_or (written_tick name w) tick) 0 (writes journal) (writes_of now c)

pub unwritten : (journal : List Accepted) (now : ℕ) (c : CommandTree) → writes_object c ≡ false → (name : List ℕ) →
    last_written (writes (journal ++ (now, c) ∷ [])) name ≡ last_written (writes journal) name
unwritten journal now c other name = written_more journal now c name ∙ no_ticks name now (last_written (writes journal) name) c other

-- ---- a write to an object, which is touched

writes_named : (c : CommandTree) (name : List ℕ) → writes_object c ≡ true → bytes_eq name (written_name c) ≡ true → writes_to name c ≡ true
writes_named (Tree.Insert class o place sets) name write same = same
writes_named (Tree.Update o place sets) name write same = same
writes_named (Tree.Remove o) name write same = same
writes_named c name write same = absurd (false≢true write)

tick_now : (c : CommandTree) (name : List ℕ) (now last : ℕ) → writes_object c ≡ true → bytes_eq name (written_name c) ≡ true →
    fold (λ (tick : ℕ) (w : Write). unwrap_or (written_tick name w) tick) last (writes_of now c) ≡ now
tick_now (Tree.Insert class o place sets) name now last write same = ap (λ b. unwrap_or (if b then Some now else None) last) same
tick_now (Tree.Update o place sets) name now last write same = ap (λ b. unwrap_or (if b then Some now else None) last) same
tick_now (Tree.Remove o) name now last write same = ap (λ b. unwrap_or (if b then Some now else None) last) same
tick_now c name now last write same = absurd (false≢true write)

tick_before : (c : CommandTree) (name : List ℕ) (now last : ℕ) → bytes_eq name (written_name c) ≡ false →
    fold (λ (tick : ℕ) (w : Write). unwrap_or (written_tick name w) tick) last (writes_of now c) ≡ last
tick_before (Tree.Insert class o place sets) name now last other = ap (λ b. unwrap_or (if b then Some now else None) last) other
tick_before (Tree.Update o place sets) name now last other = ap (λ b. unwrap_or (if b then Some now else None) last) other
tick_before (Tree.Remove o) name now last other = ap (λ b. unwrap_or (if b then Some now else None) last) other
tick_before c name now last other = refl

-- the name of an object by its number
name_at : (s : Contents) (id : ℕ) (o : StoredObject) → slice_get s.objects id ≡ Some o → name_of (catalog_of s) id ≡ o.name
name_at s id o there =
    ap (λ (i : Option ObjectInfo). option_map_or (λ i. i.name) i []) (slice_get-map object_info s.objects id ∙ ap (option_map object_info) there)

-- ---- the objects of a class, with one more perhaps

abbrev numbers : ℕ → ℕ → List ObjectInfo → List ℕ
numbers class first objects = map (λ (e : ℕ × ObjectInfo). e.0) (filter (λ (e : ℕ × ObjectInfo). e.1.class == class) (enumerate_from first objects))

split_if : (its : Bool) (first : ℕ) (x : ObjectInfo) (xs all more : List (ℕ × ObjectInfo)) →
    map (λ (e : ℕ × ObjectInfo). e.0) all ≡ map (λ (e : ℕ × ObjectInfo). e.0) xs ++ map (λ (e : ℕ × ObjectInfo). e.0) more →
    map (λ (e : ℕ × ObjectInfo). e.0) (if its then (first, x) ∷ all else all)
    ≡ map (λ (e : ℕ × ObjectInfo). e.0) (if its then (first, x) ∷ xs else xs) ++ map (λ (e : ℕ × ObjectInfo). e.0) more
split_if true first x xs all more same = ap (λ (ids : List ℕ). first ∷ ids) same
split_if false first x xs all more same = same

numbers_split : (class first : ℕ) (xs ys : List ObjectInfo) →
    numbers class first (xs ++ ys) ≡ numbers class first xs ++ numbers class (first + length xs) ys
numbers_split class first [] ys = ap (λ n. numbers class n ys) (omega arith)
numbers_split class first (x ∷ xs) ys =
    let later : numbers class (first + length (x ∷ xs)) ys ≡ numbers class (first + 1 + length xs) ys = ap (λ n. numbers class n ys) (omega arith) in
    split_if (x.class == class) first x
    (filter (λ (e : ℕ × ObjectInfo). e.1.class == class) (enumerate_from (first + 1) xs))
    (filter (λ (e : ℕ × ObjectInfo). e.1.class == class) (enumerate_from (first + 1) (xs ++ ys)))
    (filter (λ (e : ℕ × ObjectInfo). e.1.class == class) (enumerate_from (first + 1 + length xs) ys))
    (numbers_split class (first + 1) xs ys)
    ∙ ap (λ (ids : List ℕ). numbers class first (x ∷ xs) ++ ids) (sym later)

-- those of the first objects come first
seen_still : (class : ℕ) (old new : List ObjectInfo) (ids : List ℕ) → take (length old) new ≡ old →
    ids ≡ take (length ids) (numbers class 0 old) → ids ≡ take (length ids) (numbers class 0 new)
seen_still class old new ids first seen =
    let count = ap length seen ∙ length-take (length ids) (numbers class 0 old) in
    let upto : length ids ≤ length (numbers class 0 old) = omega (arith, count) in
    let all : old ++ drop (length old) new ≡ new = ap (λ (os : List ObjectInfo). os ++ drop (length old) new) (sym first) ∙ take-append-drop (length old) new in
    seen
    ∙ sym (take-append-le (length ids) (numbers class 0 old) (numbers class (0 + length old) (drop (length old) new)) upto)
    ∙ ap (take (length ids)) (sym (numbers_split class 0 old (drop (length old) new)) ∙ ap (numbers class 0) all)

module _ (journal : List Accepted) (c : CommandTree) (now id : ℕ) (s n : Contents) (write : writes_object c ≡ true) (sound : IsSound n)
    (changed : ChangesFrom id now (history_of s) (history_of n)) (at : position (is_named (written_name c)) n.objects ≡ Some id)
    (w : WritesOneObject id now s.objects n.objects) where
  abbrev none : StoredObject
  none = record { name = []; class = 0; epochs = [] }

  abbrev more : List Accepted
  more = journal ++ (now, c) ∷ []

  id_is : slice_get n.objects id ≡ Some (get_or n.objects id none)
  id_is = slice_get-get_or n.objects id none (position-Some (is_named (written_name c)) n.objects id none at).0

  named : bytes_eq (name_of (catalog_of n) id) (written_name c) ≡ true
  named =
      ap (λ name. bytes_eq name (written_name c))
      (name_at n id (get_or n.objects id none) id_is
      ∙ sym (bytes_eq_true (written_name c) (get_or n.objects id none).name (position-Some (is_named (written_name c)) n.objects id none at).1))
      ∙ bytes_eq_refl (written_name c)

  -- what is so of another object
  other_if : (i : ℕ) → bytes_eq (name_of (catalog_of n) i) (written_name c) ≡ false → (i == id) ≡ false
  other_if i unnamed =
      elim (cases_eq i id) [
        | inl same ↦ absurd (false≢true (sym unnamed ∙ ap (λ j. bytes_eq (name_of (catalog_of n) j) (written_name c)) same ∙ named))
        | inr apart ↦ grind (arith, nat_tests, apart)
      ]

  same_name : (i : ℕ) → (i == id) ≡ false → name_of (catalog_of n) i ≡ name_of (catalog_of s) i
  same_name i other =
      ap (λ (o : Option ObjectInfo). option_map_or (λ x. x.name) o [])
      (slice_get-map object_info n.objects i ∙ ap (option_map object_info) (w.others i other) ∙ sym (slice_get-map object_info s.objects i))

  same_begun : (i : ℕ) → (i == id) ≡ false → (recorded_by n).begun i ≡ (recorded_by s).begun i
  same_begun i other = ap (λ (o : Option StoredObject). option_map_or (λ x. last_begun x.epochs) o 0) (w.others i other)

  same_strips : (g : Grid) (i slice : ℕ) → (i == id) ≡ false → strips_in (recorded_by n) g i slice ≡ strips_in (recorded_by s) g i slice
  same_strips g i slice other = λ j.
      option_map (strips_of g.width)
      (box_of (filter_map (λ t. option_and_then (λ cell. number_in_value (cell_value cell t)) (cell_in (changed.others i t other j) g.attribute))
      (between (max (slice_first g slice) (same_begun i other j)) (slice_last g slice + 1))))

  -- the last states begin at the last writes
  begun_named : (i : ℕ) → i < length n.objects → bytes_eq (name_of (catalog_of n) i) (written_name c) ≡ true → (recorded_by n).begun i ≡ now
  begun_named i below is =
      let o : StoredObject = get_or n.objects i none in
      let there : slice_get n.objects i ≡ Some o = slice_get-get_or n.objects i none below in
      let name : o.name ≡ written_name c = sym (name_at n i o there) ∙ bytes_eq_true (name_of (catalog_of n) i) (written_name c) is in
      let found : slice_get n.objects id ≡ Some o =
      sym (find_is (is_named (written_name c)) n.objects ∙ ap (option_and_then (slice_get n.objects)) at)
      ∙ ap (λ name. find (is_named name) n.objects) (sym name)
      ∙ found_by_name n.objects i o sound.objects.names there in
      ap (λ (x : Option StoredObject). option_map_or (λ x. last_begun x.epochs) x 0) (there ∙ sym found) ∙ w.begins

  still_begun : BeginAtLastWrites journal s → BeginAtLastWrites more n
  still_begun begun i below =
      elim (cases_Bool (bytes_eq (name_of (catalog_of n) i) (written_name c))) [
        | inl its ↦
            begun_named i below its
            ∙ sym (written_more journal now c (name_of (catalog_of n) i)
            ∙ tick_now c (name_of (catalog_of n) i) now (last_written (writes journal) (name_of (catalog_of n) i)) write its)
        | inr unnamed ↦
            let other = other_if i unnamed in
            let o : StoredObject = get_or n.objects i none in
            let there : slice_get s.objects i ≡ Some o = sym (w.others i other) ∙ slice_get-get_or n.objects i none below in
            same_begun i other
            ∙ begun i (slice_get_within s.objects i o there)
            ∙ ap (last_written (writes journal)) (sym (same_name i other))
            ∙ sym (written_more journal now c (name_of (catalog_of n) i)
            ∙ tick_before c (name_of (catalog_of n) i) now (last_written (writes journal) (name_of (catalog_of n) i)) unnamed)
      ]

  still_right : (k t : Kept) → IsTouchedKept id k t → IsRight journal s k → IsRight more n t
  still_right k t touched is =
      let grid = touched.index.grid in
      let ids = touched.index.ids in
      let later = clock_upto journal (now, c) in
      let longer_is = longer journal (now, c) in
      let from = ap (λ (g : Grid). g.from) grid in
      let begun = is.begun in
      let seen = is.seen in
      let same_seen = touched.seen in
      record {
        begun = omega (arith, later, begun, from);
        seen = omega (arith, longer_is, seen, same_seen);
        of_store = record {
          seen =
              ids
              ∙ seen_still k.index.grid.class (catalog_of s).objects (catalog_of n).objects k.index.ids changed.objects is.of_store.seen
              ∙ (λ i. take (length (sym ids i)) (ids_of (catalog_of n) (sym grid i).class));
          right = λ place slice fresh under.
              let parts = both_true (is_fresh k.index place) (not (slice_index k.index.ids place == id)) (sym (touched.index.fresh place) ∙ fresh) in
              touched.index.strips place slice fresh under
              ∙ is.of_store.right place slice parts.0 under
              ∙ ap kept_strips (sym (same_strips k.index.grid (slice_index k.index.ids place) slice (false_from_not (slice_index k.index.ids place == id) parts.1)))
              ∙ (λ i. kept_strips (strips_in (recorded_by n) (sym grid i) (slice_index (sym ids i) place) slice));
        };
        known = λ i its.
            elim (cases_Bool (i == id)) [
              | inl same ↦
                  let e : i ≡ id = grind (arith, nat_tests, same) in
                  inr (since_now journal (now, c) t.seen (name_of (catalog_of n) i) (omega (arith, seen, same_seen))
                  (writes_named c (name_of (catalog_of n) i) write (ap (λ j. bytes_eq (name_of (catalog_of n) j) (written_name c)) e ∙ named)))
              | inr other ↦
                  elim (is.known i (ap (option_map (λ (o : StoredObject). o.class)) (sym (w.others i other)) ∙ its ∙ ap (λ (g : Grid). Some g.class) grid)) [
                    | inl f ↦
                        inl (record {
                          place = f.place;
                          below = let count = ap length ids in let below = f.below in omega (arith, count, below);
                          is = ap (λ xs. slice_index xs f.place) ids ∙ f.is;
                          fresh = touched.index.fresh f.place ∙ (λ j. f.fresh j && not (f.is j == id)) ∙ ap not other;
                        })
                    | inr since ↦
                        inr (ap (λ name. is_written_since more t.seen name) (same_name i other)
                        ∙ ap (λ m. is_written_since more m (name_of (catalog_of s) i)) same_seen
                        ∙ since_more journal (now, c) k.seen (name_of (catalog_of s) i) seen since)
                  ]
            ];
      }

  pub touched_stand : (kept touched : List Kept) → AreTouched id kept touched → AreIndexes journal s kept → AreIndexes more n touched
  touched_stand kept touched are is = record {
    begun = still_begun is.begun;
    right = λ place d below.
        let count = are.count in
        let there : place < length kept = omega (arith, count, below) in
        still_right (get_or kept place d) (get_or touched place d) (are.each place d there) (is.right place d there);
  }

-- what is held of the indexes stays
same_entry : (id : ℕ) (k t : Kept) → IsTouchedKept id k t → entry_of t ≡ entry_of k
same_entry id k t touched = λ i. record { grid = touched.index.grid i; seen = touched.seen i }

pub touched_entries : (id : ℕ) (kept touched : List Kept) → AreTouched id kept touched → entries touched ≡ entries kept
touched_entries id [] [] are = refl
touched_entries id [] (t ∷ touched) are = absurd (let count = are.count in omega (arith, count))
touched_entries id (k ∷ kept) [] are = absurd (let count = are.count in omega (arith, count))
touched_entries id (k ∷ kept) (t ∷ touched) are = λ i.
    same_entry id k t (are.each 0 k (omega arith)) i
    ∷ touched_entries id kept touched
    (record {
      count = (let count = are.count in omega (arith, count));
      each = λ place d below. are.each (suc place) d (omega (arith, below));
    }) i

-- ---- a command that changed the database

pub changed_entries : (change : Change) (s : Contents) (kept touched : List Kept) → TouchesChange change s kept touched → entries touched ≡ entries kept
changed_entries (changes.Object done) s kept touched are = touched_entries done.id kept touched are.0
changed_entries (changes.Clock ticks) s kept touched are = ap entries are
changed_entries changes.Class s kept touched are = ap entries are
changed_entries changes.Region s kept touched are = ap entries are

module _ (journal : List Accepted) (kept touched : List Kept) where
  abbrev Goes : CommandTree → Database → Database → Type 0
  Goes c d e = AreIndexes journal d.store kept → AreIndexes (journal ++ (clock_of d, c) ∷ []) e.store touched

  still : (c : CommandTree) (d e : Database) → e.store.objects ≡ d.store.objects → writes_object c ≡ false → touched ≡ kept → Goes c d e
  still c d e same other stays is =
      subst (λ (ks : List Kept). AreIndexes (journal ++ (clock_of d, c) ∷ []) e.store ks) (sym stays)
      (others_stand journal (clock_of d, c) d.store e.store same kept (unwritten journal (clock_of d) c other) is)

  pub changed_stand : (c : CommandTree) (change : Change) (d e : Database) → Carries c d e change → TouchesChange change e.store kept touched → Goes c d e
  changed_stand c (changes.Object done) d e carries are is =
      touched_stand journal c (clock_of d) done.id d.store e.store carries.writes.1 are.1 carries.changes.0 carries.changes.2 carries.writes.0 kept touched are.0 is
  changed_stand c (changes.Clock ticks) d e carries are is =
      still c d e (ap (λ (x : Database). x.store.objects) carries.undoes.before) carries.writes are is
  changed_stand (Tree.Class name capacity point attributes) changes.Class d e carries are is =
      still (Tree.Class name capacity point attributes) d e (ap (λ (x : Contents). x.objects) carries.changes.0) refl are is
  changed_stand c changes.Class d e carries are is = absurd carries.changes
  changed_stand c changes.Region d e carries are is = still c d e (ap (λ (x : Contents). x.objects) carries.changes.0) carries.writes are is

-- ---- a command that leaves the database

pub entered_stand : (journal : List Accepted) (now : ℕ) (c : CommandTree) (s : Contents) (kept : List Kept) → writes_object c ≡ false →
    AreIndexes journal s kept → AreIndexes (journal ++ (now, c) ∷ []) s kept
entered_stand journal now c s kept other is = others_stand journal (now, c) s s refl kept (unwritten journal now c other) is
