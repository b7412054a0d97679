-- For this crate and for the crates above: what the tables of a store keep over a write, and how it is taken back.
use Rattle.std.proofs.Common.{◌≡◌, ◌≢◌, ℕ, zero, suc, ◌+◌, ◌-◌, ◌<◌, ◌≤◌, ◌==◌, ◌^◌, Bool, true, false, cond, Option, None, Some, List, [], ◌∷◌, ◌++◌, map, length, take, set, get_or, refl, sym, ap, subst, ◌∙◌, inl, inr, arith, if◌then◌else◌, length-append, length-take, append-nil}
use Rattle.std.specs.Prelude.{All, IfSome, IsSomeAnd, nat_lt, slice_get, option_and_then, option_map}
use Rattle.std.specs.List.{find, position, position_or_len}
use Rattle.std.specs.Option.{option_map_or}
use Rattle.std.specs.Str.{bytes_eq}
use Rattle.std.proofs.lemmas.Bool.{cases_lt}
use Rattle.std.proofs.lemmas.Bool.Decides.{nat_tests}
use Rattle.std.proofs.Math.ListN.{get_or-append}
use Rattle.std.proofs.Math.Seq.{get_or-append_seam}
use Rattle.std.proofs.lemmas.List.{length-map, get_or-set_same, get_or-set_other, length-set}
use Rattle.std.proofs.lemmas.Option.{same_Some, none-some, slice_get_within}
use Rattle.exact.proofs.Lists.{bytes_eq_refl}
use Rattle.exact.proofs.Naturals.{equal_if_same}
use Rattle.tick_set.specs.declared.spans.TheConstants.{LAST_TICK}
use Rattle.motion.specs.Timeline.{Epoch, put, restored, AreBegunBy, TakesBack}
use Rattle.motion.proofs.CallerLemmas.{AreBegunBy-later}
use Rattle.motion.specs.declared.cell.Cell.{Cell}
use Rattle.motion.specs.declared.cell.NamedSet.{NamedSet}
use Rattle.motion.specs.declared.cell.Place.{Place}
use Rattle.history.specs.Write.{Attribute, Class, Update, Remove}
use Rattle.history.specs.Catalog.{ClassInfo}
use Rattle.object_store.specs.declared.objects.Done.{Done}
use Rattle.object_store.specs.declared.objects.Undo.{Undo}
use Rattle.object_store.specs.Contents.{StoredObject, Contents, attributes_of_number, is_named, ids_in}
use Rattle.object_store.specs.Effects.{put_named, with_epoch_of, with_object, with_class, after_update, after_remove}
use Rattle.object_store.specs.Ids.{with_member, without_member}
use Rattle.object_store.specs.Invariant.{IsKept, HasFreeName, WritesNamed}
use Rattle.object_store.specs.AtIndex.{at_index, restored_at, GainsEpochAt}
use Rattle.object_store.specs.Sound.{AreCellsOf, IsSound, AreClasses, AreMembers}
use Rattle.object_store.specs.StandsFor.{GrowsBy}
use Rattle.object_store.specs.TakingBack.{undone, IsRevertible, Undoes, HasEmptyLastClass, without_last_class}
use Rattle.object_store.proofs.EntryLemmas.{all_at}
use Rattle.object_store.proofs.Lists.{index_in, index_is, position-map, find_is, any_is_found}
use Rattle.object_store.proofs.IdLemmas.{class_in, ids-append, ids-same, ids-none}
use Rattle.object_store.proofs.KindLemmas.{FitsIn}
use Rattle.object_store.proofs.SoundLemmas.{put_sound, append_sound, class_sound, names-put_named, classes-put_named}
use Rattle.object_store.proofs.StandLemmas.{grows, follows_update, follows_remove, follows_class}
use Rattle.object_store.proofs.UndoLemmas.{IsFirst, first_at, put_there, put_back, take_pushed, classes-restored_at}

-- ---- a known name

-- a change of the first object of a name, by its index
at_first : (name : List ℕ) (change : List Epoch → List Epoch) (p : Epoch) (objects : List StoredObject) (index : ℕ) (o : StoredObject) → IsFirst name objects index o → change o.epochs ≡ put o.epochs p → at_index index change objects ≡ put_named name p objects
at_first name change p [] index o first same = absurd first
at_first name change p (x ∷ xs) zero o first same =
    let here : change x.epochs ≡ put x.epochs p = rw first.1 same in
    let y : List Epoch → StoredObject = λ ps. record { name = x.name; class = x.class; epochs = ps } in
    ap (λ ps. y ps ∷ xs) here ∙ ap (λ b. if b then (y (put x.epochs p) ∷ xs) else (x ∷ put_named name p xs)) (sym first.0)
at_first name change p (x ∷ xs) (suc index) o first same =
    let y : StoredObject = record { name = x.name; class = x.class; epochs = put x.epochs p } in
    ap (λ os. x ∷ os) (at_first name change p xs index o first.1 same) ∙ ap (λ b. if b then (y ∷ xs) else (x ∷ put_named name p xs)) (sym first.0)

abbrev name_in : StoredObject → List ℕ
name_in o = o.name

-- a name stands where it stood
pub index-put_named : (name : List ℕ) (p : Epoch) (objects : List StoredObject) → position (is_named name) (put_named name p objects) ≡ position (is_named name) objects
index-put_named name p objects =
    sym (position-map (bytes_eq name) name_in (put_named name p objects))
    ∙ ap (position (bytes_eq name)) (names-put_named name p objects)
    ∙ position-map (bytes_eq name) name_in objects

length-put_named : (name : List ℕ) (p : Epoch) (objects : List StoredObject) → length (put_named name p objects) ≡ length objects
length-put_named name p objects = sym (length-map (put_named name p objects) name_in) ∙ ap length (names-put_named name p objects) ∙ length-map objects name_in

-- the answer of a write to a known name
abbrev pub known_done : ℕ → Option Epoch → ℕ → Done
known_done index replaced last = record { id = index; undo = record { id = index; is_new = false; replaced = replaced; last_tick = last } }

kept_sound : (s : Contents) (members : List (List ℕ)) (name : List ℕ) (p : Epoch) (o : StoredObject) → IsKept members s → s.last_tick ≤ p.from → p.from ≤ LAST_TICK → find (is_named name) s.objects ≡ Some o → FitsIn (attributes_of_number s.classes o.class) p.cells → IsKept members (with_epoch_of s name p)
kept_sound s members name p o kept later tick found fits = record {
  sound = record {
    classes = kept.sound.classes;
    objects = put_sound s.classes s.objects s.last_tick p.from name p o kept.sound.objects later refl found fits;
    tick = tick;
  };
  members = record {
    count = kept.members.count;
    each = λ n within. kept.members.each n within ∙ sym (ids-same n (put_named name p s.objects) s.objects (classes-put_named name p s.objects));
  };
}

pub known_writes : (s : Contents) (members : List (List ℕ)) (name : List ℕ) (index : ℕ) (o : StoredObject) (p : Epoch) (replaced : Option Epoch) (epoch : List Epoch → Epoch) (objects : List StoredObject) (now : ℕ)
    → IsKept members s → s.last_tick ≤ now → now ≤ LAST_TICK → position (is_named name) s.objects ≡ Some index → slice_get s.objects index ≡ Some o → FitsIn (attributes_of_number s.classes o.class) p.cells
    → GainsEpochAt index epoch replaced s.objects objects → epoch o.epochs ≡ p → p.from ≡ now
    → WritesNamed name s (with_epoch_of s name p) members (record { classes = s.classes; objects = objects; last_tick = now }) (known_done index replaced s.last_tick)
known_writes s members name index o p replaced epoch objects now kept later tick first there fits written is from =
    let at = first_at name s.objects index o first there in
    let found : find (is_named name) s.objects ≡ Some o = find_is (is_named name) s.objects ∙ ap (option_and_then (slice_get s.objects)) first ∙ there in
    let back : TakesBack o.epochs (put o.epochs p) replaced = subst (λ q. TakesBack o.epochs (put o.epochs q) replaced) is (written.back o there) in
    let new : objects ≡ put_named name p s.objects =
    written.written ∙ at_first name (λ epochs. put epochs (epoch epochs)) p s.objects index o at (ap (put o.epochs) is)
    in
    let undo : Undo = record { id = index; is_new = false; replaced = replaced; last_tick = s.last_tick } in
    let before : undone undo (with_epoch_of s name p) ≡ s =
    ap (λ os. let c : Contents = record { classes = s.classes; objects = os; last_tick = s.last_tick } in c) (put_back name p replaced s.objects index o at back.before)
    in
    let done : WritesNamed name s (with_epoch_of s name p) members (with_epoch_of s name p) (known_done index replaced s.last_tick) = record {
      contents = refl;
      kept = kept_sound s members name p o kept (subst (λ n. s.last_tick ≤ n) (sym from) later) (subst (λ n. n ≤ LAST_TICK) (sym from) tick) found fits;
      id = index-put_named name p s.objects ∙ first;
      undo = record {
        revertible = record {
          left = (record o { epochs = put o.epochs p }, put_there name p s.objects index o at, back.stands);
          sound = subst IsSound (sym before) kept.sound;
        };
        before = before;
      };
    } in
    let path : with_epoch_of s name p ≡ record { classes = s.classes; objects = objects; last_tick = now } = λ i. record { classes = s.classes; objects = sym new i; last_tick = from i } in
    subst (λ (c : Contents). WritesNamed name s (with_epoch_of s name p) members c (known_done index replaced s.last_tick)) path done

-- ---- a new name

-- the answer of a write to a new name
abbrev pub entered_done : ℕ → ℕ → Done
entered_done id last = record { id = id; undo = record { id = id; is_new = true; replaced = None; last_tick = last } }

last_step : {X : Type 0} (b : Bool) (y : X) (rest : Option X) (r : Option ℕ) (n : ℕ) → cond b (Some y) rest ≡ None → (rest ≡ None → r ≡ Some n) → cond b (Some 0) (option_map suc r) ≡ Some (suc n)
last_step true y rest r n none later = absurd (none-some y (sym none))
last_step false y rest r n none later = ap (option_map suc) (later none)

-- an element that is pushed stands last
pub index_last : {X : Type 0} (q : X → Bool) (xs : List X) (x : X) → find q xs ≡ None → q x ≡ true → index_in q (xs ++ x ∷ []) ≡ Some (length xs)
index_last q [] x none passes = ap (λ b. cond b (Some 0) None) passes
index_last q (y ∷ ys) x none passes =
    last_step (q y) y (find q ys) (index_in q (ys ++ x ∷ [])) (length ys) none (λ later. index_last q ys x later passes)

room_class : (r : Option ClassInfo) (n : ℕ) → IsSomeAnd r (λ k. n < k.capacity) → (k : ClassInfo) × (r ≡ Some k) × (n < k.capacity)
room_class None n room = absurd room
room_class (Some k) n room = (k, refl, room)

other : (m n : ℕ) → m ≢ n → (m == n) ≡ false
other m n h = grind (arith, nat_tests)

members_with : (members : List (List ℕ)) (s : Contents) (number : ℕ) (o : StoredObject) → AreMembers members s → number < length s.classes → o.class ≡ number → (last : ℕ) → AreMembers (with_member members number (length s.objects)) (record { classes = s.classes; objects = s.objects ++ o ∷ []; last_tick = last })
members_with members s number o are within class last = record {
  count = length-set members number (get_or members number [] ++ length s.objects ∷ []) ∙ are.count;
  each = λ n there.
      elim (cases_lt n number) [
        | inl before ↦
            get_or-set_other members number n (get_or members number [] ++ length s.objects ∷ []) [] (omega arith)
            ∙ are.each n there
            ∙ sym (ids-append s.objects o n ∙ ap (λ b. ids_in s.objects n ++ cond b (length s.objects ∷ []) []) (other o.class n (omega (arith, class))) ∙ append-nil (ids_in s.objects n))
        | inr not_before ↦
            elim (cases_lt number n) [
              | inl after ↦
                  get_or-set_other members number n (get_or members number [] ++ length s.objects ∷ []) [] (omega arith)
                  ∙ are.each n there
                  ∙ sym (ids-append s.objects o n ∙ ap (λ b. ids_in s.objects n ++ cond b (length s.objects ∷ []) []) (other o.class n (omega (arith, class))) ∙ append-nil (ids_in s.objects n))
              | inr equal ↦
                  let same : n ≡ number = omega arith in
                  ap (λ m. get_or (with_member members number (length s.objects)) m []) same
                  ∙ get_or-set_same members number (get_or members number [] ++ length s.objects ∷ []) [] (omega (arith, are.count))
                  ∙ ap (λ ids. ids ++ length s.objects ∷ []) (are.each number within)
                  ∙ sym (ids-append s.objects o number ∙ ap (λ b. ids_in s.objects number ++ cond b (length s.objects ∷ []) []) (equal_if_same o.class number class))
                  ∙ ap (ids_in (s.objects ++ o ∷ [])) (sym same)
            ]
      ];
}

pub entered_writes : (s : Contents) (members : List (List ℕ)) (number : ℕ) (name : List ℕ) (p : Epoch) (timeline : List Epoch) (objects : List StoredObject) (new_members : List (List ℕ)) (id now : ℕ)
    → IsKept members s → s.last_tick ≤ now → now ≤ LAST_TICK → find (is_named name) s.objects ≡ None → HasFreeName s number → FitsIn (attributes_of_number s.classes number) p.cells
    → objects ≡ s.objects ++ record { name = name; class = number; epochs = timeline } ∷ [] → timeline ≡ put [] p → new_members ≡ with_member members number id → id ≡ length s.objects → p.from ≡ now
    → WritesNamed name s (with_object s number name p) new_members (record { classes = s.classes; objects = objects; last_tick = now }) (entered_done id s.last_tick)
entered_writes s members number name p timeline objects new_members id now kept later tick new room fits are is with_id id_is from =
    let o : StoredObject = record { name = name; class = number; epochs = put [] p } in
    let n : ℕ = length s.objects in
    let k = room_class (slice_get s.classes number) (length (ids_in s.objects number)) room in
    let within : number < length s.classes = slice_get_within s.classes number k.0 k.1 in
    let named : attributes_of_number s.classes number ≡ k.0.attributes = ap (λ r. option_map_or (λ (k : ClassInfo). k.attributes) r []) k.1 in
    let here : index_in (is_named name) (s.objects ++ o ∷ []) ≡ Some n = index_last (is_named name) s.objects o new (bytes_eq_refl name) in
    let undo : Undo = record { id = n; is_new = true; replaced = None; last_tick = s.last_tick } in
    let before : undone undo (with_object s number name p) ≡ s =
    ap (λ os. let c : Contents = record { classes = s.classes; objects = os; last_tick = s.last_tick } in c) (take_pushed s.objects o)
    in
    let done : WritesNamed name s (with_object s number name p) (with_member members number n) (with_object s number name p) (entered_done n s.last_tick) = record {
      contents = refl;
      kept = record {
        sound = record {
          classes = kept.sound.classes;
          objects =
              append_sound s.classes s.objects s.last_tick p.from number k.0 name p kept.sound.objects (subst (λ n. s.last_tick ≤ n) (sym from) later) refl new k.1 k.2
              (subst (λ attributes. FitsIn attributes p.cells) named fits);
          tick = subst (λ n. n ≤ LAST_TICK) (sym from) tick;
        };
        members = members_with members s number o kept.members within refl p.from;
      };
      id = index_is (is_named name) (s.objects ++ o ∷ []) ∙ here;
      undo = record {
        revertible = record { left = omega (arith, length-append s.objects (o ∷ [])); sound = subst IsSound (sym before) kept.sound };
        before = before;
      };
    } in
    let path : with_object s number name p ≡ record { classes = s.classes; objects = objects; last_tick = now } = λ i. record {
      classes = s.classes;
      objects = (ap (λ ps. s.objects ++ record { name = name; class = number; epochs = ps } ∷ []) (sym is) ∙ sym are) i;
      last_tick = from i;
    } in
    let of_new : WritesNamed name s (with_object s number name p) (with_member members number n) (record { classes = s.classes; objects = objects; last_tick = now }) (entered_done n s.last_tick) =
    subst (λ (c : Contents). WritesNamed name s (with_object s number name p) (with_member members number n) c (entered_done n s.last_tick)) path done
    in
    subst (λ m. WritesNamed name s (with_object s number name p) m (record { classes = s.classes; objects = objects; last_tick = now }) (entered_done id s.last_tick))
    (sym (with_id ∙ ap (with_member members number) id_is))
    (subst (λ i. WritesNamed name s (with_object s number name p) (with_member members number n) (record { classes = s.classes; objects = objects; last_tick = now }) (entered_done i s.last_tick)) (sym id_is) of_new)

-- ---- taking back

-- a list ends with what stands at its last index
split_last : {X : Type 0} (xs : List X) (n : ℕ) (x : X) → length xs ≡ suc n → slice_get xs n ≡ Some x → xs ≡ take n xs ++ x ∷ []
split_last [] n x len there = absurd (none-some x there)
split_last (y ∷ []) zero x len there = ap (λ y. y ∷ []) (same_Some y x there)
split_last (y ∷ z ∷ zs) zero x len there = absurd (omega (arith, len))
split_last (y ∷ ys) (suc n) x len there = ap (λ rest. y ∷ rest) (split_last ys n x (omega (arith, len)) there)

fewer : (s : Contents) (members : List (List ℕ)) (front : List StoredObject) (o : StoredObject) (last : ℕ) → AreMembers members s → s.objects ≡ front ++ o ∷ [] → o.class < length s.classes → AreMembers (without_member members o.class) (record { classes = s.classes; objects = front; last_tick = last })
fewer s members front o last are ends within = record {
  count = length-set members o.class (take (length (get_or members o.class []) - 1) (get_or members o.class [])) ∙ are.count;
  each = λ n there.
      let old : get_or members n [] ≡ ids_in front n ++ cond (o.class == n) (length front ∷ []) [] = are.each n there ∙ ap (λ os. ids_in os n) ends ∙ ids-append front o n in
      elim (cases_lt n o.class) [
        | inl before ↦
            get_or-set_other members o.class n (take (length (get_or members o.class []) - 1) (get_or members o.class [])) [] (omega arith)
            ∙ old ∙ ap (λ b. ids_in front n ++ cond b (length front ∷ []) []) (other o.class n (omega arith)) ∙ append-nil (ids_in front n)
        | inr not_before ↦
            elim (cases_lt o.class n) [
              | inl after ↦
                  get_or-set_other members o.class n (take (length (get_or members o.class []) - 1) (get_or members o.class [])) [] (omega arith)
                  ∙ old ∙ ap (λ b. ids_in front n ++ cond b (length front ∷ []) []) (other o.class n (omega arith)) ∙ append-nil (ids_in front n)
              | inr equal ↦
                  let same : n ≡ o.class = omega arith in
                  let all : get_or members o.class [] ≡ ids_in front o.class ++ length front ∷ [] =
                  are.each o.class within ∙ ap (λ os. ids_in os o.class) ends ∙ ids-append front o o.class ∙ ap (λ b. ids_in front o.class ++ cond b (length front ∷ []) []) (equal_if_same o.class o.class refl)
                  in
                  ap (λ m. get_or (without_member members o.class) m []) same
                  ∙ get_or-set_same members o.class (take (length (get_or members o.class []) - 1) (get_or members o.class [])) [] (omega (arith, are.count))
                  ∙ ap (λ ids. take (length ids - 1) ids) all
                  ∙ take_pushed (ids_in front o.class) (length front)
                  ∙ ap (ids_in front) (sym same)
            ]
      ];
}

-- the name that was new goes
pub left_kept : (undo : Undo) (s : Contents) (members new_members : List (List ℕ)) (o : StoredObject) → IsKept members s → undo.is_new ≡ true → IsSound (undone undo s) → slice_get s.objects (length s.objects - 1) ≡ Some o → new_members ≡ without_member members o.class → IsKept new_members (undone undo s)
left_kept undo s members new_members o kept is_new sound there is =
    let n : ℕ = length s.objects - 1 in
    let some : n < length s.objects = slice_get_within s.objects n o there in
    let left : Contents = record { classes = s.classes; objects = take n s.objects; last_tick = undo.last_tick } in
    let path : undone undo s ≡ left = λ i. record {
      classes = s.classes;
      objects = if is_new i then take n s.objects else restored_at undo.id undo.replaced s.objects;
      last_tick = undo.last_tick;
    } in
    let kept_left : IsKept new_members left = record {
      sound = subst IsSound path sound;
      members =
          subst (λ m. AreMembers m left) (sym is)
          (fewer s members (take n s.objects) o undo.last_tick kept.members (split_last s.objects n o (omega arith) there)
          (all_at (λ (o : StoredObject). o.class < length s.classes) s.objects n o there kept.sound.objects.classed));
    } in
    subst (λ (c : Contents). IsKept new_members c) (sym path) kept_left

-- the object whose name was known stands as before
pub restored_kept : (undo : Undo) (s : Contents) (members : List (List ℕ)) → IsKept members s → undo.is_new ≡ false → IsSound (undone undo s) → IsKept members (undone undo s)
restored_kept undo s members kept is_new sound =
    let objects : List StoredObject = restored_at undo.id undo.replaced s.objects in
    let left : Contents = record { classes = s.classes; objects = objects; last_tick = undo.last_tick } in
    let path : undone undo s ≡ left = λ i. record {
      classes = s.classes;
      objects = if is_new i then take (length s.objects - 1) s.objects else objects;
      last_tick = undo.last_tick;
    } in
    let same : map class_in objects ≡ map class_in s.objects = classes-restored_at undo.id undo.replaced s.objects in
    let as_long : length objects ≡ length s.objects = sym (length-map objects class_in) ∙ ap length same ∙ length-map s.objects class_in in
    let kept_left : IsKept members left = record {
      sound = subst IsSound path sound;
      members = record {
        count = kept.members.count;
        each = λ n within. kept.members.each n within ∙ sym (ids-same n objects s.objects same);
      };
    } in
    subst (λ (c : Contents). IsKept members c) (sym path) kept_left

-- ---- what the code found

pub exists_at : {X : Type 0} (xs : List X) (i : ℕ) → i < length xs → (x : X) × (slice_get xs i ≡ Some x)
exists_at [] i within = absurd (omega arith)
exists_at (x ∷ xs) zero within = (x, refl)
exists_at (x ∷ xs) (suc i) within = exists_at xs i (omega arith)

within_step : (n len i : ℕ) → cond (nat_lt n len) (Some n) None ≡ Some i → i < len
within_step n len i found = grind (arith, nat_tests)

-- a index that was found has its object
pub object_at_index : (name : List ℕ) (objects : List StoredObject) (index : ℕ) → position (is_named name) objects ≡ Some index → (o : StoredObject) × (slice_get objects index ≡ Some o)
object_at_index name objects index first = exists_at objects index (within_step (position_or_len (is_named name) objects) (length objects) index first)

-- cells fit where they are there
pub some_fits : (attributes : List Attribute) (cells : List Cell) → AreCellsOf attributes cells → FitsIn attributes (Some cells)
some_fits attributes cells fits cs is = subst (AreCellsOf attributes) (same_Some cells cs is) fits

pub if_at : (objects : List StoredObject) (index : ℕ) (o : StoredObject) (P : StoredObject → Type 0) → IfSome (slice_get objects index) P → slice_get objects index ≡ Some o → P o
if_at objects index o P holds there = subst (λ r. IfSome r P) there holds

-- each object can be written at a tick from the last write on
pub begun_by : (s : Contents) (now : ℕ) → IsSound s → s.last_tick ≤ now → All (λ (o : StoredObject). AreBegunBy o.epochs now) s.objects
begun_by s now sound later = λ k d l. AreBegunBy-later (get_or s.objects k d).epochs s.last_tick now later (sound.objects.begun k d l)

-- ---- a new class

pub class_kept : (s : Contents) (members new_members : List (List ℕ)) (k : ClassInfo) (classes : List ClassInfo) → IsKept members s → AreClasses classes → classes ≡ s.classes ++ k ∷ [] → new_members ≡ members ++ [] ∷ [] → IsKept new_members (record { classes = classes; objects = s.objects; last_tick = s.last_tick })
class_kept s members new_members k classes kept sound are is =
    let after : List ClassInfo → Contents = λ ks. record { classes = ks; objects = s.objects; last_tick = s.last_tick } in
    let kept_after : IsKept (members ++ [] ∷ []) (after (s.classes ++ k ∷ [])) = record {
      sound = record {
        classes = subst AreClasses are sound;
        objects = class_sound s.classes k s.objects s.last_tick kept.sound.objects;
        tick = kept.sound.tick;
      };
      members = record {
        count = omega (arith, length-append members ([] ∷ []), length-append s.classes (k ∷ []), kept.members.count);
        each = λ n within.
            elim (cases_lt n (length s.classes)) [
              | inl old ↦ get_or-append members ([] ∷ []) [] n (omega (arith, kept.members.count)) ∙ kept.members.each n old
              | inr new ↦
                  let last : n ≡ length members = omega (arith, within, length-append s.classes (k ∷ []), kept.members.count) in
                  ap (λ m. get_or (members ++ [] ∷ []) m []) last
                  ∙ get_or-append_seam members [] [] []
                  ∙ sym (ids-none n s.objects (λ j d l. omega (arith, kept.sound.objects.classed j d l)))
            ];
      };
    } in
    subst (λ m. IsKept m (after classes)) (sym is) (subst (λ ks. IsKept (members ++ [] ∷ []) (after ks)) (sym are) kept_after)

-- ---- standing

pub stands_update : (s : Contents) (members : List (List ℕ)) (now : ℕ) (name : List ℕ) (place : Place) (sets : List NamedSet) → IsKept members s → s.last_tick ≤ now → GrowsBy s (after_update s now name place sets) (Update now name place sets)
stands_update s members now name place sets kept later =
    grows s (after_update s now name place sets) (Update now name place sets) (follows_update s now name place sets (begun_by s now kept.sound later))

pub stands_remove : (s : Contents) (now : ℕ) (name : List ℕ) → GrowsBy s (after_remove s now name) (Remove now name)
stands_remove s now name = grows s (after_remove s now name) (Remove now name) (follows_remove s now name)

pub stands_class : (s : Contents) (name : List ℕ) (capacity : ℕ) (point : Bool) (attributes : List Attribute) → GrowsBy s (with_class s name capacity point attributes) (Class name capacity point attributes)
stands_class s name capacity point attributes =
    grows s (with_class s name capacity point attributes) (Class name capacity point attributes) (follows_class s name capacity point attributes)

-- a class that was added can be taken back
pub spare_class : (s : Contents) (members : List (List ℕ)) (k : ClassInfo) → IsKept members s → without_last_class (record { classes = s.classes ++ k ∷ []; objects = s.objects; last_tick = s.last_tick }) ≡ s
spare_class s members k kept = ap (λ ks. let c : Contents = record { classes = ks; objects = s.objects; last_tick = s.last_tick } in c) (take_pushed s.classes k)
