-- For this crate and for the crates above: what an accepted write to an object changes of the history that a store tells.
use Rattle.std.proofs.Common.{◌≡◌, ℕ, zero, suc, ◌<◌, ◌==◌, Bool, true, false, None, Some, List, [], ◌∷◌, ◌++◌, map, length, take, refl, sym, ap, ◌∙◌, if◌then◌else◌, append-nil}
use Rattle.std.specs.Prelude.{slice_get, option_and_then, option_map}
use Rattle.std.specs.List.{find, list_any, position}
use Rattle.std.specs.Str.{bytes_eq}
use Rattle.std.proofs.lemmas.List.{map-append}
use Rattle.std.proofs.lemmas.Option.{same_Some}
use Rattle.exact.proofs.Lists.{bytes_eq_refl}
use Rattle.exact.proofs.Items.{none_from_test}
use Rattle.exact.proofs.Naturals.{above_fails_nat_test, differs_before, not_itself}
use Rattle.motion.specs.declared.cell.NamedSet.{NamedSet}
use Rattle.motion.specs.declared.cell.Place.{Place}
use Rattle.motion.specs.Timeline.{Epoch, put, state_at}
use Rattle.motion.proofs.CallerLemmas.{state_at_put}
use Rattle.history.specs.Catalog.{ObjectInfo, class_of, object_of, attributes_of_class}
use Rattle.history.specs.State.{inserted, updated, attributes_of_object}
use Rattle.history.specs.History.{ChangesFrom}
use Rattle.object_store.specs.Contents.{StoredObject, Contents, catalog_of, history_of, is_named, object_info, state_of}
use Rattle.object_store.specs.Effects.{put_named, with_epoch_of, with_object, number_or_first, after_insert, after_update, after_remove}
use Rattle.object_store.specs.Sound.{IsSound}
use Rattle.object_store.proofs.Lists.{index_in, index_is, is_some-find}
use Rattle.object_store.proofs.NumberLemmas.{cells_in, cells_at_index}
use Rattle.object_store.proofs.StandLemmas.{infos-put_named}
use Rattle.object_store.proofs.UndoLemmas.{at_zero, at_suc, take_front}
use Rattle.object_store.proofs.WriteLemmas.{index-put_named, index_last}

abbrev with_epoch : Epoch → StoredObject → StoredObject
with_epoch p o = record o { epochs = put o.epochs p }

-- an epoch changes no earlier state
earlier : (p : Epoch) (t : ℕ) → t < p.from → (epochs : List Epoch) → state_at (put epochs p) t ≡ state_at epochs t
earlier p t before epochs =
    state_at_put epochs p t ∙ ap (λ b. if b then p.cells else state_at epochs t) (above_fails_nat_test p.from t before)

-- ---- an object of a known name

past_step : (b : Bool) (p : Epoch) (t : ℕ) → t < p.from → (x : StoredObject) (xs ys : List StoredObject) (i : ℕ)
    → ((j : ℕ) → cells_in ys j t ≡ cells_in xs j t) → cells_in (if b then (with_epoch p x ∷ xs) else (x ∷ ys)) i t ≡ cells_in (x ∷ xs) i t
past_step true p t before x xs ys zero same = earlier p t before x.epochs
past_step true p t before x xs ys (suc i) same = refl
past_step false p t before x xs ys zero same = refl
past_step false p t before x xs ys (suc i) same = same i

put_past : (name : List ℕ) (p : Epoch) (t : ℕ) → t < p.from → (objects : List StoredObject) (i : ℕ) → cells_in (put_named name p objects) i t ≡ cells_in objects i t
put_past name p t before [] i = refl
put_past name p t before (x ∷ xs) i =
    past_step (bytes_eq name x.name) p t before x xs (put_named name p xs) i (put_past name p t before xs)

put_others : (name : List ℕ) (p : Epoch) (objects : List StoredObject) (index i : ℕ) → position (is_named name) objects ≡ Some index
    → (i == index) ≡ false → slice_get (put_named name p objects) i ≡ slice_get objects i
put_others name p objects index i first = others objects index i (sym (index_is (is_named name) objects) ∙ first)
  where
    step : (x : StoredObject) (xs : List StoredObject) (i : ℕ) (b : Bool) → bytes_eq name x.name ≡ b
        → slice_get (put_named name p (x ∷ xs)) i ≡ slice_get (if b then (with_epoch p x ∷ xs) else (x ∷ put_named name p xs)) i
    step x xs i b is = ap (λ b. slice_get (if b then (with_epoch p x ∷ xs) else (x ∷ put_named name p xs)) i) is

    others : (objects : List StoredObject) (index i : ℕ) → index_in (is_named name) objects ≡ Some index
        → (i == index) ≡ false → slice_get (put_named name p objects) i ≡ slice_get objects i
    others [] index i first other = refl
    others (x ∷ xs) zero zero first other = not_itself 0 other
    others (x ∷ xs) zero (suc i) first other = step x xs (suc i) true (at_zero (bytes_eq name x.name) (index_in (is_named name) xs) first)
    others (x ∷ xs) (suc index) zero first other = step x xs 0 false (at_suc (bytes_eq name x.name) (index_in (is_named name) xs) index first).0
    others (x ∷ xs) (suc index) (suc i) first other =
        let later = at_suc (bytes_eq name x.name) (index_in (is_named name) xs) index first in
        step x xs (suc i) false later.0 ∙ others xs index i later.1 (differs_before i index other)

known_changes : (s : Contents) (name : List ℕ) (p : Epoch) (id : ℕ) → IsSound s → IsSound (with_epoch_of s name p)
    → position (is_named name) (put_named name p s.objects) ≡ Some id → ChangesFrom id p.from (history_of s) (history_of (with_epoch_of s name p))
known_changes s name p id sound after at = record {
  classes = refl;
  objects =
      let infos : List ObjectInfo = map object_info s.objects in
      ap (take (length infos)) (infos-put_named name p s.objects ∙ sym (append-nil infos)) ∙ take_front infos [];
  others = λ i t other.
      cells_at_index (with_epoch_of s name p) i t after
      ∙ ap (option_and_then (λ (o : StoredObject). state_at o.epochs t))
      (put_others name p s.objects id i (sym (index-put_named name p s.objects) ∙ at) other)
      ∙ sym (cells_at_index s i t sound);
  past = λ t before.
      cells_at_index (with_epoch_of s name p) id t after ∙ put_past name p t before s.objects id ∙ sym (cells_at_index s id t sound);
}

-- ---- one of a new name

pub pushed_others : {X : Type 0} (xs : List X) (x : X) (i : ℕ) → (i == length xs) ≡ false → slice_get (xs ++ x ∷ []) i ≡ slice_get xs i
pushed_others [] x zero other = not_itself 0 other
pushed_others [] x (suc i) other = refl
pushed_others (y ∷ ys) x zero other = refl
pushed_others (y ∷ ys) x (suc i) other = pushed_others ys x i (differs_before i (length ys) other)

pushed_past : (xs : List StoredObject) (x : StoredObject) (t i : ℕ) → state_at x.epochs t ≡ None → cells_in (xs ++ x ∷ []) i t ≡ cells_in xs i t
pushed_past [] x t zero absent = absent
pushed_past [] x t (suc i) absent = refl
pushed_past (y ∷ ys) x t zero absent = refl
pushed_past (y ∷ ys) x t (suc i) absent = pushed_past ys x t i absent

new_changes : (s : Contents) (class : ℕ) (name : List ℕ) (p : Epoch) (id : ℕ) → IsSound s → IsSound (with_object s class name p)
    → find (is_named name) s.objects ≡ None → position (is_named name) (with_object s class name p).objects ≡ Some id
    → ChangesFrom id p.from (history_of s) (history_of (with_object s class name p))
new_changes s class name p id sound after new at =
    let x : StoredObject = record { name = name; class = class; epochs = put [] p } in
    let last : length s.objects ≡ id =
    same_Some (length s.objects) id (sym (index_last (is_named name) s.objects x new (bytes_eq_refl name)) ∙ sym (index_is (is_named name) (s.objects ++ x ∷ [])) ∙ at)
    in
    record {
      classes = refl;
      objects =
          ap (take (length (map object_info s.objects))) (map-append object_info s.objects (x ∷ []))
          ∙ take_front (map object_info s.objects) (object_info x ∷ []);
      others = λ i t other.
          cells_at_index (with_object s class name p) i t after
          ∙ ap (option_and_then (λ (o : StoredObject). state_at o.epochs t)) (pushed_others s.objects x i (ap (λ n. i == n) last ∙ other))
          ∙ sym (cells_at_index s i t sound);
      past = λ t before.
          cells_at_index (with_object s class name p) id t after
          ∙ pushed_past s.objects x t id (earlier p t before [])
          ∙ sym (cells_at_index s id t sound);
    }

-- ---- the three writes

insert_changes_if : (there : Bool) (s : Contents) (class : ℕ) (name : List ℕ) (p : Epoch) (id : ℕ) → list_any (is_named name) s.objects ≡ there
    → IsSound s → IsSound (if there then with_epoch_of s name p else with_object s class name p)
    → position (is_named name) (if there then with_epoch_of s name p else with_object s class name p).objects ≡ Some id
    → ChangesFrom id p.from (history_of s) (history_of (if there then with_epoch_of s name p else with_object s class name p))
insert_changes_if true s class name p id there sound after at = known_changes s name p id sound after at
insert_changes_if false s class name p id there sound after at =
    new_changes s class name p id sound after (none_from_test (find (is_named name) s.objects) (is_some-find (is_named name) s.objects ∙ there)) at

pub insert_changes : (s : Contents) (now : ℕ) (class name : List ℕ) (place : Place) (sets : List NamedSet) (id : ℕ) → IsSound s
    → IsSound (after_insert s now class name place sets) → position (is_named name) (after_insert s now class name place sets).objects ≡ Some id
    → ChangesFrom id now (history_of s) (history_of (after_insert s now class name place sets))
insert_changes s now class name place sets id sound after at =
    insert_changes_if (list_any (is_named name) s.objects) s (number_or_first s.classes class) name
    (record { from = now; cells = Some (inserted now (attributes_of_class (class_of (catalog_of s) class)) place sets) }) id refl sound after at

pub update_changes : (s : Contents) (now : ℕ) (name : List ℕ) (place : Place) (sets : List NamedSet) (id : ℕ) → IsSound s
    → IsSound (after_update s now name place sets) → position (is_named name) (after_update s now name place sets).objects ≡ Some id
    → ChangesFrom id now (history_of s) (history_of (after_update s now name place sets))
update_changes s now name place sets id sound after at =
    let attributes = attributes_of_object (catalog_of s) (object_of (catalog_of s) name) in
    known_changes s name (record { from = now; cells = option_map (updated now attributes place sets) (state_of s name now) }) id sound after at

pub remove_changes : (s : Contents) (now : ℕ) (name : List ℕ) (id : ℕ) → IsSound s
    → IsSound (after_remove s now name) → position (is_named name) (after_remove s now name).objects ≡ Some id
    → ChangesFrom id now (history_of s) (history_of (after_remove s now name))
remove_changes s now name id sound after at = known_changes s name (record { from = now; cells = None }) id sound after at
