-- For this crate and for the crates above: the object of an id is the one that is found by its name.
use Rattle.std.proofs.Common.{◌≡◌, ℕ, zero, suc, ◌≤◌, true, false, cond, Option, None, Some, List, [], ◌∷◌, map, refl, sym, ap, subst, ◌∙◌}
use Rattle.std.specs.Prelude.{is_some, slice_get, option_and_then, option_map}
use Rattle.std.specs.List.{find, AllByRecursion, IsDistinct}
use Rattle.std.specs.Option.{option_map_or}
use Rattle.std.specs.Str.{bytes_eq}
use Rattle.std.specs.Cmp.Lexicographic.{nat_list_eq_equiv}
use Rattle.std.proofs.lemmas.Option.{same_Some, none-some, slice_get-map}
use Rattle.motion.specs.declared.cell.Cell.{Cell}
use Rattle.motion.specs.Timeline.{Epoch, AreBegunBy, state_at}
use Rattle.history.specs.Catalog.{ObjectInfo}
use Rattle.history.specs.History.{cells_at}
use Rattle.object_store.specs.Contents.{StoredObject, Contents, is_named, is_present_at, history_of, object_info, state_of}
use Rattle.object_store.specs.Sound.{IsSound}
use Rattle.object_store.proofs.EntryLemmas.{all_at}
use Rattle.motion.proofs.CallerLemmas.{settled}

abbrev name_in : StoredObject → List ℕ
name_in o = o.name

-- a name that differs from each of some differs from the one at a index
differs_at : (name : List ℕ) (objects : List StoredObject) (id : ℕ) (o : StoredObject)
    → AllByRecursion (λ n. bytes_eq name n ≡ false) (map name_in objects) → slice_get objects id ≡ Some o → bytes_eq name o.name ≡ false
differs_at name [] id o differ there = absurd (none-some o there)
differs_at name (x ∷ xs) zero o differ there =
    subst (λ (y : StoredObject). bytes_eq name y.name ≡ false) (same_Some x o there) differ.0
differs_at name (x ∷ xs) (suc id) o differ there = differs_at name xs id o differ.1 there

pub found_by_name : (objects : List StoredObject) (id : ℕ) (o : StoredObject) → IsDistinct bytes_eq (map name_in objects)
    → slice_get objects id ≡ Some o → find (is_named o.name) objects ≡ Some o
unfolding IsDistinct
found_by_name [] id o distinct there = absurd (none-some o there)
found_by_name (x ∷ xs) zero o distinct there =
    let same : x ≡ o = same_Some x o there in
    let named : bytes_eq o.name x.name ≡ true = subst (λ (y : StoredObject). bytes_eq o.name y.name ≡ true) (sym same) (nat_list_eq_equiv.refl o.name) in
    ap (λ b. cond b (Some x) (find (is_named o.name) xs)) named ∙ ap Some same
found_by_name (x ∷ xs) (suc id) o distinct there =
    let other : bytes_eq o.name x.name ≡ false
    = nat_list_eq_equiv.symm o.name x.name ∙ differs_at x.name xs id o distinct.0 there in
    ap (λ b. cond b (Some x) (find (is_named o.name) xs)) other ∙ found_by_name xs id o distinct.1 there

-- the cells of the object at a index
cells_there : (s : Contents) (id : ℕ) (t : ℕ) (r : Option StoredObject) → slice_get s.objects id ≡ r
    → cells_at (history_of s) id t ≡ option_and_then (λ (o : StoredObject). state_of s o.name t) r
cells_there s id t r there =
    ap (option_and_then (λ (i : ObjectInfo). state_of s i.name t)) (slice_get-map object_info s.objects id ∙ ap (option_map object_info) there)
    ∙ through r
  where
    through : (r : Option StoredObject) → option_and_then (λ (i : ObjectInfo). state_of s i.name t) (option_map object_info r) ≡ option_and_then (λ (o : StoredObject). state_of s o.name t) r
    through None = refl
    through (Some o) = refl

cells_of_object : (s : Contents) (id : ℕ) (o : StoredObject) (t : ℕ) → IsSound s → slice_get s.objects id ≡ Some o
    → cells_at (history_of s) id t ≡ state_at o.epochs t
cells_of_object s id o t sound there =
    cells_there s id t (Some o) there
    ∙ ap (option_and_then (λ (o : StoredObject). state_at o.epochs t)) (found_by_name s.objects id o sound.objects.names there)

state_step : (s : Contents) (id : ℕ) (epochs : List Epoch) (t : ℕ) (r : Option StoredObject) → IsSound s → slice_get s.objects id ≡ r
    → option_map (λ (o : StoredObject). o.epochs) r ≡ Some epochs → cells_at (history_of s) id t ≡ state_at epochs t
state_step s id epochs t None sound there are = absurd (none-some epochs are)
state_step s id epochs t (Some o) sound there are =
    cells_of_object s id o t sound there ∙ ap (λ epochs. state_at epochs t) (same_Some o.epochs epochs are)

-- the cells of the object of an id are those of its timeline
pub state_of_id : (s : Contents) (id : ℕ) (epochs : List Epoch) (t : ℕ) → IsSound s
    → option_map (λ (o : StoredObject). o.epochs) (slice_get s.objects id) ≡ Some epochs → cells_at (history_of s) id t ≡ state_at epochs t
state_of_id s id epochs t sound are = state_step s id epochs t (slice_get s.objects id) sound refl are

-- the cells of the object of an id in a list, at a tick
abbrev pub cells_in : List StoredObject → ℕ → ℕ → Option (List Cell)
cells_in objects id t = option_and_then (λ (o : StoredObject). state_at o.epochs t) (slice_get objects id)

index_step : (s : Contents) (id t : ℕ) (r : Option StoredObject) → IsSound s → slice_get s.objects id ≡ r
    → cells_at (history_of s) id t ≡ option_and_then (λ (o : StoredObject). state_at o.epochs t) r
index_step s id t None sound there = cells_there s id t None there
index_step s id t (Some o) sound there = cells_of_object s id o t sound there

-- a store tells of an id the cells of the object that stands there
pub cells_at_index : (s : Contents) (id t : ℕ) → IsSound s → cells_at (history_of s) id t ≡ cells_in s.objects id t
cells_at_index s id t sound = index_step s id t (slice_get s.objects id) sound refl

present_step : (s : Contents) (id t : ℕ) (r : Option StoredObject) → IsSound s → s.last_tick ≤ t → slice_get s.objects id ≡ r
    → option_map_or (is_present_at s.last_tick) r false ≡ is_some (cells_at (history_of s) id t)
present_step s id t None sound later there = ap is_some (sym (cells_there s id t None there))
present_step s id t (Some o) sound later there =
    let begun : AreBegunBy o.epochs s.last_tick = all_at (λ (o : StoredObject). AreBegunBy o.epochs s.last_tick) s.objects id o there sound.objects.begun in
    ap is_some (sym (settled o.epochs s.last_tick t begun later) ∙ sym (cells_of_object s id o t sound there))

-- who is present after the last write is so from then on
pub present_later : (s : Contents) (id : ℕ) → IsSound s → (t : ℕ) → s.last_tick ≤ t
    → option_map_or (is_present_at s.last_tick) (slice_get s.objects id) false ≡ is_some (cells_at (history_of s) id t)
present_later s id sound t later = present_step s id t (slice_get s.objects id) sound later refl
