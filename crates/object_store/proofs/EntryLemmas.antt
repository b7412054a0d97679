-- The objects as they lie in a map.
use Rattle.std.proofs.Common.{◌≡◌, ℕ, zero, suc, ◌-◌, ◌<◌, Bool, true, false, cond, take, set, Option, None, Some, Result, Ok, Err, List, [], ◌∷◌, ◌++◌, length, get_or, refl, sym, ap, subst, ◌∙◌}
use Rattle.std.specs.Prelude.{All, slice_get, option_map, IfSome, IfOk, OnOk, OnErr}
use Rattle.std.specs.List.{find, position}
use Rattle.std.specs.Map.{keys_of, values_of, lookup}
use Rattle.std.specs.Str.{bytes_eq}
use Rattle.std.specs.declared.alloc.AllocError.{AllocError}
use Rattle.std.proofs.lemmas.Option.{same_Some, none-some, slice_get-map, slice_get_within, get_or_from_slice_get}
use Rattle.std.proofs.lemmas.List.{map-append, take-map, length-map, get_or_default}
use Rattle.indexmap.specs.IndexMap.{IndexMap, set_value_at, insert_entry}
use Rattle.indexmap.proofs.CallerLemmas.{insert_entry-new}
use Rattle.motion.specs.Timeline.{Epoch, put, AreBegunBy, TakesBack}
use Rattle.object_store.specs.declared.objects.Object.{Object}
use Rattle.object_store.specs.Contents.{StoredObject, is_named}
use Rattle.object_store.specs.ObjectView.{stored, objects_of}
use Rattle.object_store.specs.Ids.{without_member}
use Rattle.object_store.specs.AtIndex.{at_index, GainsEpochAt}
use Rattle.object_store.proofs.Lists.{position-map}

-- the value at a index, with other epochs
abbrev pub with_timeline : Object → List Epoch → Object
with_timeline v timeline = record { class = v.class; timeline = timeline }

pub set_at_index : (es : List (List ℕ × Object)) (index : ℕ) (v : Object) (timeline : List Epoch) (change : List Epoch → List Epoch) → slice_get (values_of es) index ≡ Some v → timeline ≡ change v.timeline → objects_of (set_value_at es index (with_timeline v timeline)) ≡ at_index index change (objects_of es)
set_at_index [] index v timeline change there is = refl
set_at_index (e ∷ es) zero v timeline change there is =
    let same : e.1 ≡ v = same_Some e.1 v there in
    ap (λ (ps : List Epoch). let o : StoredObject = record { name = e.0; class = v.class; epochs = ps } in o ∷ objects_of es) is
    ∙ ap (λ (v : Object). let o : StoredObject = record { name = e.0; class = v.class; epochs = change v.timeline } in o ∷ objects_of es) (sym same)
set_at_index (e ∷ es) (suc index) v timeline change there is = ap (λ os. stored e ∷ os) (set_at_index es index v timeline change there is)

unchanged : (index : ℕ) (objects : List StoredObject) → at_index index (λ epochs. epochs) objects ≡ objects
unchanged index [] = refl
unchanged zero (o ∷ os) = refl
unchanged (suc index) (o ∷ os) = ap (λ os. o ∷ os) (unchanged index os)

-- the object at a index is that of its value
object_there : (es : List (List ℕ × Object)) (index : ℕ) (v : Object) (o : StoredObject) → slice_get (values_of es) index ≡ Some v → slice_get (objects_of es) index ≡ Some o → o.epochs ≡ v.timeline
object_there [] index v o there at = absurd (none-some v there)
object_there (e ∷ es) zero v o there at = ap (λ (o : StoredObject). o.epochs) (sym (same_Some (stored e) o at)) ∙ ap (λ (v : Object). v.timeline) (same_Some e.1 v there)
object_there (e ∷ es) (suc index) v o there at = object_there es index v o there at

-- the object at a index, by its value
pub record ValueAt (objects : List StoredObject) (index : ℕ) (v : Object) : Type 0 where
  pub object : StoredObject
  pub there : slice_get objects index ≡ Some object
  pub epochs : object.epochs ≡ v.timeline
  pub class : object.class ≡ v.class

pub value_there : (es : List (List ℕ × Object)) (index : ℕ) (v : Object) → slice_get (values_of es) index ≡ Some v → ValueAt (objects_of es) index v
value_there [] index v there = absurd (none-some v there)
value_there (e ∷ es) zero v there =
    let same : e.1 ≡ v = same_Some e.1 v there in
    record { object = stored e; there = refl; epochs = ap (λ (v : Object). v.timeline) same; class = ap (λ (v : Object). v.class) same }
value_there (e ∷ es) (suc index) v there =
    let rest = value_there es index v there in
    record { object = rest.object; there = rest.there; epochs = rest.epochs; class = rest.class }

-- what holds of all holds at a index
pub all_at : {X : Type 0} (P : X → Type 0) (xs : List X) (index : ℕ) (x : X) → slice_get xs index ≡ Some x → All P xs → P x
all_at P xs index x there all = subst P (get_or_from_slice_get xs index x x there) (all index x (slice_get_within xs index x there))

-- what holds of the epochs of all objects holds of those of a value
pub value_begun : (es : List (List ℕ × Object)) (index : ℕ) (v : Object) (now : ℕ) → slice_get (values_of es) index ≡ Some v → All (λ (o : StoredObject). AreBegunBy o.epochs now) (objects_of es) → AreBegunBy v.timeline now
value_begun es index v now there all =
    let at = value_there es index v there in
    subst (λ epochs. AreBegunBy epochs now) at.epochs (all_at (λ (o : StoredObject). AreBegunBy o.epochs now) (objects_of es) index at.object at.there all)

pub put_ok : (r : Result (Option Epoch) AllocError) (index : ℕ) (epoch : List Epoch → Epoch) (es : List (List ℕ × Object)) (v : Object) (timeline : List Epoch) → slice_get (values_of es) index ≡ Some v → OnOk r (timeline ≡ put v.timeline (epoch v.timeline)) → IfOk r (λ replaced. TakesBack v.timeline timeline replaced)
    → IfOk r (λ replaced. GainsEpochAt index epoch replaced (objects_of es) (objects_of (set_value_at es index (with_timeline v timeline))))
put_ok (Ok replaced) index epoch es v timeline there is back = record {
  written = set_at_index es index v timeline (λ epochs. put epochs (epoch epochs)) there is;
  back = λ o at.
      let same : o.epochs ≡ v.timeline = object_there es index v o there at in
      subst (λ old. TakesBack old (put old (epoch old)) replaced) (sym same) (subst (λ new. TakesBack v.timeline new replaced) is back);
}
put_ok (Err error) index epoch es v timeline there is back = back

pub put_err : (r : Result (Option Epoch) AllocError) (index : ℕ) (es : List (List ℕ × Object)) (v : Object) (timeline : List Epoch) → slice_get (values_of es) index ≡ Some v → OnErr r (timeline ≡ v.timeline) → OnErr r (objects_of (set_value_at es index (with_timeline v timeline)) ≡ objects_of es)
put_err (Ok replaced) index es v timeline there is = is
put_err (Err error) index es v timeline there is = set_at_index es index v timeline (λ epochs. epochs) there is ∙ unchanged index (objects_of es)

pub on_ok : {T E : Type 0} (r : Result T E) (x : T) (P : Type 0) → r ≡ Ok x → OnOk r P → P
on_ok r x P is holds = subst (λ r. OnOk r P) is holds

found_none : {X Y : Type 0} (b : Bool) (x : X) (y : Y) (rest : Option X) (later : Option Y) → cond b (Some x) rest ≡ None → (rest ≡ None → later ≡ None) → cond b (Some y) later ≡ None
found_none true x y rest later none go = absurd (none-some x (sym none))
found_none false x y rest later none go = go none

lookup_none : (name : List ℕ) (es : List (List ℕ × Object)) → find (is_named name) (objects_of es) ≡ None → lookup (bytes_eq name) es ≡ None
lookup_none name [] none = refl
lookup_none name (e ∷ es) none = found_none (bytes_eq name e.0) (stored e) e.1 (find (is_named name) (objects_of es)) (lookup (bytes_eq name) es) none (lookup_none name es)

-- the objects after one of a new name is entered
pub entered_last : {S : Type 0} (m : IndexMap (List ℕ) Object S) (name : List ℕ) (v : Object) (new : List (List ℕ × Object)) → find (is_named name) (objects_of m.entries) ≡ None → new ≡ insert_entry bytes_eq m.entries name v → objects_of new ≡ objects_of m.entries ++ stored (name, v) ∷ []
entered_last m name v new absent is =
    ap objects_of (is ∙ insert_entry-new bytes_eq m name v (lookup_none name m.entries absent)) ∙ map-append stored m.entries ((name, v) ∷ [])

pub index_is_of : (name : List ℕ) (es : List (List ℕ × Object)) → position (bytes_eq name) (keys_of es) ≡ position (is_named name) (objects_of es)
index_is_of name es = position-map (bytes_eq name) (λ (e : List ℕ × Object). e.0) es ∙ sym (position-map (is_named name) stored es)

pub taken_last : (es : List (List ℕ × Object)) → objects_of (take (length es - 1) es) ≡ take (length (objects_of es) - 1) (objects_of es)
taken_last es = sym (take-map stored (length es - 1) es) ∙ ap (λ n. take (n - 1) (objects_of es)) (sym (length-map es stored))

-- what is said of an object, where it stands at the index
pub if_there : (objects : List StoredObject) (index : ℕ) (o : StoredObject) (P : StoredObject → Type 0) → slice_get objects index ≡ Some o → P o → IfSome (slice_get objects index) P
if_there objects index o P there holds = subst (λ r. IfSome r P) (sym there) holds

-- the list of a class without its last id
pub popped : (members : List (List ℕ)) (number : ℕ) (own new : List ℕ) → number < length members → own ≡ get_or members number own → new ≡ take (length own - 1) own → set members number new ≡ without_member members number
popped members number own new within is short =
    let same : own ≡ get_or members number [] = is ∙ get_or_default members number own [] within in
    ap (set members number) (short ∙ ap (λ ids. take (length ids - 1) ids) same)

-- the value of an entry that stands at a index
pub value_of_entry : (es : List (List ℕ × Object)) (index : ℕ) (e : List ℕ × Object) → slice_get es index ≡ Some e → slice_get (values_of es) index ≡ Some e.1
value_of_entry es index e there = slice_get-map (λ (e : List ℕ × Object). e.1) es index ∙ ap (option_map (λ (e : List ℕ × Object). e.1)) there
