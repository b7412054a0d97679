-- For this crate and for the crates above: laws of histories.
use Rattle.std.proofs.Common.{◌≡◌, ℕ, Bool, true, false, ◌&&◌, ◌||◌, nat_le, nat_lt, Option, None, Some, List, [], ◌∷◌, ◌++◌, map, refl, sym, ap, subst, ◌∙◌, arith, if◌then◌else◌}
use Rattle.std.specs.Option.{option_map}
use Rattle.std.specs.List.{fold, list_all, list_any, IsDistinct}
use Rattle.std.specs.Str.{bytes_eq}
use Rattle.std.specs.Cmp.Lexicographic.{nat_list_eq_equiv}
use Rattle.std.proofs.lemmas.Bool.Decides.{nat_tests}
use Rattle.std.proofs.lemmas.List.{map-append}
use Rattle.std.proofs.lemmas.List.Sums.{fold-append}
use Rattle.std.proofs.lemmas.Map.Keys.{IsDistinct-push}
use Rattle.motion.specs.declared.cell.Cell.{Cell}
use Rattle.history.specs.Write.{Write, Class, Insert, Update, Remove, inserts, is_after}
use Rattle.history.specs.Catalog.{Catalog, ObjectInfo, empty_catalog, catalog, catalog_after, attributes_of_class, class_of, has_object, number_of_class, object_of, with_new_object}
use Rattle.history.specs.State.{SoFar, after_write, attributes_of_object, cells_after_write, inserted, state, updated}
use Rattle.exact.proofs.Truths.{both_false, both_true}

-- ---- the past

not_by : (t s : ℕ) → nat_lt t s ≡ true → nat_le s t ≡ false
not_by t s h = grind (arith, nat_tests)

not_in_force : {X : Type 0} (named begun : Bool) (x y : X) → begun ≡ false → (if named && begun then x else y) ≡ y
not_in_force true begun x y h = ap (λ b. if b then x else y) h
not_in_force false begun x y h = refl

later_write : (c : Catalog) (o : List ℕ) (t : ℕ) (cells : Option (List Cell)) (w : Write) → is_after t w ≡ true → cells_after_write c o t cells w ≡ cells
later_write c o t cells (Class name capacity point attributes) after = refl
later_write c o t cells (Insert s class name place sets) after =
    not_in_force (bytes_eq o name) (nat_le s t) (Some (inserted s (attributes_of_class (class_of c class)) place sets)) cells (not_by t s after)
later_write c o t cells (Update s name place sets) after =
    not_in_force (bytes_eq o name) (nat_le s t) (option_map (updated s (attributes_of_object c (object_of c o)) place sets) cells) cells (not_by t s after)
later_write c o t cells (Remove s name) after = not_in_force (bytes_eq o name) (nat_le s t) None cells (not_by t s after)

later_writes : (later : List Write) (o : List ℕ) (t : ℕ) (so_far : SoFar) → list_all (is_after t) later ≡ true → (fold (after_write o t) so_far later).cells ≡ so_far.cells
later_writes [] o t so_far after = refl
later_writes (w ∷ later) o t so_far after =
    let parts = both_true (is_after t w) (list_all (is_after t) later) after in
    later_writes later o t (after_write o t so_far w) parts.1 ∙ later_write so_far.catalog o t so_far.cells w parts.0

pub past_stays : (writes later : List Write) (o : List ℕ) (t : ℕ) → list_all (is_after t) later ≡ true → state (writes ++ later) o t ≡ state writes o t
past_stays writes later o t after =
    let start : SoFar = record { catalog = empty_catalog; cells = None } in
    ap (λ (so_far : SoFar). so_far.cells) (fold-append (after_write o t) start writes later)
    ∙ later_writes later o t (fold (after_write o t) start writes) after

-- ---- the names

any_name : (name : List ℕ) (objects : List ObjectInfo) → list_any (bytes_eq name) (map (λ o. o.name) objects) ≡ list_any (λ o. bytes_eq name o.name) objects
any_name name [] = refl
any_name name (x ∷ xs) = ap (λ b. bytes_eq name x.name || b) (any_name name xs)

abbrev AreApart : Catalog → Type 0
AreApart c = IsDistinct bytes_eq (map (λ o. o.name) c.objects)

new_apart : (c : Catalog) (class : Option ℕ) (name : List ℕ) → AreApart c → has_object c name ≡ false → AreApart (with_new_object c class name)
new_apart c None name apart new = apart
new_apart c (Some class) name apart new =
    subst (IsDistinct bytes_eq) (sym (map-append (λ (o : ObjectInfo). o.name) c.objects (record { name = name; class = class } ∷ [])))
    (IsDistinct-push nat_list_eq_equiv (map (λ (o : ObjectInfo). o.name) c.objects) name apart (any_name name c.objects ∙ new))

insert_apart : (there : Bool) (c : Catalog) (class : Option ℕ) (name : List ℕ) → has_object c name ≡ there → AreApart c → AreApart (if there then c else with_new_object c class name)
insert_apart true c class name is apart = apart
insert_apart false c class name is apart = new_apart c class name apart is

write_apart : (c : Catalog) (w : Write) → AreApart c → AreApart (catalog_after c w)
write_apart c (Class name capacity point attributes) apart = apart
write_apart c (Insert s class name place sets) apart = insert_apart (has_object c name) c (number_of_class c class) name refl apart
write_apart c (Update s name place sets) apart = apart
write_apart c (Remove s name) apart = apart

writes_apart : (writes : List Write) (c : Catalog) → AreApart c → AreApart (fold catalog_after c writes)
writes_apart [] c apart = apart
writes_apart (w ∷ writes) c apart = writes_apart writes (catalog_after c w) (write_apart c w apart)

none_apart : AreApart empty_catalog
unfolding IsDistinct
none_apart = tt

pub names_apart : (writes : List Write) → IsDistinct bytes_eq (map (λ o. o.name) (catalog writes).objects)
names_apart writes = writes_apart writes empty_catalog none_apart

-- ---- a name that isn't inserted

either_none : (b : Bool) (x y : Option (List Cell)) → x ≡ None → y ≡ None → (if b then x else y) ≡ None
either_none true x y h k = h
either_none false x y h k = k

absent_write : (c : Catalog) (o : List ℕ) (t : ℕ) (cells : Option (List Cell)) (w : Write) → cells ≡ None → inserts o w ≡ false → cells_after_write c o t cells w ≡ None
absent_write c o t cells (Class name capacity point attributes) none other = none
absent_write c o t cells (Insert s class name place sets) none other =
    ap (λ b. if b && nat_le s t then Some (inserted s (attributes_of_class (class_of c class)) place sets) else cells) other ∙ none
absent_write c o t cells (Update s name place sets) none other =
    let write = updated s (attributes_of_object c (object_of c o)) place sets in
    either_none (bytes_eq o name && nat_le s t) (option_map write cells) cells (ap (option_map write) none) none
absent_write c o t cells (Remove s name) none other = either_none (bytes_eq o name && nat_le s t) None cells refl none

absent_writes : (writes : List Write) (o : List ℕ) (t : ℕ) (so_far : SoFar) → so_far.cells ≡ None → list_any (inserts o) writes ≡ false → (fold (after_write o t) so_far writes).cells ≡ None
absent_writes [] o t so_far none other = none
absent_writes (w ∷ writes) o t so_far none other =
    let parts = both_false (inserts o w) (list_any (inserts o) writes) other in
    absent_writes writes o t (after_write o t so_far w) (absent_write so_far.catalog o t so_far.cells w none parts.0) parts.1

pub absent_name : (writes : List Write) (o : List ℕ) (t : ℕ) → list_any (inserts o) writes ≡ false → state writes o t ≡ None
absent_name writes o t other = absent_writes writes o t (record { catalog = empty_catalog; cells = None }) refl other
