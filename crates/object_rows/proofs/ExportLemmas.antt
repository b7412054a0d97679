-- What is written of objects.
use Rattle.std.proofs.Common.{◌≡◌, ℕ, zero, suc, ◌+◌, ◌<◌, ◌≤◌, ◌==◌, ◌∙◌, ◌&&◌, nat_le, nat_lt, Bool, true, false, cond, Option, Some, None, IfSome, is_some, slice_get, unwrap_or, subst, List, [], ◌∷◌, ◌++◌, length, map, refl, ap, sym, arith, append_assoc}
use Rattle.std.proofs.lemmas.Bool.Decides.{nat_tests}
use Rattle.std.proofs.lemmas.List.{length-map}
use Rattle.std.proofs.lemmas.Grind.{flat_map-append}
use Rattle.std.specs.List.{enumerate_from, filter, flat_map, fold}
use Rattle.motion.specs.declared.cell.Cell.{Cell}
use Rattle.motion.specs.declared.cell.Cell.TheVariants as cells
use Rattle.motion.specs.Cells.{AreCellsAt, IsCellAt}
use Rattle.std.specs.Option.{option_and_then}
use Rattle.std.proofs.lemmas.List.Elements.{All-tail}
use Rattle.motion.specs.Timeline.{Epoch, cells_of, epoch_at, state_at}
use Rattle.motion.proofs.PieceLemmas.{AreCellsAt-later}
use Rattle.csv.specs.Writing.{default_writer, row_text}
use Rattle.history.specs.Catalog.{ClassInfo, ObjectInfo, attributes_of_class, ids_of}
use Rattle.history.specs.History.{History}
use Rattle.object_rows.specs.Columns.{header_of}
use Rattle.object_rows.specs.Exported.{exported, object_rows}
use Rattle.object_store.specs.Contents.{Contents, catalog_of, object_info}
use Rattle.object_rows.proofs.Ids.{are_below}

-- ---- An epoch in force has begun

found_begun : (p : Epoch) (t : ℕ) (found : Option Epoch) (b : Bool) → nat_le p.from t ≡ b → IfSome found (λ q. q.from ≤ t)
    → IfSome (cond b (Some p) found) (λ q. q.from ≤ t)
found_begun p t found true e begun = grind (arith, nat_tests, e)
found_begun p t found false e begun = begun

later_found : (epochs : List Epoch) (t : ℕ) (found : Option Epoch) → IfSome found (λ p. p.from ≤ t)
    → IfSome (fold (λ (found : Option Epoch) (p : Epoch). cond (nat_le p.from t) (Some p) found) found epochs) (λ p. p.from ≤ t)
later_found [] t found begun = begun
later_found (p ∷ epochs) t found begun = later_found epochs t (cond (nat_le p.from t) (Some p) found) (found_begun p t found (nat_le p.from t) refl begun)

pub epoch_begun : (epochs : List Epoch) (t : ℕ) (p : Epoch) → Some p ≡ epoch_at epochs t → p.from ≤ t
epoch_begun epochs t p at = rw (sym at) at (later_found epochs t None tt)

pub state_is : (epochs : List Epoch) (t : ℕ) (p : Epoch) (object : List Cell) → Some p ≡ epoch_at epochs t → is_some p.cells ≡ true → object ≡ cells_of p
    → Some object ≡ state_at epochs t
state_is epochs t p object at present are = ap Some are ∙ there p.cells present ∙ ap (option_and_then (λ (q : Epoch). q.cells)) at
  where
    there : (o : Option (List Cell)) → is_some o ≡ true → Some (unwrap_or o []) ≡ o
    there None h = absurd (cc h)
    there (Some x) h = refl

pub state_none : (epochs : List Epoch) (t : ℕ) (p : Epoch) (b : Bool) → Some p ≡ epoch_at epochs t → (is_some p.cells ≡ true → b ≡ true) → b ≡ false
    → None ≡ state_at epochs t
state_none epochs t p b at present absent = gone p.cells (λ h. sym (present h) ∙ absent) ∙ ap (option_and_then (λ (q : Epoch). q.cells)) at
  where
    gone : (o : Option (List Cell)) → (is_some o ≡ true → true ≡ false) → None ≡ o
    gone None h = refl
    gone (Some x) h = absurd (cc (h refl))

pub state_written : (epochs : List Epoch) (t : ℕ) (p : Epoch) (object : List Cell) → Some p ≡ epoch_at epochs t → AreCellsAt object p.from → AreCellsAt object t
state_written epochs t p object at are = AreCellsAt-later object p.from t (epoch_begun epochs t p at) are

pub ruleset state_steps = (state_is, state_none, state_written)

-- ---- Cells that are gone through one by one

pub first_cell : (object later : List Cell) (cell : Cell) (t : ℕ) → object ≡ cell ∷ later → AreCellsAt object t → IsCellAt cell t
first_cell object later cell t is are = let all = subst (λ cs. AreCellsAt cs t) is are in all 0 cell (omega arith)

pub later_cells : (object later : List Cell) (cell : Cell) (t : ℕ) → object ≡ cell ∷ later → AreCellsAt object t → AreCellsAt later t
later_cells object later cell t is are = All-tail (λ c. IsCellAt c t) cell later (subst (λ cs. AreCellsAt cs t) is are)

pub ruleset cell_steps = (first_cell, later_cells)

-- ---- The objects of a class are stored

abbrev members : ℕ → ℕ → List ObjectInfo → List (ℕ × ObjectInfo)
members class first objects = filter (λ (e : ℕ × ObjectInfo). e.1.class == class) (enumerate_from first objects)

numbers_below : (class first n : ℕ) (objects : List ObjectInfo) → first + length objects ≤ n
    → are_below n (map (λ (e : ℕ × ObjectInfo). e.0) (members class first objects)) ≡ true
numbers_below class first n [] within = refl
numbers_below class first n (o ∷ objects) within =
    by (o.class == class) (numbers_below class (first + 1) n objects (omega (arith, within)))
  where
    by : (its : Bool) → are_below n (map (λ (e : ℕ × ObjectInfo). e.0) (members class (first + 1) objects)) ≡ true
        → are_below n (map (λ (e : ℕ × ObjectInfo). e.0) (cond its ((first, o) ∷ members class (first + 1) objects) (members class (first + 1) objects))) ≡ true
    by true later =
        let below : nat_lt first n ≡ true = grind (arith, nat_tests, within) in
        ap (λ b. b && are_below n (map (λ (e : ℕ × ObjectInfo). e.0) (members class (first + 1) objects))) below ∙ later
    by false later = later

pub ids_below : (s : Contents) (class : ℕ) → are_below (length s.objects) (ids_of (catalog_of s) class) ≡ true
ids_below s class = numbers_below class 0 (length s.objects) (map object_info s.objects) (omega (arith, length-map s.objects object_info))

-- ---- Lists that are written part by part

-- the parts of one more item, before those of the items that are left
pub parts_more : {A B : Type 0} → (parts : A → List B) (item : A) (left later : List A) (old new whole : List B)
    → left ≡ item ∷ later → new ≡ old ++ parts item → old ++ flat_map parts left ≡ whole
    → new ++ flat_map parts later ≡ whole
parts_more parts item left later old new whole cut is all =
    ap (λ done. done ++ flat_map parts later) is
    ∙ append_assoc old (parts item) (flat_map parts later)
    ∙ ap (λ items. old ++ flat_map parts items) (sym cut)
    ∙ all

-- one more item before those that are left
pub text_more : {A B C : Type 0} → (texts : B → List C) (rows : A → List B) (item : A) (left later : List A) (old new whole : List C)
    → left ≡ item ∷ later → new ≡ old ++ flat_map texts (rows item) → old ++ flat_map texts (flat_map rows left) ≡ whole
    → new ++ flat_map texts (flat_map rows later) ≡ whole
text_more texts rows item left later old new whole cut is all =
    ap (λ text. text ++ flat_map texts (flat_map rows later)) is
    ∙ append_assoc old (flat_map texts (rows item)) (flat_map texts (flat_map rows later))
    ∙ ap (λ text. old ++ text) (sym (flat_map-append texts (rows item) (flat_map rows later)))
    ∙ ap (λ items. old ++ flat_map texts (flat_map rows items)) (sym cut)
    ∙ all

-- ---- The objects that are left are stored

pub first_below : (n id : ℕ) (left later : List ℕ) → left ≡ id ∷ later → are_below n left ≡ true → id < n
first_below n id left later cut below = grind (arith, nat_tests, rw cut at below)

pub later_below : (n id : ℕ) (left later : List ℕ) → left ≡ id ∷ later → are_below n left ≡ true → are_below n later ≡ true
later_below n id left later cut below = by (nat_lt id n) (rw cut at below)
  where
    by : (b : Bool) → (b && are_below n later) ≡ true → are_below n later ≡ true
    by true h = h
    by false h = absurd (cc h)

-- ---- The whole text

pub class_there : {A : Type 0} → (classes : List A) (class : ℕ) → class < length classes → is_some (slice_get classes class) ≡ true
class_there [] class within = absurd (omega (arith, within))
class_there (k ∷ ks) zero within = refl
class_there (k ∷ ks) (suc class) within = class_there ks class (omega (arith, within))

pub whole_text : (h : History) (now class : ℕ) (k : ClassInfo) (header whole : List ℕ) → slice_get h.catalog.classes class ≡ Some k
    → header ≡ [] ++ row_text default_writer (header_of k.attributes)
    → whole ≡ header ++ flat_map (row_text default_writer) (flat_map (object_rows h now) (ids_of h.catalog class))
    → whole ≡ exported h now class
unfolding exported
whole_text h now class k header whole is begun all =
    let objects : List ℕ = flat_map (row_text default_writer) (flat_map (object_rows h now) (ids_of h.catalog class)) in
    all
    ∙ ap (λ text. text ++ objects) begun
    ∙ ap (λ o. row_text default_writer (header_of (attributes_of_class o)) ++ objects) (sym is)
