-- Accepted writes lead to states of bounded size alone.
use Rattle.std.proofs.Common.{◌≡◌, ℕ, ◌+◌, ◌*◌, ◌-◌, ◌≤◌, ℤ, unsigned_abs, Bool, true, false, List, [], ◌∷◌, ◌++◌, map, refl, ap, ◌∙◌, inl, inr, arith, if◌then◌else◌}
use Rattle.std.specs.Prelude.{nat_le}
use Rattle.std.specs.List.{fold, list_all}
use Rattle.std.specs.Str.{bytes_eq}
use Rattle.std.proofs.lemmas.Bool.{and_from, and_parts, cases_lt}
use Rattle.std.proofs.lemmas.Bool.Decides.{nat_tests}
use Rattle.fixed_point.specs.declared.number.TheConstants.{READ_LIMIT, SLOPE_LIMIT}
use Rattle.motion.specs.Cells.{fresh, kind_of, place_sets, set_named, written}
use Rattle.motion.specs.Dynamic.{Dynamic, value_at}
use Rattle.motion.specs.Function.{Function, legs_rest, rest, rise}
use Rattle.motion.specs.declared.cell.AttrKind.{AttrKind}
use Rattle.motion.specs.declared.cell.AttrKind.TheVariants as kinds
use Rattle.motion.specs.declared.cell.Cell.{Cell}
use Rattle.motion.specs.declared.cell.Cell.TheVariants as cells
use Rattle.motion.specs.declared.cell.Given.{Given}
use Rattle.motion.specs.declared.cell.Given.TheVariants as givens
use Rattle.motion.specs.declared.cell.NamedSet.{NamedSet}
use Rattle.motion.specs.declared.cell.Place.{Place}
use Rattle.history.specs.State.{attribute_names, inserted, updated}
use Rattle.history.specs.Write.{Attribute}
use Rattle.meaning.specs.Accepted.{are_given, is_given}
use Rattle.meaning.specs.Reachable.{is_reachable, is_reached, is_slope, is_slow}
use Rattle.meaning.proofs.BoundLemmas.{Reached, reached, rise_near, sum_near}

-- ---- one write

rest_is_slow : (legs : List (ℤ × ℕ)) (d : ℕ) → list_all (λ leg. is_slope leg.0) legs ≡ true → list_all (λ leg. is_slope leg.0) (legs_rest legs d) ≡ true
rest_is_slow [] d slow = refl
rest_is_slow (leg ∷ legs) d slow =
    let parts = and_parts (is_slope leg.0) (list_all (λ l. is_slope l.0) legs) slow in
    elim (cases_lt d leg.1) [
      | inl runs ↦
          let is : legs_rest (leg ∷ legs) d ≡ (leg.0, leg.1 - d) ∷ legs = grind (arith, nat_tests) in
          ap (list_all (λ l. is_slope l.0)) is ∙ slow
      | inr ended ↦
          let is : legs_rest (leg ∷ legs) d ≡ legs_rest legs (d - leg.1) = grind (arith, nat_tests) in
          ap (list_all (λ l. is_slope l.0)) is ∙ rest_is_slow legs (d - leg.1) parts.1
    ]

slow_from : (f : Function) → list_all (λ leg. is_slope leg.0) f.firsts ≡ true → is_slope f.last ≡ true → is_slow f ≡ true
slow_from f firsts last = and_from (list_all (λ leg. is_slope leg.0) f.firsts) (is_slope f.last) firsts last

-- a vector that is written at tick s
new_is_reached : (s : ℕ) (n : ℤ) (f : Function) → unsigned_abs n ≤ READ_LIMIT + SLOPE_LIMIT * s → is_slow f ≡ true →
    is_reached s (record { value = n; updatetime = s; function = f }) ≡ true
new_is_reached s n f near slow = grind (arith, nat_tests, near, slow)

given_is_near : (n : ℤ) (s : ℕ) → nat_le (unsigned_abs n) READ_LIMIT ≡ true → unsigned_abs n ≤ READ_LIMIT + SLOPE_LIMIT * s
given_is_near n s given = let near : unsigned_abs n ≤ READ_LIMIT = grind (arith, nat_tests, given) in omega (arith, near)

value_is_near : (s : ℕ) (v : Dynamic) → Reached s v → unsigned_abs (value_at v s) ≤ READ_LIMIT + SLOPE_LIMIT * s
value_is_near s v r =
    sum_near v.value (rise v.function (s - v.updatetime)) (READ_LIMIT + SLOPE_LIMIT * v.updatetime) (SLOPE_LIMIT * (s - v.updatetime))
    (READ_LIMIT + SLOPE_LIMIT * s) r.near (rise_near v.function.firsts v.function.last (s - v.updatetime) r.firsts r.last) (omega (arith, r.updated))

written_is_reachable : (s : ℕ) (cell : Cell) (given : Given) → is_reachable s cell ≡ true → is_given given ≡ true → is_reachable s (written s cell given) ≡ true
written_is_reachable s (cells.Num n) (givens.Num new) is given = given
written_is_reachable s (cells.Num n) (givens.Text new) is given = is
written_is_reachable s (cells.Num n) (givens.Rate f) is given = is
written_is_reachable s (cells.Num n) (givens.Both new f) is given = is
written_is_reachable s (cells.Text w) (givens.Num new) is given = is
written_is_reachable s (cells.Text w) (givens.Text new) is given = refl
written_is_reachable s (cells.Text w) (givens.Rate f) is given = is
written_is_reachable s (cells.Text w) (givens.Both new f) is given = is
written_is_reachable s (cells.Dyn v) (givens.Num n) is given =
    let r = reached s v is in
    new_is_reached s n (rest v.function (s - v.updatetime)) (given_is_near n s given)
    (slow_from (rest v.function (s - v.updatetime)) (rest_is_slow v.function.firsts (s - v.updatetime) r.firsts) r.last)
written_is_reachable s (cells.Dyn v) (givens.Text new) is given = is
written_is_reachable s (cells.Dyn v) (givens.Rate f) is given = new_is_reached s (value_at v s) f (value_is_near s v (reached s v is)) given
written_is_reachable s (cells.Dyn v) (givens.Both n f) is given =
    let parts = and_parts (nat_le (unsigned_abs n) READ_LIMIT) (is_slow f) given in
    new_is_reached s n f (given_is_near n s parts.0) parts.1

written_keeps_kind : (s : ℕ) (cell : Cell) (given : Given) → kind_of (written s cell given) ≡ kind_of cell
written_keeps_kind s (cells.Num n) (givens.Num new) = refl
written_keeps_kind s (cells.Num n) (givens.Text new) = refl
written_keeps_kind s (cells.Num n) (givens.Rate f) = refl
written_keeps_kind s (cells.Num n) (givens.Both new f) = refl
written_keeps_kind s (cells.Text w) (givens.Num new) = refl
written_keeps_kind s (cells.Text w) (givens.Text new) = refl
written_keeps_kind s (cells.Text w) (givens.Rate f) = refl
written_keeps_kind s (cells.Text w) (givens.Both new f) = refl
written_keeps_kind s (cells.Dyn v) (givens.Num n) = refl
written_keeps_kind s (cells.Dyn v) (givens.Text new) = refl
written_keeps_kind s (cells.Dyn v) (givens.Rate f) = refl
written_keeps_kind s (cells.Dyn v) (givens.Both n f) = refl

-- ---- the writes of a command

module _ (s : ℕ) where
  first_named : (here : Bool) (cell : Cell) (there others : List Cell) (given : Given) → is_given given ≡ true →
      is_reachable s cell ≡ true → list_all (is_reachable s) there ≡ true → list_all (is_reachable s) others ≡ true →
      list_all (is_reachable s) (if here then (written s cell given ∷ there) else (cell ∷ others)) ≡ true
  first_named true cell there others given is first later other =
      and_from (is_reachable s (written s cell given)) (list_all (is_reachable s) there) (written_is_reachable s cell given first is) later
  first_named false cell there others given is first later other = and_from (is_reachable s cell) (list_all (is_reachable s) others) first other

  named_is_reachable : (names : List (List ℕ)) (there : List Cell) (set : NamedSet) → is_given set.given ≡ true → list_all (is_reachable s) there ≡ true →
      list_all (is_reachable s) (set_named s names there set) ≡ true
  named_is_reachable [] there set given is = is
  named_is_reachable (name ∷ names) [] set given is = refl
  named_is_reachable (name ∷ names) (cell ∷ there) set given is =
      let parts = and_parts (is_reachable s cell) (list_all (is_reachable s) there) is in
      first_named (bytes_eq name set.name) cell there (set_named s names there set) set.given given parts.0 parts.1
      (named_is_reachable names there set given parts.1)

  sets_are_reachable : (names : List (List ℕ)) (sets : List NamedSet) (there : List Cell) → list_all (λ set. is_given set.given) sets ≡ true →
      list_all (is_reachable s) there ≡ true → list_all (is_reachable s) (fold (set_named s names) there sets) ≡ true
  sets_are_reachable names [] there given is = is
  sets_are_reachable names (set ∷ sets) there given is =
      let parts = and_parts (is_given set.given) (list_all (λ r. is_given r.given) sets) given in
      sets_are_reachable names sets (set_named s names there set) parts.1 (named_is_reachable names there set parts.0 is)

  first_kinds : (here : Bool) (cell : Cell) (there others : List Cell) (given : Given) → map kind_of others ≡ map kind_of there →
      map kind_of (if here then (written s cell given ∷ there) else (cell ∷ others)) ≡ kind_of cell ∷ map kind_of there
  first_kinds true cell there others given same = ap (λ k. k ∷ map kind_of there) (written_keeps_kind s cell given)
  first_kinds false cell there others given same = ap (λ ks. kind_of cell ∷ ks) same

  named_keeps_kinds : (names : List (List ℕ)) (there : List Cell) (set : NamedSet) → map kind_of (set_named s names there set) ≡ map kind_of there
  named_keeps_kinds [] there set = refl
  named_keeps_kinds (name ∷ names) [] set = refl
  named_keeps_kinds (name ∷ names) (cell ∷ there) set =
      first_kinds (bytes_eq name set.name) cell there (set_named s names there set) set.given (named_keeps_kinds names there set)

  sets_keep_kinds : (names : List (List ℕ)) (sets : List NamedSet) (there : List Cell) → map kind_of (fold (set_named s names) there sets) ≡ map kind_of there
  sets_keep_kinds names [] there = refl
  sets_keep_kinds names (set ∷ sets) there = sets_keep_kinds names sets (set_named s names there set) ∙ named_keeps_kinds names there set

  -- an update, and an insert

  pub updated_is_reachable : (attributes : List Attribute) (place : Place) (sets : List NamedSet) (there : List Cell) → are_given place sets ≡ true →
      list_all (is_reachable s) there ≡ true → list_all (is_reachable s) (updated s attributes place sets there) ≡ true
  updated_is_reachable attributes place sets there given is = sets_are_reachable (attribute_names attributes) (place_sets place ++ sets) there given is

  pub updated_keeps_kinds : (attributes : List Attribute) (place : Place) (sets : List NamedSet) (there : List Cell) →
      map kind_of (updated s attributes place sets there) ≡ map kind_of there
  updated_keeps_kinds attributes place sets there = sets_keep_kinds (attribute_names attributes) (place_sets place ++ sets) there

  fresh_is_reachable : (k : AttrKind) → is_reachable s (fresh s k) ≡ true
  fresh_is_reachable kinds.Num = refl
  fresh_is_reachable kinds.Text = refl
  fresh_is_reachable kinds.Dyn = grind (arith, nat_tests)

  fresh_has_kind : (k : AttrKind) → kind_of (fresh s k) ≡ k
  fresh_has_kind kinds.Num = refl
  fresh_has_kind kinds.Text = refl
  fresh_has_kind kinds.Dyn = refl

  fresh_cells : (attributes : List Attribute) → list_all (is_reachable s) (map (λ a. fresh s a.kind) attributes) ≡ true
  fresh_cells [] = refl
  fresh_cells (a ∷ attributes) =
      and_from (is_reachable s (fresh s a.kind)) (list_all (is_reachable s) (map (λ b. fresh s b.kind) attributes)) (fresh_is_reachable a.kind) (fresh_cells attributes)

  fresh_kinds : (attributes : List Attribute) → map kind_of (map (λ a. fresh s a.kind) attributes) ≡ map (λ a. a.kind) attributes
  fresh_kinds [] = refl
  fresh_kinds (a ∷ attributes) =
      ap (λ k. k ∷ map kind_of (map (λ b. fresh s b.kind) attributes)) (fresh_has_kind a.kind) ∙ ap (λ ks. a.kind ∷ ks) (fresh_kinds attributes)

  pub inserted_is_reachable : (attributes : List Attribute) (place : Place) (sets : List NamedSet) → are_given place sets ≡ true →
      list_all (is_reachable s) (inserted s attributes place sets) ≡ true
  inserted_is_reachable attributes place sets given =
      sets_are_reachable (attribute_names attributes) (place_sets place ++ sets) (map (λ a. fresh s a.kind) attributes) given (fresh_cells attributes)

  pub inserted_has_kinds : (attributes : List Attribute) (place : Place) (sets : List NamedSet) →
      map kind_of (inserted s attributes place sets) ≡ map (λ a. a.kind) attributes
  inserted_has_kinds attributes place sets =
      sets_keep_kinds (attribute_names attributes) (place_sets place ++ sets) (map (λ a. fresh s a.kind) attributes) ∙ fresh_kinds attributes

-- ---- what is reachable stays so

cell_stays : (s t : ℕ) → s ≤ t → (cell : Cell) → is_reachable s cell ≡ true → is_reachable t cell ≡ true
cell_stays s t upto (cells.Num n) is = is
cell_stays s t upto (cells.Text w) is = refl
cell_stays s t upto (cells.Dyn v) is =
    let r = reached s v is in
    let slow = slow_from v.function r.firsts r.last in
    let updated : v.updatetime ≤ t = omega (arith, r.updated, upto) in
    grind (arith, nat_tests, r.near, slow, updated)

pub cells_stay : (s t : ℕ) → s ≤ t → (there : List Cell) → list_all (is_reachable s) there ≡ true → list_all (is_reachable t) there ≡ true
cells_stay s t upto [] is = refl
cells_stay s t upto (cell ∷ there) is =
    let parts = and_parts (is_reachable s cell) (list_all (is_reachable s) there) is in
    and_from (is_reachable t cell) (list_all (is_reachable t) there) (cell_stays s t upto cell parts.0) (cells_stay s t upto there parts.1)
