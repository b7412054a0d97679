-- A walk over the bindings of a list of variables, in their order, with two parts of relations at hand.
use Rattle.std.specs.Prelude.{◌≡◌, ◌+◌, ◌≤◌, ◌<◌, ◌==◌, ℕ, Bool, true, false, not, ◌&&◌, ◌||◌, List, [], ◌∷◌, ◌++◌, map, length, nat_le, nat_lt, if◌then◌else◌}
use Rattle.std.specs.List.{list_all}
use Rattle.formula_shape.specs.declared.limits.TheConstants.{OBJECT_LIMIT}
use Rattle.relation.specs.declared.operation.Operation.{Operation}
use Rattle.relation.specs.declared.operation.Operation.TheVariants as operations
use Rattle.relation.specs.declared.part.Part.{Part}
use Rattle.relation.specs.declared.row.Row.{Row}
use Rattle.relation.specs.Frames.{IsIn}
use Rattle.relation.specs.Group.{ids_at}
use Rattle.relation.specs.Key.{are_known, key_below, key_in}
use Rattle.relation.specs.Operations.{combined_between}
use Rattle.relation.specs.Part.{IsRowPart, offers, part_has}
use Rattle.relation.specs.Rows.{IsSameHead, Table, has_at}

-- whether a key is not above all that continue a front
abbrev pub key_upto : List ℕ → List ℕ → Bool
key_upto key [] = true
key_upto [] (x ∷ front) = false
key_upto (y ∷ key) (x ∷ front) = nat_lt y x || (y == x && key_upto key front)

-- whether a key begins with a front
abbrev pub key_starts : List ℕ → List ℕ → Bool
key_starts key [] = true
key_starts [] (x ∷ front) = false
key_starts (y ∷ key) (x ∷ front) = y == x && key_starts key front

-- whether the second list is the first one without some of its members
abbrev pub covers : List ℕ → List ℕ → Bool
covers vars [] = true
covers [] (u ∷ us) = false
covers (v ∷ vars) (u ∷ us) = if u == v then covers vars us else covers vars (u ∷ us)

-- the objects that are visited for a variable, of those of the left part, of the right part and of the variable's domain,
-- by whether the walk may go by those of each part: with no other object there is a tick
abbrev pub visited_by : Operation → Bool → Bool → List ℕ → List ℕ → List ℕ → List ℕ
visited_by operations.Meet left right lefts rights ids = if left then lefts else (if right then rights else ids)
visited_by operations.Union left right lefts rights ids = if left && right then lefts ++ rights else ids
visited_by (operations.Until form c) left right lefts rights ids = if right then rights else ids
visited_by operations.Complement left right lefts rights ids = ids

-- where the walk needs a tick of both parts it goes by the one with fewer rows
abbrev pub goes_left : {S : Type 0} → Operation → ℕ → Part S → Part S → Bool
goes_left operations.Meet var p q = offers var p && (not (offers var q) || nat_le (length p.rows.now) (length q.rows.now))
goes_left operations.Union var p q = offers var p
goes_left (operations.Until form c) var p q = offers var p
goes_left operations.Complement var p q = offers var p

abbrev pub visited : {S : Type 0} → Operation → ℕ → List ℕ → Part S → Part S → List ℕ
visited op var ids p q =
    visited_by op (goes_left op var p q) (offers var q) (ids_at p.place p.rows.now) (ids_at q.place q.rows.now) ids

-- the set of the first row, or another one where there is none
abbrev pub set_or : {S : Type 0} → S → List (Row S) → S
set_or nothing [] = nothing
set_or nothing (r ∷ rest) = r.set

-- the walk can go on: the key gives objects to the variables before these, and all rows made so far come before it
pub record CanWalk {S : Type 0} (member : S → ℕ → Bool) (made : Table S) (key vars : List ℕ) (p q : Part S) : Type 0 where
  pub left : IsRowPart member made.domains made.lo made.hi p
  pub right : IsRowPart member made.domains made.lo made.hi q
  pub left_vars : covers vars p.vars.now ≡ true
  pub right_vars : covers vars q.vars.now ≡ true
  pub known : are_known made.domains vars ≡ true
  pub fits : (rest : List ℕ) → key_in made.domains vars rest ≡ true → key_in made.domains made.vars (key ++ rest) ≡ true
  pub above : list_all (λ r. key_below r.key key) made.rows ≡ true
  pub room : length key + length vars ≤ OBJECT_LIMIT
  pub left_room : p.place + length p.vars.now ≤ OBJECT_LIMIT
  pub right_room : q.place + length q.vars.now ≤ OBJECT_LIMIT

-- all bindings that continue the key have their ticks, and no others changed
pub record HasWalked {S : Type 0} (member : S → ℕ → Bool) (op : Operation) (key vars : List ℕ) (p q : Part S) (old new : Table S) : Type 0 where
  pub head : IsSameHead old new
  pub here : (b : ℕ → ℕ) → IsIn old.domains b → (t : ℕ) →
      has_at member new.rows (key ++ map b vars) t ≡ combined_between op old.lo old.hi (part_has member p b) (part_has member q b) t
  pub elsewhere : (k : List ℕ) → key_starts k key ≡ false → (t : ℕ) → has_at member new.rows k t ≡ has_at member old.rows k t
  pub upto : list_all (λ r. key_upto r.key key) new.rows ≡ true

-- a walk in the midst of a variable: the objects below `from` have been visited
pub record IsWalking {S : Type 0} (member : S → ℕ → Bool) (op : Operation) (key : List ℕ) (var : ℕ) (vars : List ℕ) (p q : Part S) (old now : Table S) (from : ℕ) : Type 0 where
  pub head : IsSameHead old now
  pub here : (b : ℕ → ℕ) → IsIn old.domains b → b var < from → (t : ℕ) →
      has_at member now.rows (key ++ b var ∷ map b vars) t ≡ combined_between op old.lo old.hi (part_has member p b) (part_has member q b) t
  pub elsewhere : (k : List ℕ) → key_starts k key ≡ false → (t : ℕ) → has_at member now.rows k t ≡ has_at member old.rows k t
  pub above : (y : ℕ) → from ≤ y → list_all (λ r. key_below r.key (key ++ y ∷ [])) now.rows ≡ true
