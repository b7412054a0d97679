-- The objects of some of a relation's variables.
use Rattle.std.specs.Prelude.{◌≡◌, ℕ, suc, Bool, true, false, not, ◌&&◌, ◌==◌, List, [], ◌∷◌, map, slice_index, if◌then◌else◌}
use Rattle.std.specs.List.{list_any}
use Rattle.std.specs.Str.{bytes_eq}
use Rattle.relation.specs.declared.row.Row.{Row}
use Rattle.relation.specs.Frames.{IsIn}
use Rattle.relation.specs.Key.{has_id}
use Rattle.relation.specs.Rows.{Table, table_has}

-- the place of a variable in a list, or the length of the list where it is not there
abbrev pub variable_place : List ℕ → ℕ → ℕ
variable_place [] var = 0
variable_place (v ∷ vars) var = if v == var then 0 else suc (variable_place vars var)

-- the objects that a key over `own` gives some variables
abbrev pub picked : List ℕ → List ℕ → List ℕ → List ℕ
picked own key vars = map (λ var. slice_index key (variable_place own var)) vars

-- an assignment that has the tick in a relation, and differs from another one at most at those variables of the relation
-- that are not among `vars`
pub record IsPicked {S : Type 0} (member : S → ℕ → Bool) (r : Table S) (vars : List ℕ) (b : ℕ → ℕ) (t : ℕ) : Type 0 where
  pub other : ℕ → ℕ
  pub here : table_has member r other t ≡ true
  pub same : (var : ℕ) → (has_id r.vars var && not (has_id vars var)) ≡ false → other var ≡ b var
  pub inside : IsIn r.domains b → IsIn r.domains other

-- whether a row has the tick that gives the variables the objects of this key
abbrev pub rows_over : {S : Type 0} → (S → ℕ → Bool) → List ℕ → List ℕ → List (Row S) → List ℕ → ℕ → Bool
rows_over member own vars rows key t = list_any (λ r. bytes_eq (picked own r.key vars) key && member r.set t) rows
