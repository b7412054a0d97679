-- Domains with the objects of some rows alone.
use Rattle.std.specs.Prelude.{◌≡◌, ℕ, ◌≤◌, Bool, true, ◌&&◌, List, [], ◌∷◌, length, map, slice_index, if◌then◌else◌}
use Rattle.std.specs.Str.{bytes_eq}
use Rattle.tick_set.specs.Ticks.{within}
use Rattle.formula.specs.declared.value.Env.{Env}
use Rattle.formula.specs.Tree.{ResolvedTree}
use Rattle.formula.specs.Variables.{variables_of}
use Rattle.meaning.specs.Satisfaction.{Interpretation, sat}
use Rattle.relation.specs.declared.row.Row.{Row}
use Rattle.relation.specs.Frames.{IsIn, IsWider, domain_size, frame, frame_of}
use Rattle.relation.specs.Key.{ids_of_variable}
use Rattle.relation.specs.Order.{has_row}
use Rattle.relation.specs.Rows.{Table, table_has}

-- the first object of each row
abbrev pub first_ids : {S : Type 0} → List (Row S) → List ℕ
first_ids rows = map (λ k. slice_index k 0) (map (λ r. r.key) rows)

-- the objects that rows over these variables leave to a variable: none where there is no row, those of the rows where it
-- is their only variable, and else all
abbrev pub ids_left : {S : Type 0} → List ℕ → List (Row S) → List (List ℕ) → ℕ → List ℕ
ids_left vars [] domains v = []
ids_left vars (r ∷ rest) domains v = if bytes_eq vars (v ∷ []) then first_ids (r ∷ rest) else ids_of_variable domains v

-- domains that have nothing but objects of others, and all objects of each assignment that has a row
pub record AreForRows {S : Type 0} (r : Table S) (old new : List (List ℕ)) : Type 0 where
  pub many : length new ≡ length old
  pub wider : IsWider new old
  pub few : (v : ℕ) → domain_size new v ≤ domain_size old v
  pub all : (b : ℕ → ℕ) → IsIn old b → has_row r.rows (map b r.vars) ≡ true → IsIn new b

-- the rows of a formula at each assignment that has a row of another relation
pub record AreRowsBeside {S : Type 0} (member : S → ℕ → Bool) (j : (ℕ → ℕ) → Interpretation) (domains : List (List ℕ)) (lo hi : ℕ) (f : ResolvedTree) (x : Env) (other r : Table S) : Type 0 where
  pub ticks : (b : ℕ → ℕ) → IsIn domains b → has_row other.rows (map b other.vars) ≡ true → (t : ℕ) → table_has member r b t ≡ (within lo hi t && sat (j b) f x hi t)
  pub vars : r.vars ≡ variables_of f
  pub frame : frame r ≡ frame_of domains lo hi
