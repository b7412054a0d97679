-- The number of a binding by its objects, and relations whose rows are those of bindings.
use Rattle.std.specs.Prelude.{◌≡◌, ⊤, ℕ, ◌<◌, nat_lt, true, List, [], ◌∷◌, map}
use Rattle.std.specs.List.Sorted.{IsStrictlyIncreasing}
use Rattle.tick_set.specs.Ticks.{between}
use Rattle.tick_set.specs.declared.spans.Span.{Span}
use Rattle.formula.specs.Resolved.{are_distinct}
use Rattle.kept_rows.specs.Numbers.{counts, size_of}
use Rattle.relation.specs.Key.{has_id, ids_of_variable}
use Rattle.relation.specs.Rows.{Table}
use Rattle.live_queries.specs.Columns.{AreCounted, Column, column_variables, columns_have, object_at_number}

-- the objects of each column ascend
abbrev pub DoAscend : List Column → Type 0
DoAscend [] = ⊤
DoAscend (c ∷ cs) = IsStrictlyIncreasing c.ids × DoAscend cs

-- the objects that a function gives the columns' variables are among theirs
abbrev pub AreAmong : List Column → (ℕ → ℕ) → Type 0
AreAmong [] f = ⊤
AreAmong (c ∷ cs) f = (has_id c.ids (f c.variable) ≡ true) × AreAmong cs f

-- a number is that of the binding that gives the columns' variables the objects that a function gives them
pub record IsNumberOf (cs : List Column) (f : ℕ → ℕ) (number : ℕ) : Type 0 where
  pub below : number < size_of (column_variables cs)
  pub counted : counts (column_variables cs) number ≡ true
  pub objects : (v : ℕ) → columns_have cs v ≡ true → object_at_number cs number v ≡ f v

-- the domain of each column's variable has the objects of the column
abbrev pub HaveDomains : List (List ℕ) → List Column → Type 0
HaveDomains domains [] = ⊤
HaveDomains domains (c ∷ cs) = (ids_of_variable domains c.variable ≡ c.ids) × HaveDomains domains cs

-- the variables of a relation are those of the columns, the first so many in their order, each once, and range over the
-- columns' objects
pub record IsOverColumns (cs : List Column) (r : Table (List Span)) : Type 0 where
  pub ascend : DoAscend cs
  pub counted : AreCounted cs
  pub distinct : are_distinct (map (λ c. c.variable) cs) ≡ true
  pub count : ℕ
  pub vars : r.vars ≡ between 0 count
  pub each : (v : ℕ) → columns_have cs v ≡ nat_lt v count
  pub domains : HaveDomains r.domains cs
