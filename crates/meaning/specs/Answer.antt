-- The answer to a query: which objects satisfy it, and when.
use Rattle.std.specs.Prelude.{ℕ, Bool, true, false, ◌&&◌, List, [], ◌∷◌, map, slice_index}
use Rattle.std.specs.List.{filter, list_any}
use Rattle.tick_set.specs.Ticks.{listed, within}
use Rattle.tick_set.specs.Runs.{runs_of}
use Rattle.history.specs.World.{World}
use Rattle.formula.specs.Tree.{ResolvedQuery}
use Rattle.meaning.specs.Binding.{bindings, holds_full, target_where, tuples}

-- objects by their numbers, and the maximal runs of the ticks at which they satisfy the query, each as its first and last
-- tick
pub record Row : Type 0 where
  pub key : List ℕ
  pub runs : List (ℕ × ℕ)

abbrev pub has_ticks : List (ℕ × ℕ) → Bool
has_ticks [] = false
has_ticks (run ∷ runs) = true

-- whether a tick is in one of the runs
abbrev pub runs_have : List (ℕ × ℕ) → ℕ → Bool
runs_have runs t = list_any (λ run. within run.0 run.1 t) runs

-- whether one of the rows has a tick, of those whose key passes the test
abbrev pub rows_have : List Row → (List ℕ → Bool) → ℕ → Bool
rows_have rows test t = list_any (λ row. test row.key && runs_have row.runs t) rows

abbrev pub row_where : (List ℕ → ℕ → Bool) → ℕ → ℕ → List ℕ → Row
row_where holds from e key = record { key = key; runs = runs_of (listed (holds key) from e) }

-- the rows of some keys in their order, by the ticks of `from` to e at which each holds, without those that have none
abbrev pub rows_where : List (List ℕ) → (List ℕ → ℕ → Bool) → ℕ → ℕ → List Row
rows_where keys holds from e = filter (λ row. has_ticks row.runs) (map (row_where holds from e) keys)

-- a row for each tuple of target objects, in the order of first insertion, variable by variable, by a test of bindings
abbrev pub answer_where : World → ResolvedQuery → ((ℕ → ℕ) → ℕ → Bool) → ℕ → ℕ → List Row
answer_where w q holds from e = rows_where (tuples w q) (target_where w q holds) from e

-- the rows of what satisfies the query
abbrev pub answer : World → ResolvedQuery → ℕ → ℕ → List Row
answer w q from e = answer_where w q (holds_full w q e) from e

-- a row for each binding: what is kept of a query, and what its answer is made of
abbrev pub full_rows : World → ResolvedQuery → ℕ → ℕ → List Row
full_rows w q from e = rows_where (bindings w q) (λ b. holds_full w q e (slice_index b)) from e
