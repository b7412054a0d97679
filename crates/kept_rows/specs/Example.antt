-- Two variables and a few rows, worked out by hand.
use Rattle.std.specs.Prelude.{◌≡◌, ℕ, Bool, true, false, List, [], ◌∷◌, Some, None}
use Rattle.std.proofs.Common.{lit≤}
use Rattle.tick_set.specs.TickList.{has}
use Rattle.kept_rows.specs.declared.binding.Variable.{Variable}
use Rattle.kept_rows.specs.declared.change.Change.{Change}
use Rattle.kept_rows.specs.Changes.{rows_after}
use Rattle.kept_rows.specs.Listing.{line_of, lines_upto, passing_of, target_has}
use Rattle.kept_rows.specs.Numbers.{counts, holds_written, number_of, places_of, size_of}
use Rattle.kept_rows.specs.Rows.{row_has}

-- two cars of at most three, of which the second was written, and three posts of at most four
abbrev pub car_variable : Variable
car_variable = record { count = 2; capacity = 3; own = 1; room = lit≤ tt; some = lit≤ tt }

abbrev pub post : Variable
post = record { count = 3; capacity = 4; own = 3; room = lit≤ tt; some = lit≤ tt }

abbrev pub car_and_post_columns : List Variable
car_and_post_columns = car_variable ∷ post ∷ []

pub record HaveNumbers : Type 0 where
  pub size : size_of car_and_post_columns ≡ 12
  pub number : number_of car_and_post_columns (1 ∷ 2 ∷ []) ≡ 6
  pub places : places_of car_and_post_columns 6 ≡ 1 ∷ 2 ∷ []
  pub binding : counts car_and_post_columns 6 ≡ true
  pub post_that_is_not_there : counts car_and_post_columns 7 ≡ false
  pub car_that_is_not_there : counts car_and_post_columns 8 ≡ false
  pub held : holds_written car_and_post_columns 6 ≡ true
  pub not_held : holds_written car_and_post_columns 2 ≡ false

-- the first page, with the ticks 5 and 6 for the number 1 and the tick 9 for the number 2; the second isn't made
abbrev pub pages : List (List (List ℕ))
pages = ([] ∷ (5 ∷ 6 ∷ []) ∷ (9 ∷ []) ∷ [] ∷ [] ∷ [] ∷ [] ∷ [] ∷ [] ∷ [] ∷ [] ∷ [] ∷ [] ∷ [] ∷ [] ∷ [] ∷ []) ∷ [] ∷ []

-- the number 2 has the tick 5 alone, and the number 20 the tick 7
abbrev pub changes : List (Change (List ℕ))
changes = record { number = 2; ticks = 5 ∷ []; spare = [] } ∷ record { number = 20; ticks = 7 ∷ []; spare = [] } ∷ []

abbrev pub rows : ℕ → ℕ → Bool
rows = row_has has pages

abbrev pub new_rows : ℕ → ℕ → Bool
new_rows = rows_after has changes rows

pub record HaveRows : Type 0 where
  pub row : rows 1 6 ≡ true
  pub other_tick : rows 1 7 ≡ false
  pub page_that_is_not_made : rows 20 7 ≡ false
  pub changed : new_rows 2 5 ≡ true
  pub lost : new_rows 2 9 ≡ false
  pub kept : new_rows 1 6 ≡ true
  pub added : new_rows 20 7 ≡ true
  pub joined : target_has rows 4 0 9 ≡ true
  pub answer : lines_upto (line_of (target_has rows 4) 5 9) 6 ≡ (0, (5, 6) ∷ (9, 9) ∷ []) ∷ []
  pub each : lines_upto (line_of (target_has rows 1) 6 9) 24 ≡ (1, (6, 6) ∷ []) ∷ (2, (9, 9) ∷ []) ∷ []
  pub enters : passing_of (target_has rows 4) 20 8 9 0 ≡ Some (0, true)
  pub leaves : passing_of (target_has rows 4) 20 6 7 0 ≡ Some (0, false)
  pub stays : passing_of (target_has rows 4) 20 5 6 0 ≡ None
  pub expired : passing_of (target_has rows 4) 8 8 9 0 ≡ None
