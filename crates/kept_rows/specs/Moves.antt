-- What a change of rows does to a target: the ticks that it gains and loses, and whether it enters or leaves now.
use Rattle.std.specs.Prelude.{ℕ, ◌==◌, Bool, not, ◌&&◌, List, [], ◌∷◌, Option, None, Some}
use Rattle.std.specs.List.{list_any}
use Rattle.tick_set.specs.Runs.{runs_of}
use Rattle.tick_set.specs.Ticks.{listed, within}
use Rattle.kept_rows.specs.declared.change.Change.{Change}

pub record Moved : Type 0 where
  pub target : ℕ
  pub gained : List (ℕ × ℕ)
  pub lost : List (ℕ × ℕ)
  pub enters : Bool
  pub leaves : Bool

-- the runs of the ticks of `from` to e that pass p and not q
abbrev pub difference : (ℕ → Bool) → (ℕ → Bool) → ℕ → ℕ → List (ℕ × ℕ)
difference p q from e = runs_of (listed (λ t. p t && not (q t)) from e)

-- there is no line where nothing is gained and nothing lost
abbrev pub if_moved : Moved → List (ℕ × ℕ) → List (ℕ × ℕ) → Option Moved
if_moved line [] [] = None
if_moved line [] (run ∷ runs) = Some line
if_moved line (run ∷ runs) lost = Some line

-- what changes of a target whose ticks are p before and q after, of those from `from` to e
abbrev pub move_between : (ℕ → Bool) → (ℕ → Bool) → ℕ → ℕ → ℕ → ℕ → Option Moved
move_between p q from e now target =
    let gained : List (ℕ × ℕ) = difference q p from e in
    let lost : List (ℕ × ℕ) = difference p q from e in
    if_moved
    (record {
      target = target;
      gained = gained;
      lost = lost;
      enters = within from e now && (q now && not (p now));
      leaves = within from e now && (p now && not (q now));
    })
    gained lost

abbrev pub move_of : (ℕ → ℕ → Bool) → (ℕ → ℕ → Bool) → ℕ → ℕ → ℕ → ℕ → Option Moved
move_of before after from e now target = move_between (before target) (after target) from e now target

-- whether one of the changes is of this number
abbrev pub is_in : {S : Type 0} → List (Change S) → ℕ → Bool
is_in changes number = list_any (λ change. change.number == number) changes

-- the rows that no change is of
abbrev pub others : {S : Type 0} → List (Change S) → (ℕ → ℕ → Bool) → ℕ → ℕ → Bool
others changes rows number t = rows number t && not (is_in changes number)
