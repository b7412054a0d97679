-- Changes of rows, and the rows after them.
use Rattle.std.specs.Prelude.{◌≡◌, ℕ, ◌/◌, ◌<◌, ◌==◌, Bool, true, false, ◌||◌, nat_le, List, [], ◌∷◌, length, map, All, if◌then◌else◌}
use Rattle.kept_rows.specs.declared.change.Change.{Change}
use Rattle.kept_rows.specs.Rising.{AscendsWithin}
use Rattle.kept_rows.specs.Rows.{is_made, is_whole, page_has, row_has}

-- the rows with one of them changed
abbrev pub with_row : {S : Type 0} → (S → ℕ → Bool) → Change S → (ℕ → ℕ → Bool) → ℕ → ℕ → Bool
with_row member change rows number tick = if number == change.number then member change.ticks tick else rows number tick

-- the rows after the changes
abbrev pub rows_after : {S : Type 0} → (S → ℕ → Bool) → List (Change S) → (ℕ → ℕ → Bool) → ℕ → ℕ → Bool
rows_after member [] rows = rows
rows_after member (change ∷ changes) rows = rows_after member changes (with_row member change rows)

-- a change can be made without memory: the number's page is made, or the change has one without ticks
pub record IsReady {S : Type 0} (member : S → ℕ → Bool) (pages : List (List S)) (change : Change S) : Type 0 where
  pub there : change.number / 16 < length pages
  pub page : (is_made pages change.number || is_whole change.spare) ≡ true
  pub blank : (i t : ℕ) → page_has member change.spare i t ≡ false

abbrev pub AreReady : {S : Type 0} → (S → ℕ → Bool) → List (List S) → List (Change S) → Type 0
AreReady member pages changes = All (IsReady member pages) changes

-- each changed row has a tick more or less than the kept one
abbrev pub DoDiffer : {S : Type 0} → (S → ℕ → Bool) → List (List S) → List (Change S) → Type 0
DoDiffer member pages changes = All (λ change. ¬ ((t : ℕ) → member change.ticks t ≡ row_has member pages change.number t)) changes

-- the numbers of the changes ascend, below `to`
abbrev pub AreRising : {S : Type 0} → ℕ → List (Change S) → Type 0
AreRising to changes = AscendsWithin 0 to (map (λ change. change.number) changes)

-- whether a row has the tick, once it has other ticks from tick `from` on
abbrev pub has_joined : {S : Type 0} → (S → ℕ → Bool) → ℕ → S → S → ℕ → Bool
has_joined member from row later t = if nat_le from t then member later t else member row t

-- a set is that row, and another one than before
pub record IsOtherFrom {S : Type 0} (member : S → ℕ → Bool) (from : ℕ) (row later other : S) : Type 0 where
  pub ticks : (t : ℕ) → member other t ≡ has_joined member from row later t
  pub differs : ¬ ((t : ℕ) → member other t ≡ member row t)

-- the row stays as it is
abbrev pub IsSameFrom : {S : Type 0} → (S → ℕ → Bool) → ℕ → S → S → Type 0
IsSameFrom member from row later = (t : ℕ) → has_joined member from row later t ≡ member row t
