-- The maximal runs of equal value.
use Rattle.std.specs.Prelude.{◌≡◌, ℕ, ◌+◌, ◌-◌, ◌<◌, ◌≤◌, ◌==◌, ℤ, unsigned_abs, ⊤, Bool, true, false, ◌&&◌, Option, Some, List, [], ◌∷◌, length, slice_get}
use Rattle.std.specs.Ordering.{int_eq}
use Rattle.std.specs.Str.{bytes_eq}
use Rattle.fixed_point.specs.declared.number.TheConstants.{FIX_LIMIT}
use Rattle.formula.specs.declared.value.Value.{Value}
use Rattle.formula.specs.declared.value.Value.TheVariants as values
use Rattle.interpreting.specs.declared.value_run.ValueRun.{ValueRun}
use Rattle.interpreting.specs.ValueRuns.{AreValueRuns}

abbrev pub are_equal : Value → Value → Bool
are_equal (values.Num m) (values.Num n) = int_eq m n
are_equal (values.Text s) (values.Text u) = bytes_eq s u
are_equal _ _ = false

-- the second run begins past the first, and where no tick is between them their values differ
pub record ComesAfter (first second : ValueRun) : Type 0 where
  pub past : first.span.hi < second.span.lo
  pub differ : first.span.hi + 1 ≡ second.span.lo → are_equal first.value second.value ≡ false

abbrev pub EachFollows : List ValueRun → Type 0
EachFollows [] = ⊤
EachFollows (run ∷ []) = ⊤
EachFollows (run ∷ next ∷ runs) = ComesAfter run next × EachFollows (next ∷ runs)

-- the maximal runs of equal value among the ticks from `from` up to `until`, without `until`, ascending
pub record AreMaximalRuns (value : ℕ → Option Value) (from until : ℕ) (runs : List ValueRun) : Type 0 where
  pub of_values : AreValueRuns value from until runs
  pub maximal : EachFollows runs

-- each number there is within 10^18 thousandths of 0
abbrev pub HasValuesInRange : (ℕ → Option Value) → ℕ → ℕ → Type 0
HasValuesInRange value from until = (t : ℕ) → from ≤ t → t < until → (n : ℤ) → value t ≡ Some (values.Num n) → unsigned_abs n ≤ FIX_LIMIT

-- no tick is between two runs, and their values are equal
abbrev pub goes_on : ValueRun → ValueRun → Bool
goes_on last run = last.span.hi + 1 == run.span.lo && are_equal last.value run.value

-- the last of the runs so far, which the next one goes on with, and the ticks of both in one
pub record IsJoined (runs : List ValueRun) (run both : ValueRun) : Type 0 where
  pub last : ValueRun
  pub is : slice_get runs (length runs - 1) ≡ Some last
  pub on : goes_on last run ≡ true
  pub begins : both.span.lo ≡ last.span.lo
  pub ends : both.span.hi ≡ run.span.hi
  pub value : both.value ≡ last.value
