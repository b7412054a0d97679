-- How large values can be, in thousandths. A text has the bound 0.
use Rattle.std.specs.Prelude.{ℕ, ◌*◌, ◌≤◌, ℤ, pos, ◌≤ℤ◌, unsigned_abs, All, length, sum_by, unwrap_or}
use Rattle.fixed_point.specs.declared.number.TheConstants.{FIX_LIMIT, SLOPE_LIMIT}
use Rattle.fixed_point.specs.declared.variants.SubName.{SubName}
use Rattle.fixed_point.specs.declared.variants.SubName.TheVariants as subs
use Rattle.formula_shape.specs.declared.limits.TheConstants.{FACTOR_LIMIT}
use Rattle.formula.specs.declared.limits.TheConstants.{DYNAMIC_BOUND, TIME_BOUND}
use Rattle.formula.specs.declared.tree.RSigned.{RSigned}
use Rattle.formula.specs.declared.tree.RTerm.{RTerm}
use Rattle.formula.specs.declared.tree.RUnit.{RUnit}
use Rattle.formula.specs.declared.tree.RUnit.TheVariants as units

abbrev pub sub_bound : SubName → ℕ
sub_bound subs.Value = DYNAMIC_BOUND
sub_bound subs.UpdateTime = TIME_BOUND
sub_bound subs.Function = SLOPE_LIMIT

abbrev pub unit_bound : RUnit → ℕ
unit_bound (units.Literal n) = unsigned_abs n
unit_bound (units.Text t) = 0
unit_bound (units.Var d bound) = unsigned_abs bound
unit_bound (units.Attr o a bound) = unsigned_abs bound
unit_bound (units.Sub o a part) = sub_bound part
unit_bound units.Time = TIME_BOUND

-- so many times the bound where there is a multiplier
abbrev pub factor_bound : RSigned → ℕ
factor_bound s = unwrap_or s.times 1 * unit_bound s.unit

-- the sum of the bounds, whatever the signs
abbrev pub term_bound : RTerm → ℕ
term_bound t = sum_by factor_bound t.factors

-- a bound that stands in a tree is from 0 to 10^18
abbrev pub IsBound : ℤ → Type 0
IsBound bound = (pos 0 ≤ℤ bound) × (bound ≤ℤ pos FIX_LIMIT)

abbrev pub HasBoundInRange : RUnit → Type 0
HasBoundInRange (units.Literal n) = Unit {0}
HasBoundInRange (units.Text t) = Unit {0}
HasBoundInRange (units.Var d bound) = IsBound bound
HasBoundInRange (units.Attr o a bound) = IsBound bound
HasBoundInRange (units.Sub o a part) = Unit {0}
HasBoundInRange units.Time = Unit {0}

-- the terms that have a bound
pub record IsBounded (t : RTerm) : Type 0 where
  pub few : length t.factors ≤ FACTOR_LIMIT
  pub in_range : All (λ s. HasBoundInRange s.unit) t.factors
