-- The values that assignments bind, by depth.
use Rattle.std.specs.Prelude.{ℕ, zero, suc, Option, Some, None}
use Rattle.formula.specs.declared.value.Value.{Value}
use Rattle.formula.specs.declared.value.Env.{Env}

abbrev pub no_values : Env
no_values = record { first = None; second = None }

-- a value bound at depth 0 or 1, over what was bound there
abbrev pub with_value : Env → ℕ → Value → Env
with_value x zero v = record { first = Some v; second = x.second }
with_value x (suc zero) v = record { first = x.first; second = Some v }
with_value x (suc (suc d)) v = x

-- the value bound at a depth
abbrev pub value_in : Env → ℕ → Option Value
value_in x zero = x.first
value_in x (suc zero) = x.second
value_in x (suc (suc d)) = None
