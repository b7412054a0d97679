-- What is in a set of object variables.
use Rattle.std.specs.Prelude.{ℕ, Bool, false, slice_get, unwrap_or}
use Rattle.formula.specs.declared.var_set.VarSet.{VarSet}

abbrev pub set_has : VarSet → ℕ → Bool
set_has set v = unwrap_or (slice_get set.members v) false
