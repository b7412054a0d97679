-- Terms whose value is told by one cell, or by none.
use Rattle.std.specs.Prelude.{◌≡◌, ℕ, ℤ, Some, option_map}
use Rattle.formula.specs.declared.tree.RTerm.{RTerm}
use Rattle.formula.specs.declared.value.Env.{Env}
use Rattle.formula.specs.declared.value.Value.TheVariants as values
use Rattle.meaning.specs.Trace.{Trace}
use Rattle.meaning.specs.Value.{cell_in, cell_value, term_value}

-- the value is that of the attribute of an index of the variable's object
abbrev pub IsCoordinate : ℕ → ℕ → RTerm → Type 0
IsCoordinate v a q = (h : Trace) (x : Env) (t : ℕ) → term_value h q x t ≡ option_map (λ cell. cell_value cell t) (cell_in (h v t) a)

-- the value is this number
abbrev pub IsConstant : ℤ → RTerm → Type 0
IsConstant c q = (h : Trace) (x : Env) (t : ℕ) → term_value h q x t ≡ Some (values.Num c)
