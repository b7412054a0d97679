-- Value variables as a list.
use Rattle.std.specs.Prelude.{ℕ, Option, None, Some, List, [], ◌∷◌, if◌then◌else◌}
use Rattle.std.specs.Str.{bytes_eq}
use Rattle.ftl_typer.specs.declared.values.Assigned.{Assigned}
use Rattle.ftl_typer.specs.declared.values.Values.{Values}
use Rattle.ftl_typer.specs.declared.values.Values.TheVariants.{Empty, One, Two}

-- the outermost first
abbrev pub assigned_in : Values → List Assigned
assigned_in Empty = []
assigned_in (One a) = a ∷ []
assigned_in (Two a b) = a ∷ b ∷ []

-- a depth and its value variable, where that has the name
abbrev pub found_at : ℕ → Assigned → List ℕ → Option (ℕ × Assigned)
found_at depth value name = if bytes_eq name value.name then Some (depth, value) else None
