-- The first of some conditions that holds, as refusals and faults are judged.
use Rattle.std.specs.Prelude.{Bool, Option, None, Some, option_map, List, find}

-- what stands beside the first condition that holds, None where none does
abbrev pub first_that_holds : {A : Type 0} → List (A × Bool) → Option A
first_that_holds conditions = option_map (λ c. c.0) (find (λ c. c.1) conditions)

-- an option, or else another
abbrev pub or_else : {A : Type 0} → Option A → Option A → Option A
or_else None other = other
or_else (Some x) other = Some x
