-- What is wrong of a query, and where.
use Rattle.std.specs.Prelude.{ℕ, ◌==◌, Bool, List, [], ◌∷◌, if◌then◌else◌}
use Rattle.std.specs.List.{list_any}
use Rattle.ftl_typer.specs.declared.found.FaultKind.{FaultKind}
use Rattle.ftl_typer.specs.declared.found.FaultKind.TheVariants.{UnknownName, NameTaken, WrongKind, TermRange}

-- a place is the index of a name or of a term, in the order of writing
pub record Fault : Type 0 where
  pub kind : FaultKind
  pub place : ℕ

-- a fault there where a test holds
abbrev pub fault_if : Bool → FaultKind → ℕ → List Fault
fault_if wrong kind place = if wrong then record { kind = kind; place = place } ∷ [] else []

-- the place of a kind in the order of faults
abbrev pub fault_rank : FaultKind → ℕ
fault_rank UnknownName = 0
fault_rank NameTaken = 1
fault_rank WrongKind = 2
fault_rank TermRange = 3

-- whether one of these is of a kind
abbrev pub has_kind : FaultKind → List Fault → Bool
has_kind kind faults = list_any (λ fault. fault_rank fault.kind == fault_rank kind) faults
