-- The first of the faults of a query: the least kind in the order in which kinds are declared, and of these the least
-- place.
use Rattle.std.specs.Prelude.{◌≡◌, ℕ, ◌==◌, ◌&&◌, ◌||◌, min, nat_le, nat_lt, Bool, true, Contains, Option, None, Some, List, [], map}
use Rattle.std.specs.List.{filter, fold, list_all}
use Rattle.exact.specs.First.{or_else}
use Rattle.ftl_typer.specs.declared.fault.TypeFault.{TypeFault}
use Rattle.ftl_typer.specs.declared.fault.TypeFault.TheVariants as type_faults
use Rattle.ftl_typer.specs.declared.found.FaultKind.{FaultKind}
use Rattle.ftl_typer.specs.declared.found.FaultKind.TheVariants.{UnknownName, NameTaken, WrongKind, TermRange}
use Rattle.ftl_typer.specs.declared.found.Found.{Found}
use Rattle.ftl_typer.specs.Fault.{Fault, fault_rank}

-- a fault as it is told
abbrev pub told_at : FaultKind → ℕ → TypeFault
told_at UnknownName place = type_faults.UnknownName place
told_at NameTaken place = type_faults.NameTaken place
told_at WrongKind place = type_faults.WrongKind place
told_at TermRange place = type_faults.TermRange place

abbrev pub type_fault_of : Fault → TypeFault
type_fault_of fault = told_at fault.kind fault.place

-- a fault doesn't come behind another: the kind decides, then the place
abbrev pub is_no_later : Fault → Fault → Bool
is_no_later f g = nat_lt (fault_rank f.kind) (fault_rank g.kind) || (fault_rank f.kind == fault_rank g.kind && nat_le f.place g.place)

-- what is told of faults is one of them, and none of them comes before it; nothing is told only where there is none
abbrev pub IsFirst : List Fault → Option TypeFault → Type 0
IsFirst faults None = faults ≡ []
IsFirst faults (Some fault) =
    (f : Fault) × (fault ≡ type_fault_of f) × Contains faults f × (list_all (is_no_later f) faults ≡ true)

abbrev pub fault_places : FaultKind → List Fault → List ℕ
fault_places kind faults = map (λ fault. fault.place) (filter (λ fault. fault_rank fault.kind == fault_rank kind) faults)

-- the lesser of two places, one of which may be missing
abbrev pub lesser : Option ℕ → ℕ → Option ℕ
lesser None place = Some place
lesser (Some least) place = Some (min least place)

-- the least place of a kind, where one was found before
abbrev pub least_place : FaultKind → Option ℕ → List Fault → Option ℕ
least_place kind before faults = fold lesser before (fault_places kind faults)

-- the least place of each kind, where some were found before
unfoldable pub found_after : Found → List Fault → Found
found_after before faults = record {
  unknown = least_place UnknownName before.unknown faults;
  taken = least_place NameTaken before.taken faults;
  kind = least_place WrongKind before.kind faults;
  range = least_place TermRange before.range faults;
}

abbrev pub nothing_found : Found
nothing_found = record { unknown = None; taken = None; kind = None; range = None }

abbrev pub fault_at : (ℕ → TypeFault) → Option ℕ → Option TypeFault
fault_at fault None = None
fault_at fault (Some place) = Some (fault place)

abbrev pub first_found : Found → Option TypeFault
first_found found =
    or_else (fault_at type_faults.UnknownName found.unknown)
    (or_else (fault_at type_faults.NameTaken found.taken)
    (or_else (fault_at type_faults.WrongKind found.kind)
    (fault_at type_faults.TermRange found.range)))

abbrev pub first_fault : List Fault → Option TypeFault
first_fault faults = first_found (found_after nothing_found faults)
