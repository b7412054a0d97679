-- What is found in two lists of faults, one after the other.
use Rattle.std.proofs.Common.{◌≡◌, ℕ, Option, List, [], ◌++◌, map, refl, ap, sym, ◌∙◌}
use Rattle.std.specs.List.{filter, fold}
use Rattle.std.specs.Prelude.{◌==◌}
use Rattle.std.proofs.lemmas.List.{map-append}
use Rattle.std.proofs.lemmas.List.Elements.{filter-append}
use Rattle.std.proofs.lemmas.List.Sums.{fold-append}
use Rattle.ftl_typer.specs.declared.found.FaultKind.{FaultKind}
use Rattle.ftl_typer.specs.declared.found.FaultKind.TheVariants.{UnknownName, NameTaken, WrongKind, TermRange}
use Rattle.ftl_typer.specs.declared.found.Found.{Found}
use Rattle.ftl_typer.specs.Fault.{Fault, fault_rank}
use Rattle.ftl_typer.specs.First.{fault_places, found_after, least_place, lesser}

places_on : (kind : FaultKind) (fs gs : List Fault) → fault_places kind (fs ++ gs) ≡ fault_places kind fs ++ fault_places kind gs
places_on kind fs gs =
    ap (map (λ (fault : Fault). fault.place)) (filter-append (λ (fault : Fault). fault_rank fault.kind == fault_rank kind) fs gs)
    ∙ map-append (λ (fault : Fault). fault.place) (filter (λ (fault : Fault). fault_rank fault.kind == fault_rank kind) fs)
    (filter (λ (fault : Fault). fault_rank fault.kind == fault_rank kind) gs)

least_on : (kind : FaultKind) (before : Option ℕ) (fs gs : List Fault) →
    least_place kind (least_place kind before fs) gs ≡ least_place kind before (fs ++ gs)
least_on kind before fs gs =
    sym (fold-append lesser before (fault_places kind fs) (fault_places kind gs)) ∙ ap (fold lesser before) (sym (places_on kind fs gs))

pub found_on : (before : Found) (fs gs : List Fault) →
    found_after (found_after before fs) gs ≡ found_after before (fs ++ gs)
unfolding found_after
found_on before fs gs = λ i. record {
  unknown = least_on UnknownName before.unknown fs gs i;
  taken = least_on NameTaken before.taken fs gs i;
  kind = least_on WrongKind before.kind fs gs i;
  range = least_on TermRange before.range fs gs i;
}

pub found_none : (before : Found) → before ≡ found_after before []
unfolding found_after
found_none before = refl

pub found_two : (before : Found) {between after : Found} (fs gs : List Fault) →
    between ≡ found_after before fs → after ≡ found_after between gs → after ≡ found_after before (fs ++ gs)
found_two before fs gs first second =
    second ∙ ap (λ (found : Found). found_after found gs) first ∙ found_on before fs gs

pub found_three : (before : Found) {one two after : Found} (fs gs hs : List Fault) →
    one ≡ found_after before fs → two ≡ found_after one gs → after ≡ found_after two hs →
    after ≡ found_after before (fs ++ (gs ++ hs))
found_three before fs gs hs first second third = found_two before fs (gs ++ hs) first (found_two _ gs hs second third)
