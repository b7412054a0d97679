-- Where there is no first fault there is no fault.
use Rattle.std.proofs.Common.{◌≡◌, ℕ, Bool, true, false, List, [], ◌∷◌, ◌++◌, Option, None, Some, refl}
use Rattle.std.specs.Prelude.{min}
use Rattle.std.specs.List.{fold}
use Rattle.ftl_typer.specs.declared.found.FaultKind.{FaultKind}
use Rattle.ftl_typer.specs.declared.found.FaultKind.TheVariants.{UnknownName, NameTaken, WrongKind, TermRange}
use Rattle.ftl_typer.specs.Fault.{Fault, fault_if}
use Rattle.ftl_typer.specs.First.{fault_places, first_fault, first_found, found_after, lesser, nothing_found}

none_found : (unknown taken kind range : Option ℕ) →
    first_found (record { unknown = unknown; taken = taken; kind = kind; range = range }) ≡ None →
    (unknown ≡ None) × (taken ≡ None) × (kind ≡ None) × (range ≡ None)
none_found (Some p) taken kind range h = let none : ⊥ = cc in absurd none
none_found None (Some p) kind range h = let none : ⊥ = cc in absurd none
none_found None None (Some p) range h = let none : ⊥ = cc in absurd none
none_found None None None (Some p) h = let none : ⊥ = cc in absurd none
none_found None None None None h = (refl, refl, refl, refl)

-- a place that was found stays found
some_after : (place : ℕ) (places : List ℕ) → (least : ℕ) × (fold lesser (Some place) places ≡ Some least)
some_after place [] = (place, refl)
some_after place (next ∷ places) = some_after (min place next) places

both : (found : Option ℕ) (least : ℕ) → found ≡ Some least → found ≡ None → ⊥
both found least some none = cc

has_first : (kind : FaultKind) (place : ℕ) (fs : List Fault) →
    first_fault (record { kind = kind; place = place } ∷ fs) ≡ None → ⊥
unfolding found_after
has_first UnknownName place fs h =
    let found = found_after nothing_found (record { kind = UnknownName; place = place } ∷ fs) in
    let some = some_after place (fault_places UnknownName fs) in
    both found.unknown some.0 some.1 (none_found found.unknown found.taken found.kind found.range h).0
has_first NameTaken place fs h =
    let found = found_after nothing_found (record { kind = NameTaken; place = place } ∷ fs) in
    let some = some_after place (fault_places NameTaken fs) in
    both found.taken some.0 some.1 (none_found found.unknown found.taken found.kind found.range h).1
has_first WrongKind place fs h =
    let found = found_after nothing_found (record { kind = WrongKind; place = place } ∷ fs) in
    let some = some_after place (fault_places WrongKind fs) in
    both found.kind some.0 some.1 (none_found found.unknown found.taken found.kind found.range h).2
has_first TermRange place fs h =
    let found = found_after nothing_found (record { kind = TermRange; place = place } ∷ fs) in
    let some = some_after place (fault_places TermRange fs) in
    both found.range some.0 some.1 (none_found found.unknown found.taken found.kind found.range h).3

pub no_fault_is_first : first_fault [] ≡ None
unfolding found_after
no_fault_is_first = refl

pub no_faults : (fs : List Fault) → first_fault fs ≡ None → fs ≡ []
no_faults [] h = refl
no_faults (f ∷ fs) h = absurd (has_first f.kind f.place fs h)

pub parts_of_none : (fs gs : List Fault) → fs ++ gs ≡ [] → (fs ≡ []) × (gs ≡ [])
parts_of_none [] gs h = (refl, h)
parts_of_none (f ∷ fs) gs h = let none : ⊥ = cc in absurd none

pub none_if : (wrong : Bool) (kind : FaultKind) (place : ℕ) → fault_if wrong kind place ≡ [] → wrong ≡ false
none_if true kind place h = let none : ⊥ = cc in absurd none
none_if false kind place h = refl

pub joined : (fs gs : List Fault) → fs ≡ [] → gs ≡ [] → fs ++ gs ≡ []
joined fs gs f g = λ i. f i ++ g i
