-- What is found in a list, one item further.
use Rattle.std.proofs.Common.{◌≡◌, ℕ, ◌+◌, ◌<◌, List, [], ◌∷◌, ◌++◌, length, get_or, take, drop, not, refl, sym, ap, ◌∙◌, arith}
use Rattle.std.specs.Prelude.{is_none}
use Rattle.std.specs.List.{list_any}
use Rattle.std.specs.Str.{bytes_eq}
use Rattle.std.proofs.lemmas.List.{at_drop_more, take_more}
use Rattle.history.specs.Catalog.{ClassInfo, class_number}
use Rattle.ftl_parser.specs.declared.tree.FromPart.{FromPart}
use Rattle.ftl_parser.specs.declared.tree.Signed.{Signed}
use Rattle.ftl_parser.specs.Order.{unit_names}
use Rattle.ftl_typer.specs.declared.found.FaultKind.TheVariants.{UnknownName, NameTaken}
use Rattle.ftl_typer.specs.declared.found.Found.{Found}
use Rattle.ftl_typer.specs.Faults.{factors_faults, parts_faults, point_faults, points_faults, targets_faults, unit_faults}
use Rattle.ftl_typer.specs.Fault.{fault_if}
use Rattle.ftl_typer.specs.First.{found_after}
use Rattle.ftl_typer.specs.Scope.{NameScope, is_variable}
use Rattle.ftl_typer.proofs.FoundLemmas.{found_none, found_three, found_two}

empty : {X : Type 0} (xs : List X) → length xs ≡ 0 → xs ≡ []
empty [] none = refl
empty (x ∷ xs) none = let never : ⊥ = omega arith in absurd never

-- a factor, at the front of those that are left
pub factor_step : (s : NameScope) (at behind : ℕ) (f : Signed) (fs : List Signed) (before between : Found) →
    between ≡ found_after before (unit_faults s at f.unit) → behind ≡ at + length (unit_names f.unit) →
    found_after between (factors_faults s behind fs) ≡ found_after before (factors_faults s at (f ∷ fs))
factor_step s at behind f fs before between first next =
    ap (λ (place : ℕ). found_after between (factors_faults s place fs)) next ∙ found_two before _ _ first refl

-- no factor is left
pub factors_end : (s : NameScope) (at : ℕ) (fs : List Signed) (found : Found) → length fs ≡ 0 →
    found_after found (factors_faults s at fs) ≡ found
factors_end s at fs found none =
    ap (λ (left : List Signed). found_after found (factors_faults s at left)) (empty _ none) ∙ sym (found_none found)

-- a name of a circle
pub point_step : (s : NameScope) (at : ℕ) (name : List ℕ) (names : List (List ℕ)) (before between : Found) →
    between ≡ found_after before (point_faults s at name) →
    found_after between (points_faults s (at + 1) names) ≡ found_after before (points_faults s at (name ∷ names))
point_step s at name names before between first = found_two before _ _ first refl

pub points_end : (s : NameScope) (at : ℕ) (names : List (List ℕ)) (found : Found) → length names ≡ 0 →
    found_after found (points_faults s at names) ≡ found
points_end s at names found none =
    ap (λ (left : List (List ℕ)). found_after found (points_faults s at left)) (empty _ none) ∙ sym (found_none found)

-- a target, at its place in the list
pub target_step : (s : NameScope) (names : List (List ℕ)) (at : ℕ) (name : List ℕ) (before between after : Found) →
    at < length names → name ≡ get_or names at name →
    between ≡ found_after before (fault_if (not (is_variable s name)) UnknownName at) →
    after ≡ found_after between (fault_if (list_any (bytes_eq name) (take at names)) NameTaken at) →
    found_after after (targets_faults s (at + 1) (take (at + 1) names) (drop (at + 1) names))
    ≡ found_after before (targets_faults s at (take at names) (drop at names))
target_step s names at name before between after below here first second =
    let left : drop at names ≡ name ∷ drop (at + 1) names =
    at_drop_more (λ (ns : List (List ℕ)). ns) names at name below ∙ ap (λ (n : List ℕ). n ∷ drop (at + 1) names) (sym here) in
    let gone : take (at + 1) names ≡ take at names ++ name ∷ [] =
    take_more names at name below ∙ ap (λ (n : List ℕ). take at names ++ n ∷ []) (sym here) in
    ap (λ (ns : List (List ℕ)). found_after after (targets_faults s (at + 1) ns (drop (at + 1) names))) gone
    ∙ found_three before _ _ _ first second refl
    ∙ sym (ap (λ (ns : List (List ℕ)). found_after before (targets_faults s at (take at names) ns)) left)

pub targets_end : (s : NameScope) (at : ℕ) (earlier names : List (List ℕ)) (found : Found) → length names ≡ 0 →
    found_after found (targets_faults s at earlier names) ≡ found
targets_end s at earlier names found none =
    ap (λ (left : List (List ℕ)). found_after found (targets_faults s at earlier left)) (empty _ none) ∙ sym (found_none found)

-- a part of FROM, at its place in the list
pub part_step : (classes : List ClassInfo) (parts : List FromPart) (nth at : ℕ) (part : FromPart) (before between after : Found) →
    nth < length parts → part ≡ get_or parts nth part →
    between ≡ found_after before (fault_if (is_none (class_number classes part.class)) UnknownName at) →
    after ≡ found_after between (fault_if (list_any (λ (e : FromPart). bytes_eq part.var e.var) (take nth parts)) NameTaken (at + 1)) →
    found_after after (parts_faults classes (at + 2) (take (nth + 1) parts) (drop (nth + 1) parts))
    ≡ found_after before (parts_faults classes at (take nth parts) (drop nth parts))
part_step classes parts nth at part before between after below here first second =
    let left : drop nth parts ≡ part ∷ drop (nth + 1) parts =
    at_drop_more (λ (ps : List FromPart). ps) parts nth part below ∙ ap (λ (p : FromPart). p ∷ drop (nth + 1) parts) (sym here) in
    let gone : take (nth + 1) parts ≡ take nth parts ++ part ∷ [] =
    take_more parts nth part below ∙ ap (λ (p : FromPart). take nth parts ++ p ∷ []) (sym here) in
    ap (λ (ps : List FromPart). found_after after (parts_faults classes (at + 2) ps (drop (nth + 1) parts))) gone
    ∙ found_three before _ _ _ first second refl
    ∙ sym (ap (λ (ps : List FromPart). found_after before (parts_faults classes at (take nth parts) ps)) left)

pub parts_end : (classes : List ClassInfo) (at : ℕ) (earlier parts : List FromPart) (found : Found) → length parts ≡ 0 →
    found_after found (parts_faults classes at earlier parts) ≡ found
parts_end classes at earlier parts found none =
    ap (λ (left : List FromPart). found_after found (parts_faults classes at earlier left)) (empty _ none) ∙ sym (found_none found)
