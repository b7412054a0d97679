-- A query without a fault stays so, and stays the same by number, where classes and regions are added.
use Rattle.std.proofs.Common.{◌≡◌, ℕ, ◌+◌, ◌*◌, ◌<◌, Bool, true, false, cond, eqb, not, List, [], ◌∷◌, ◌++◌, length, map, Option, None, Some, slice_get, refl, sym, ap, subst, ◌∙◌, arith, length-append}
use Rattle.std.specs.Prelude.{is_none, nat_lt, unwrap_or, option_and_then, position, find}
use Rattle.std.specs.List.{AllByRecursion, list_any, position_or_len}
use Rattle.std.specs.Str.{bytes_eq}
use Rattle.std.proofs.lemmas.Bool.Decides.{nat_tests}
use Rattle.std.proofs.lemmas.List.Folds.{prefix_len-append}
use Rattle.geometry.specs.Region.{Region, region_number}
use Rattle.history.specs.Catalog.{ClassInfo, class_number}
use Rattle.formula_shape.specs.Shape as shapes
use Rattle.formula.specs.declared.tree.RAtom.TheVariants as ratoms
use Rattle.ftl_parser.specs.declared.tree.Atom as atom_type
use Rattle.ftl_parser.specs.declared.tree.Atom.TheVariants as atoms
use Rattle.ftl_parser.specs.declared.tree.FromPart.{FromPart}
use Rattle.ftl_parser.specs.Order.{formula_names, formula_terms, term_names}
use Rattle.ftl_parser.specs.Tree.{QueryTree, Tree}
use Rattle.ftl_typer.specs.declared.found.FaultKind.TheVariants.{UnknownName, NameTaken}
use Rattle.ftl_typer.specs.Faults.{atom_faults, faults, formula_faults, parts_faults, point_faults, region_faults, targets_faults, term_faults, assigned_faults}
use Rattle.ftl_typer.specs.Fault.{Fault, fault_if}
use Rattle.ftl_typer.specs.First.{first_fault}
use Rattle.ftl_typer.specs.Resolved.{class_place, resolved, resolved_atom, resolved_formula}
use Rattle.ftl_typer.specs.Scope.{NameScope, class_named, is_variable, resolved_term, scope_of, variable_number, with_assigned}
use Rattle.ftl_typer.proofs.FaultLemmas.{joined, no_faults, no_fault_is_first, none_if, parts_of_none}
use Rattle.exact.proofs.Naturals.{below_from_test, test_below}
use Rattle.exact.proofs.Items.{slice_get-append}

-- ---- more regions

abbrev pub KnowsMore : (List ℕ → Option ℕ) → (List ℕ → Option ℕ) → Type 0
KnowsMore region more = (name : List ℕ) → is_none (region name) ≡ false → more name ≡ region name

abbrev pub with_regions : NameScope → (List ℕ → Option ℕ) → NameScope
with_regions s more = record s { region = more }

module _ (more : List ℕ → Option ℕ) where
  region_stays : (s : NameScope) → KnowsMore s.region more → (at : ℕ) (name : List ℕ) → region_faults s at name ≡ [] →
      more name ≡ s.region name
  region_stays s known at name h = known name (none_if (is_none (s.region name)) UnknownName at h)

  no_region_fault : (s : NameScope) → KnowsMore s.region more → (at : ℕ) (name : List ℕ) → region_faults s at name ≡ [] →
      region_faults (with_regions s more) at name ≡ []
  no_region_fault s known at name h =
      subst (λ (found : Option ℕ). fault_if (is_none found) UnknownName at ≡ []) (sym (region_stays s known at name h)) h

  atom_stays : (s : NameScope) → KnowsMore s.region more → (at nth : ℕ) (a : atom_type.Atom) → atom_faults s at nth a ≡ [] →
      (atom_faults (with_regions s more) at nth a ≡ []) × (resolved_atom (with_regions s more) a ≡ resolved_atom s a)
  atom_stays s known at nth (atoms.Compare t op u) h = (h, refl)
  atom_stays s known at nth (atoms.Inside o region) h =
      let parts = parts_of_none (point_faults s at o) (region_faults s (at + 1) region) h in (
        joined (point_faults s at o) (region_faults (with_regions s more) (at + 1) region) parts.0 (no_region_fault s known (at + 1) region parts.1),
        ap (λ (found : Option ℕ). ratoms.Inside (variable_number s o) (unwrap_or found 0)) (region_stays s known (at + 1) region parts.1),
      )
  atom_stays s known at nth (atoms.Outside o region) h =
      let parts = parts_of_none (point_faults s at o) (region_faults s (at + 1) region) h in (
        joined (point_faults s at o) (region_faults (with_regions s more) (at + 1) region) parts.0 (no_region_fault s known (at + 1) region parts.1),
        ap (λ (found : Option ℕ). ratoms.Outside (variable_number s o) (unwrap_or found 0)) (region_stays s known (at + 1) region parts.1),
      )
  atom_stays s known at nth (atoms.Dist o n op c) h = (h, refl)
  atom_stays s known at nth (atoms.Sphere r names) h = (h, refl)

  formula_stays : (s : NameScope) → KnowsMore s.region more → (at nth : ℕ) (f : Tree) → formula_faults s at nth f ≡ [] →
      (formula_faults (with_regions s more) at nth f ≡ []) × (resolved_formula (with_regions s more) f ≡ resolved_formula s f)
  formula_stays s known at nth (shapes.Truth b) h = (refl, refl)
  formula_stays s known at nth (shapes.Atom a) h =
      let stays = atom_stays s known at nth a h in (stays.0, ap shapes.Atom stays.1)
  formula_stays s known at nth (shapes.Not f) h =
      let stays = formula_stays s known at nth f h in (stays.0, ap shapes.Not stays.1)
  formula_stays s known at nth (shapes.And f g) h =
      let parts = parts_of_none (formula_faults s at nth f) (formula_faults s (at + length (formula_names f)) (nth + length (formula_terms f)) g) h in
      let left = formula_stays s known at nth f parts.0 in
      let right = formula_stays s known (at + length (formula_names f)) (nth + length (formula_terms f)) g parts.1 in
      (joined _ _ left.0 right.0, λ i. shapes.And (left.1 i) (right.1 i))
  formula_stays s known at nth (shapes.Or f g) h =
      let parts = parts_of_none (formula_faults s at nth f) (formula_faults s (at + length (formula_names f)) (nth + length (formula_terms f)) g) h in
      let left = formula_stays s known at nth f parts.0 in
      let right = formula_stays s known (at + length (formula_names f)) (nth + length (formula_terms f)) g parts.1 in
      (joined _ _ left.0 right.0, λ i. shapes.Or (left.1 i) (right.1 i))
  formula_stays s known at nth (shapes.Next f) h =
      let stays = formula_stays s known at nth f h in (stays.0, ap shapes.Next stays.1)
  formula_stays s known at nth (shapes.Eventually f) h =
      let stays = formula_stays s known at nth f h in (stays.0, ap shapes.Eventually stays.1)
  formula_stays s known at nth (shapes.Always f) h =
      let stays = formula_stays s known at nth f h in (stays.0, ap shapes.Always stays.1)
  formula_stays s known at nth (shapes.Bounded form ticks f) h =
      let stays = formula_stays s known at nth f h in (stays.0, λ i. shapes.Bounded form ticks (stays.1 i))
  formula_stays s known at nth (shapes.Until form ticks f g) h =
      let parts = parts_of_none (formula_faults s at nth f) (formula_faults s (at + length (formula_names f)) (nth + length (formula_terms f)) g) h in
      let left = formula_stays s known at nth f parts.0 in
      let right = formula_stays s known (at + length (formula_names f)) (nth + length (formula_terms f)) g parts.1 in
      (joined _ _ left.0 right.0, λ i. shapes.Until form ticks (left.1 i) (right.1 i))
  formula_stays s known at nth (shapes.Assign (name, t) f) h =
      let behind = at + 1 + length (term_names t) in
      let outer = parts_of_none (assigned_faults s at name) (term_faults s (at + 1) nth t ++ formula_faults (with_assigned s name t) behind (nth + 1) f) h in
      let inner = parts_of_none (term_faults s (at + 1) nth t) (formula_faults (with_assigned s name t) behind (nth + 1) f) outer.1 in
      let stays = formula_stays (with_assigned s name t) known behind (nth + 1) f inner.1 in
      (joined _ _ outer.0 (joined _ _ inner.0 stays.0), λ i. shapes.Assign (length s.values, resolved_term s t) (stays.1 i))

  targets_stay : (s : NameScope) (at : ℕ) (earlier names : List (List ℕ)) →
      targets_faults (with_regions s more) at earlier names ≡ targets_faults s at earlier names
  targets_stay s at earlier [] = refl
  targets_stay s at earlier (name ∷ names) =
      ap (λ (later : List Fault). fault_if (not (is_variable s name)) UnknownName at ++ (fault_if (list_any (bytes_eq name) earlier) NameTaken at ++ later))
      (targets_stay s (at + 1) (earlier ++ name ∷ []) names)

-- ---- more classes

was_found : (b : Bool) (n : ℕ) → is_none (cond b (Some n) None) ≡ false → b ≡ true
was_found true n h = refl
was_found false n h = let none : ⊥ = cc in absurd none

passed : (b : Bool) (m n : ℕ) → b ≡ false → cond b m n ≡ n
passed true m n h = let none : ⊥ = cc in absurd none
passed false m n h = refl

taken_at : (b c : Bool) (m n : ℕ) → b ≡ true → c ≡ true → m ≡ n → cond b (Some m) None ≡ cond c (Some n) None
taken_at true true m n d e same = ap Some same
taken_at true false m n d e same = let none : ⊥ = cc in absurd none
taken_at false c m n d e same = let none : ⊥ = cc in absurd none

differ : (m n : ℕ) → m < n → eqb m n ≡ false
differ m n h = grind (arith, nat_tests, h)

is_found : {X : Type 0} (p : X → Bool) (xs : List X) → is_none (position p xs) ≡ false → position_or_len p xs < length xs
is_found p xs h = below_from_test (position_or_len p xs) (length xs) (was_found (nat_lt (position_or_len p xs) (length xs)) (position_or_len p xs) h)

-- what is found in a list is found there where more is added
pub position_stays : {X : Type 0} (p : X → Bool) (xs ys : List X) → is_none (position p xs) ≡ false →
    position p (xs ++ ys) ≡ position p xs
position_stays p xs ys h =
    let below = is_found p xs h in
    let same : position_or_len p (xs ++ ys) ≡ position_or_len p xs =
    prefix_len-append (λ x. not (p x)) xs ys
    ∙ passed (eqb (position_or_len p xs) (length xs)) _ (position_or_len p xs) (differ (position_or_len p xs) (length xs) below) in
    let more : position_or_len p (xs ++ ys) < length (xs ++ ys) = omega (arith, length-append xs ys, same, below) in
    taken_at (nat_lt (position_or_len p (xs ++ ys)) (length (xs ++ ys))) (nat_lt (position_or_len p xs) (length xs))
    (position_or_len p (xs ++ ys)) (position_or_len p xs)
    (test_below (position_or_len p (xs ++ ys)) (length (xs ++ ys)) more) (test_below (position_or_len p xs) (length xs) below) same

-- the item at the place that was found, where places agree up to the end of the list
item_stays : {X : Type 0} (xs ys : List X) (b : Bool) (n : ℕ) → (b ≡ true → n < length xs) →
    option_and_then (slice_get (xs ++ ys)) (cond b (Some n) None) ≡ option_and_then (slice_get xs) (cond b (Some n) None)
item_stays xs ys true n h = slice_get-append xs ys n (h refl)
item_stays xs ys false n h = refl

-- a class that is there
class_number_stays : (classes added : List ClassInfo) (name : List ℕ) → is_none (class_number classes name) ≡ false →
    class_number (classes ++ added) name ≡ class_number classes name
class_number_stays classes added name h = position_stays (λ (k : ClassInfo). bytes_eq name k.name) classes added h

class_named_stays : (classes added : List ClassInfo) (name : List ℕ) → is_none (class_number classes name) ≡ false →
    class_named (classes ++ added) name ≡ class_named classes name
class_named_stays classes added name h =
    let n = position_or_len (λ (k : ClassInfo). bytes_eq name k.name) classes in
    ap (option_and_then (slice_get (classes ++ added))) (class_number_stays classes added name h)
    ∙ item_stays classes added (nat_lt n (length classes)) n (below_from_test n (length classes))

module _ (classes added : List ClassInfo) where
  abbrev pub AreThere : List FromPart → Type 0
  AreThere = AllByRecursion (λ part. is_none (class_number classes part.class) ≡ false)

  pub parts_stay : (at : ℕ) (earlier parts : List FromPart) → parts_faults classes at earlier parts ≡ [] →
      AreThere parts × (parts_faults (classes ++ added) at earlier parts ≡ [])
  parts_stay at earlier [] h = (tt, refl)
  parts_stay at earlier (part ∷ parts) h =
      let twice = fault_if (list_any (λ (e : FromPart). bytes_eq part.var e.var) earlier) NameTaken (at + 1) in
      let behind = parts_faults classes (at + 2) (earlier ++ part ∷ []) parts in
      let outer = parts_of_none (fault_if (is_none (class_number classes part.class)) UnknownName at) (twice ++ behind) h in
      let inner = parts_of_none twice behind outer.1 in
      let there = none_if (is_none (class_number classes part.class)) UnknownName at outer.0 in
      let stays = parts_stay (at + 2) (earlier ++ part ∷ []) parts inner.1 in
      let known : fault_if (is_none (class_number (classes ++ added) part.class)) UnknownName at ≡ [] =
      ap (λ (found : Option ℕ). fault_if (is_none found) UnknownName at) (class_number_stays classes added part.class there) ∙ outer.0 in
      ((there, stays.0), joined _ _ known (joined _ _ inner.0 stays.1))

  class_places_stay : (parts : List FromPart) → AreThere parts →
      map (λ (part : FromPart). class_place (classes ++ added) part.class) parts ≡ map (λ (part : FromPart). class_place classes part.class) parts
  class_places_stay [] there = refl
  class_places_stay (part ∷ parts) there =
      λ i. unwrap_or (class_number_stays classes added part.class there.0 i) 0 ∷ class_places_stay parts there.1 i

  one_class_stays : (b : Bool) (part : FromPart) (later : Option FromPart) →
      class_named (classes ++ added) part.class ≡ class_named classes part.class →
      option_and_then (λ (e : FromPart). class_named (classes ++ added) e.class) later ≡ option_and_then (λ (e : FromPart). class_named classes e.class) later →
      option_and_then (λ (e : FromPart). class_named (classes ++ added) e.class) (cond b (Some part) later)
      ≡ option_and_then (λ (e : FromPart). class_named classes e.class) (cond b (Some part) later)
  one_class_stays true part later here behind = here
  one_class_stays false part later here behind = behind

  class_stays : (name : List ℕ) (parts : List FromPart) → AreThere parts →
      option_and_then (λ (part : FromPart). class_named (classes ++ added) part.class) (find (λ part. bytes_eq name part.var) parts)
      ≡ option_and_then (λ (part : FromPart). class_named classes part.class) (find (λ part. bytes_eq name part.var) parts)
  class_stays name [] there = refl
  class_stays name (part ∷ parts) there =
      one_class_stays (bytes_eq name part.var) part (find (λ e. bytes_eq name e.var) parts)
      (class_named_stays classes added part.class there.0) (class_stays name parts there.1)

-- ---- queries

-- what is said of a scope
abbrev pub StaysIn : NameScope → NameScope → QueryTree → Type 0
StaysIn new old q =
    let behind = length q.targets + 2 * length q.from in
    (targets_faults new 0 [] q.targets ≡ [])
    × (formula_faults new behind 0 q.formula ≡ [])
    × (map (variable_number new) q.targets ≡ map (variable_number old) q.targets)
    × (resolved_formula new q.formula ≡ resolved_formula old q.formula)

pub query_stays : (classes added : List ClassInfo) (regions more : List Region) (q : QueryTree) →
    first_fault (faults classes regions q) ≡ None →
    (first_fault (faults (classes ++ added) (regions ++ more) q) ≡ None)
    × (resolved (classes ++ added) (regions ++ more) q ≡ resolved classes regions q)
query_stays classes added regions more q h =
    let old = scope_of classes regions q.from in
    let new = scope_of (classes ++ added) (regions ++ more) q.from in
    let targets = length q.targets in
    let behind = targets + 2 * length q.from in
    let none = no_faults (faults classes regions q) h in
    let outer = parts_of_none (targets_faults old 0 [] q.targets) (parts_faults classes targets [] q.from ++ formula_faults old behind 0 q.formula) none in
    let inner = parts_of_none (parts_faults classes targets [] q.from) (formula_faults old behind 0 q.formula) outer.1 in
    let parts = parts_stay classes added targets [] q.from inner.0 in
    let known = λ (name : List ℕ). position_stays (λ (r : Region). bytes_eq name r.name) regions more in
    let formula = formula_stays (region_number (regions ++ more)) old known behind 0 q.formula inner.1 in
    let with_more : StaysIn (with_regions old (region_number (regions ++ more))) old q =
    (targets_stay (region_number (regions ++ more)) old 0 [] q.targets ∙ outer.0, formula.0, refl, formula.1) in
    let same : with_regions old (region_number (regions ++ more)) ≡ new =
    λ i. record new { class = λ name. sym (class_stays classes added name q.from parts.0) i } in
    let stays = subst (λ (s : NameScope). StaysIn s old q) same with_more in (
      ap first_fault (joined _ _ stays.0 (joined _ _ parts.1 stays.1)) ∙ no_fault_is_first,
      λ i. record { targets = stays.2 i; classes = class_places_stay classes added q.from parts.0 i; formula = stays.3 i },
    )
