-- A query without a fault is resolved, and fits its classes.
use Rattle.std.proofs.Common.{◌≡◌, ℕ, ◌+◌, ◌*◌, ◌<◌, ◌≤◌, Bool, true, false, not, ◌&&◌, ◌||◌, eqb, List, [], ◌∷◌, ◌++◌, length, map, max, None, inl, inr, refl, sym, ap, subst, ◌∙◌, arith, append_assoc}
use Rattle.std.specs.Prelude.{◌==◌, nat_lt, nat_le}
use Rattle.std.specs.List.{AllByRecursion, IsDistinct, list_all, list_any}
use Rattle.std.specs.Str.{bytes_eq}
use Rattle.std.proofs.lemmas.Bool.{and_from, and_parts, both_ways, eqb-true, false_from_ne_true, false≢true, le-leb, lt-ltb, ltb-true, not-false, or_cases}
use Rattle.std.proofs.lemmas.List.{length-map}
use Rattle.std.proofs.lemmas.Map.Steps.{length-le_from_distinct_below}
use Rattle.exact.proofs.Lists.{bytes_eq_refl}
use Rattle.geometry.specs.Region.{Region}
use Rattle.history.specs.Catalog.{Catalog, ClassInfo, class_number}
use Rattle.history.specs.World.{World}
use Rattle.formula_shape.specs.Shape as shapes
use Rattle.formula_shape.specs.Sizes.{depth, nesting, nodes}
use Rattle.formula.specs.Resolved.{IsResolved, are_distinct, is_list_of}
use Rattle.formula_shape.specs.declared.limits.TheConstants as limits
use Rattle.meaning.specs.Fits.{FitsItsClasses}
use Rattle.ftl_parser.specs.declared.tree.FromPart.{FromPart}
use Rattle.ftl_parser.specs.Lawful.{IsAny, IsFromPart, IsLawful}
use Rattle.ftl_parser.specs.Tree.{QueryTree, Tree}
use Rattle.ftl_typer.specs.declared.found.FaultKind.TheVariants.{UnknownName, NameTaken}
use Rattle.ftl_typer.specs.Faults.{faults, formula_faults, parts_faults, targets_faults}
use Rattle.ftl_typer.specs.Fault.{fault_if}
use Rattle.ftl_typer.specs.First.{first_fault}
use Rattle.ftl_typer.specs.Resolved.{class_place, resolved, resolved_formula}
use Rattle.ftl_typer.specs.Scope.{NameScope, is_variable, scope_of, variable_number, with_assigned}
use Rattle.ftl_typer.proofs.FaultLemmas.{no_faults, none_if, parts_of_none}
use Rattle.ftl_typer.proofs.PlaceLemmas.{AreThere, numbers_of, one_name, place_below, some_there, variable_below}
use Rattle.ftl_typer.proofs.RightLemmas.{formula_right, some_items}
use Rattle.ftl_typer.proofs.SizeLemmas.{lawful_sizes}
use Rattle.ftl_typer.proofs.StableLemmas.{parts_stay}

-- ---- sizes

nodes_stay : (s : NameScope) (f : Tree) → nodes (resolved_formula s f) ≡ nodes f
nodes_stay s (shapes.Truth b) = refl
nodes_stay s (shapes.Atom a) = refl
nodes_stay s (shapes.Not f) = ap (λ (n : ℕ). n + 1) (nodes_stay s f)
nodes_stay s (shapes.And f g) = λ i. nodes_stay s f i + nodes_stay s g i + 1
nodes_stay s (shapes.Or f g) = λ i. nodes_stay s f i + nodes_stay s g i + 1
nodes_stay s (shapes.Next f) = ap (λ (n : ℕ). n + 1) (nodes_stay s f)
nodes_stay s (shapes.Eventually f) = ap (λ (n : ℕ). n + 1) (nodes_stay s f)
nodes_stay s (shapes.Always f) = ap (λ (n : ℕ). n + 1) (nodes_stay s f)
nodes_stay s (shapes.Bounded form ticks f) = ap (λ (n : ℕ). n + 1) (nodes_stay s f)
nodes_stay s (shapes.Until form ticks f g) = λ i. nodes_stay s f i + nodes_stay s g i + 1
nodes_stay s (shapes.Assign (name, t) f) = ap (λ (n : ℕ). n + 1) (nodes_stay (with_assigned s name t) f)

depth_stays : (s : NameScope) (f : Tree) → depth (resolved_formula s f) ≡ depth f
depth_stays s (shapes.Truth b) = refl
depth_stays s (shapes.Atom a) = refl
depth_stays s (shapes.Not f) = ap (λ (n : ℕ). n + 1) (depth_stays s f)
depth_stays s (shapes.And f g) = λ i. max (depth_stays s f i) (depth_stays s g i) + 1
depth_stays s (shapes.Or f g) = λ i. max (depth_stays s f i) (depth_stays s g i) + 1
depth_stays s (shapes.Next f) = ap (λ (n : ℕ). n + 1) (depth_stays s f)
depth_stays s (shapes.Eventually f) = ap (λ (n : ℕ). n + 1) (depth_stays s f)
depth_stays s (shapes.Always f) = ap (λ (n : ℕ). n + 1) (depth_stays s f)
depth_stays s (shapes.Bounded form ticks f) = ap (λ (n : ℕ). n + 1) (depth_stays s f)
depth_stays s (shapes.Until form ticks f g) = λ i. max (depth_stays s f i) (depth_stays s g i) + 1
depth_stays s (shapes.Assign (name, t) f) = ap (λ (n : ℕ). n + 1) (depth_stays (with_assigned s name t) f)

-- ---- classes

classes_below : (classes : List ClassInfo) (from : List FromPart) → AreThere classes from →
    list_all (λ (k : ℕ). nat_lt k (length classes)) (numbers_of classes from) ≡ true
classes_below classes [] there = refl
classes_below classes (part ∷ from) there =
    and_from (nat_lt (class_place classes part.class) (length classes)) (list_all (λ (k : ℕ). nat_lt k (length classes)) (numbers_of classes from))
    (lt-ltb (class_place classes part.class) (length classes)
    (place_below (λ (k : ClassInfo). bytes_eq part.class k.name) classes (some_there (class_number classes part.class) there.0)))
    (classes_below classes from there.1)

-- ---- targets

module _ (c : Catalog) (regions : List Region) (from : List FromPart) where
  abbrev pub s : NameScope
  s = scope_of c.classes regions from

  record Target (at : ℕ) (earlier : List (List ℕ)) (name : List ℕ) (names : List (List ℕ)) : Type 0 where
    known : is_variable s name ≡ true
    new : list_any (bytes_eq name) earlier ≡ false
    later : targets_faults s (at + 1) (earlier ++ name ∷ []) names ≡ []

  target_parts : (at : ℕ) (earlier : List (List ℕ)) (name : List ℕ) (names : List (List ℕ)) →
      targets_faults s at earlier (name ∷ names) ≡ [] → Target at earlier name names
  target_parts at earlier name names h =
      let twice = fault_if (list_any (bytes_eq name) earlier) NameTaken at in
      let behind = targets_faults s (at + 1) (earlier ++ name ∷ []) names in
      let outer = parts_of_none (fault_if (not (is_variable s name)) UnknownName at) (twice ++ behind) h in
      let inner = parts_of_none twice behind outer.1 in
      record {
        known = not-false (is_variable s name) (none_if (not (is_variable s name)) UnknownName at outer.0);
        new = none_if (list_any (bytes_eq name) earlier) NameTaken at inner.0;
        later = inner.1;
      }

  targets_below : AreThere c.classes from → (at : ℕ) (earlier names : List (List ℕ)) → targets_faults s at earlier names ≡ [] →
      list_all (λ (v : ℕ). nat_lt v (length (numbers_of c.classes from))) (map (variable_number s) names) ≡ true
  targets_below there at earlier [] h = refl
  targets_below there at earlier (name ∷ names) h =
      let target = target_parts at earlier name names h in
      and_from (nat_lt (variable_number s name) (length (numbers_of c.classes from)))
      (list_all (λ (v : ℕ). nat_lt v (length (numbers_of c.classes from))) (map (variable_number s) names))
      (variable_below c regions from there [] name target.known)
      (targets_below there (at + 1) (earlier ++ name ∷ []) names target.later)

  -- a name among others
  among : (name : List ℕ) (before behind : List (List ℕ)) → list_any (bytes_eq name) (before ++ name ∷ behind) ≡ true
  among name [] behind = ap (λ (b : Bool). b || list_any (bytes_eq name) behind) (bytes_eq_refl name)
  among name (other ∷ before) behind = rw (among name before behind) (or_true (bytes_eq name other))
    where
      or_true : (b : Bool) → (b || true) ≡ true
      or_true true = refl
      or_true false = refl

  -- a number that only an earlier target has is none of the later ones
  none_later : (test : ℕ → Bool) (name : List ℕ) → is_variable s name ≡ true → ((v : ℕ) → test v ≡ true → v ≡ variable_number s name) →
      (at : ℕ) (before behind names : List (List ℕ)) → targets_faults s at (before ++ name ∷ behind) names ≡ [] →
      AllByRecursion (λ (v : ℕ). test v ≡ false) (map (variable_number s) names)
  none_later test name known only at before behind [] h = tt
  none_later test name known only at before behind (other ∷ names) h =
      let earlier = before ++ name ∷ behind in
      let target = target_parts at earlier other names h in
      let differs = λ (passes : test (variable_number s other) ≡ true).
      let same = one_name from other name target.known known (only (variable_number s other) passes) in
      both_ways (list_any (bytes_eq other) earlier) target.new
      (subst (λ (n : List ℕ). list_any (bytes_eq n) earlier ≡ true) (sym same) (among name before behind)) in
      let later = subst (λ (ns : List (List ℕ)). targets_faults s (at + 1) ns names ≡ []) (append_assoc before (name ∷ behind) (other ∷ [])) target.later in (
        false_from_ne_true (test (variable_number s other)) differs,
        none_later test name known only (at + 1) before (behind ++ other ∷ []) names later,
      )

  any_from_all : (test : ℕ → Bool) (vs : List ℕ) → AllByRecursion (λ (v : ℕ). test v ≡ false) vs → list_any test vs ≡ false
  any_from_all test [] none = refl
  any_from_all test (v ∷ vs) none =
      ap (λ (b : Bool). b || list_any test vs) none.0 ∙ any_from_all test vs none.1

  targets_differ : (at : ℕ) (earlier names : List (List ℕ)) → targets_faults s at earlier names ≡ [] →
      are_distinct (map (variable_number s) names) ≡ true
  targets_differ at earlier [] h = refl
  targets_differ at earlier (name ∷ names) h =
      let target = target_parts at earlier name names h in
      let vs = map (variable_number s) names in
      let none = any_from_all (λ (v : ℕ). v == variable_number s name) vs
      (none_later (λ (v : ℕ). v == variable_number s name) name target.known (λ v same. eqb-true v (variable_number s name) same) (at + 1) earlier [] names target.later) in
      and_from (not (list_any (λ (v : ℕ). v == variable_number s name) vs)) (are_distinct vs)
      (ap not none) (targets_differ (at + 1) (earlier ++ name ∷ []) names target.later)

  targets_are_apart : (at : ℕ) (earlier names : List (List ℕ)) → targets_faults s at earlier names ≡ [] →
      IsDistinct eqb (map (variable_number s) names)
  unfolding IsDistinct
  targets_are_apart at earlier [] h = tt
  targets_are_apart at earlier (name ∷ names) h =
      let target = target_parts at earlier name names h in (
        none_later (eqb (variable_number s name)) name target.known (λ v same. sym (eqb-true (variable_number s name) v same)) (at + 1) earlier [] names target.later,
        targets_are_apart (at + 1) (earlier ++ name ∷ []) names target.later,
      )

  listed_below : (limit : ℕ) (vs : List ℕ) → list_all (λ (v : ℕ). nat_lt v limit) vs ≡ true → (q : ℕ) → list_any (eqb q) vs ≡ true → q < limit
  listed_below limit [] below q has = absurd (false≢true has)
  listed_below limit (v ∷ vs) below q has =
      let parts = and_parts (nat_lt v limit) (list_all (λ (w : ℕ). nat_lt w limit) vs) below in
      elim (or_cases (eqb q v) (list_any (eqb q) vs) has) [
        | inl here ↦ subst (λ (n : ℕ). n < limit) (sym (eqb-true q v here)) (ltb-true v limit parts.0)
        | inr later ↦ listed_below limit vs parts.1 q later
      ]

  -- there are no more targets than variables
  few_targets : AreThere c.classes from → (names : List (List ℕ)) → targets_faults s 0 [] names ≡ [] → length names ≤ length from
  few_targets there names h =
      let vs = map (variable_number s) names in
      let below = targets_below there 0 [] names h in
      let few = length-le_from_distinct_below vs (length (numbers_of c.classes from)) (targets_are_apart 0 [] names h)
      (listed_below (length (numbers_of c.classes from)) vs below) in
      omega (arith, few, length-map names (variable_number s), length-map from (λ (part : FromPart). class_place c.classes part.class))

-- ---- queries

listed : {A B : Type 0} (f : A → B) (limit : ℕ) (xs : List A) → 0 < length xs → length xs ≤ limit → is_list_of limit (map f xs) ≡ true
listed f limit xs some few =
    ap (λ (n : ℕ). nat_lt 0 n && nat_le n limit) (length-map xs f)
    ∙ and_from (nat_lt 0 (length xs)) (nat_le (length xs) limit) (lt-ltb 0 (length xs) some) (le-leb (length xs) limit few)

pub query_right : (w : World) (q : QueryTree) → IsLawful q → first_fault (faults w.history.catalog.classes w.regions q) ≡ None →
    IsResolved (resolved w.history.catalog.classes w.regions q) × FitsItsClasses w (resolved w.history.catalog.classes w.regions q)
query_right w q lawful h =
    let c = w.history.catalog in
    let around = scope_of c.classes w.regions q.from in
    let behind = length q.targets + 2 * length q.from in
    let none = no_faults (faults c.classes w.regions q) h in
    let outer = parts_of_none (targets_faults around 0 [] q.targets) (parts_faults c.classes (length q.targets) [] q.from ++ formula_faults around behind 0 q.formula) none in
    let inner = parts_of_none (parts_faults c.classes (length q.targets) [] q.from) (formula_faults around behind 0 q.formula) outer.1 in
    let there = (parts_stay c.classes [] (length q.targets) [] q.from inner.0).0 in
    let small = lawful_sizes q lawful in
    let few_nested = small.few_nested in
    let nested : length around.values + nesting q.formula ≤ limits.NESTING_LIMIT = omega arith in
    let formula = formula_right c w.regions q.from there [] behind 0 q.formula inner.1 lawful.shape.formula small.few_factors small.few_objects nested in
    let few = few_targets c w.regions q.from there q.targets outer.0 in
    let few_variables = small.few_variables in
    let sized = listed (variable_number around) limits.OBJECT_LIMIT q.targets (some_items IsAny q.targets lawful.shape.targets) (omega arith) in (
      record {
        variables = listed (λ (part : FromPart). class_place c.classes part.class) limits.OBJECT_LIMIT q.from (some_items (IsFromPart IsAny) q.from lawful.shape.from) few_variables;
        targets =
            and_from (is_list_of limits.OBJECT_LIMIT (map (variable_number around) q.targets))
            (list_all (λ (v : ℕ). nat_lt v (length (numbers_of c.classes q.from))) (map (variable_number around) q.targets))
            sized (targets_below c w.regions q.from there 0 [] q.targets outer.0);
        differ = targets_differ c w.regions q.from 0 [] q.targets outer.0;
        formula = formula.0;
        few_nodes = subst (λ (n : ℕ). n ≤ limits.NODE_LIMIT) (sym (nodes_stay around q.formula)) small.few_nodes;
        low = subst (λ (n : ℕ). n ≤ limits.DEPTH_LIMIT) (sym (depth_stays around q.formula)) small.low;
      },
      record {
        classes = classes_below c.classes q.from there;
        formula = formula.1;
      },
    )

pub resolved_is_right : (classes : List ClassInfo) (regions : List Region) (q : QueryTree) → IsLawful q →
    first_fault (faults classes regions q) ≡ None → IsResolved (resolved classes regions q)
resolved_is_right classes regions q lawful h =
    let w : World = record {
      history = record { catalog = record { classes = classes; objects = [] }; state = λ name t. None };
      regions = regions;
    } in
    (query_right w q lawful h).0

pub resolved_fits : (classes : List ClassInfo) (regions : List Region) (q : QueryTree) → IsLawful q →
    first_fault (faults classes regions q) ≡ None →
    (w : World) → w.history.catalog.classes ≡ classes → w.regions ≡ regions → FitsItsClasses w (resolved classes regions q)
resolved_fits classes regions q lawful h w same_classes same_regions =
    let with_classes = subst (λ (ks : List ClassInfo). first_fault (faults ks regions q) ≡ None) (sym same_classes) h in
    let with_both = subst (λ (rs : List Region). first_fault (faults w.history.catalog.classes rs q) ≡ None) (sym same_regions) with_classes in
    let fits = (query_right w q lawful with_both).1 in
    subst (λ (rs : List Region). FitsItsClasses w (resolved classes rs q)) same_regions
    (subst (λ (ks : List ClassInfo). FitsItsClasses w (resolved ks w.regions q)) same_classes fits)
