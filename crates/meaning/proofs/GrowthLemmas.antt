-- A query that fits its classes goes on fitting where classes and regions are added.
use Rattle.std.proofs.Common.{◌≡◌, ℕ, ◌<◌, ◌≤◌, Bool, true, false, ◌&&◌, Option, None, Some, List, [], ◌∷◌, ◌++◌, length, length-append, map, refl, sym, ap, ◌∙◌, arith}
use Rattle.std.specs.Prelude.{nat_lt, unwrap_or, option_map, option_and_then, slice_get}
use Rattle.std.specs.List.{list_all, reduce}
use Rattle.std.specs.Option.{option_map_or}
use Rattle.std.proofs.lemmas.Bool.{and_from, and_parts}
use Rattle.std.proofs.lemmas.Bool.Decides.{nat_tests}
use Rattle.geometry.specs.Region.{Region}
use Rattle.history.specs.Catalog.{Catalog, ClassInfo}
use Rattle.history.specs.World.{World}
use Rattle.history.specs.Write.{Attribute}
use Rattle.formula_shape.specs.Shape as shapes
use Rattle.formula.specs.declared.tree.RAtom.{RAtom}
use Rattle.formula.specs.declared.tree.RAtom.TheVariants as atoms
use Rattle.formula.specs.declared.tree.RSigned.{RSigned}
use Rattle.formula.specs.declared.tree.RTerm.{RTerm}
use Rattle.formula.specs.declared.tree.RUnit.{RUnit}
use Rattle.formula.specs.declared.tree.RUnit.TheVariants as units
use Rattle.formula.specs.Tree.{ResolvedQuery, ResolvedTree}
use Rattle.formula.specs.declared.value.ValueKind.{ValueKind}
use Rattle.meaning.specs.Fits.{FitsItsClasses, atom_fits, class_of_variable, factor_kind, formula_fits, is_point_variable, kind_beside, kind_of_parts, kind_of_sum, kind_with_sign, kinds_compare, no_kinds, term_kind, unit_kind, with_kind}
use Rattle.meaning.proofs.TermLemmas.{passes_at}
use Rattle.exact.proofs.Items.{slice_get-append}

-- ---- classes that stay for the variables

both_stay : (a b a' b' : Bool) → (a ≡ true → a' ≡ true) → (b ≡ true → b' ≡ true) → (a && b) ≡ true → (a' && b') ≡ true
both_stay a b a' b' first second both =
    let parts = and_parts a b both in and_from a' b' (first parts.0) (second parts.1)

module _ (old new : Catalog) (classes : List ℕ) (same : (v : ℕ) → class_of_variable old classes v ≡ class_of_variable new classes v) where
  same_unit : (scope : ℕ → Option ValueKind) (u : RUnit) → unit_kind old classes scope u ≡ unit_kind new classes scope u
  same_unit scope (units.Literal n) = refl
  same_unit scope (units.Text s) = refl
  same_unit scope (units.Var d bound) = refl
  same_unit scope (units.Attr v a bound) =
      ap
      (λ (class : Option ClassInfo). option_and_then (kind_beside bound) (option_and_then (λ k. option_map (λ (attribute : Attribute). attribute.kind) (slice_get k.attributes a)) class))
      (same v)
  same_unit scope (units.Sub v a part) =
      ap
      (λ (class : Option ClassInfo). option_and_then kind_of_parts (option_and_then (λ k. option_map (λ (attribute : Attribute). attribute.kind) (slice_get k.attributes a)) class))
      (same v)
  same_unit scope units.Time = refl

  same_factor : (scope : ℕ → Option ValueKind) (s : RSigned) → factor_kind old classes scope s ≡ factor_kind new classes scope s
  same_factor scope s = ap (option_and_then (kind_with_sign s.minus s.times)) (same_unit scope s.unit)

  same_term : (scope : ℕ → Option ValueKind) (q : RTerm) → term_kind old classes scope q ≡ term_kind new classes scope q
  same_term scope q = λ i. unwrap_or (reduce kind_of_sum (map (λ s. same_factor scope s i) q.factors)) None

  point_stays : (v : ℕ) → is_point_variable old classes v ≡ true → is_point_variable new classes v ≡ true
  point_stays v is = ap (λ (class : Option ClassInfo). option_map_or (λ k. k.point) class false) (sym (same v)) ∙ is

  points_stay : (vs : List ℕ) → list_all (is_point_variable old classes) vs ≡ true → list_all (is_point_variable new classes) vs ≡ true
  points_stay [] are = refl
  points_stay (v ∷ vs) are =
      let parts = and_parts (is_point_variable old classes v) (list_all (is_point_variable old classes) vs) are in
      and_from (is_point_variable new classes v) (list_all (is_point_variable new classes) vs) (point_stays v parts.0) (points_stay vs parts.1)

  inside_stays : (v n few many : ℕ) → few ≤ many → (is_point_variable old classes v && nat_lt n few) ≡ true →
      (is_point_variable new classes v && nat_lt n many) ≡ true
  inside_stays v n few many more fits =
      let parts = and_parts (is_point_variable old classes v) (nat_lt n few) fits in
      and_from (is_point_variable new classes v) (nat_lt n many) (point_stays v parts.0) (grind (arith, nat_tests, parts.1, more))

  atom_stays : (few many : ℕ) → few ≤ many → (scope : ℕ → Option ValueKind) (a : RAtom) →
      atom_fits old classes few scope a ≡ true → atom_fits new classes many scope a ≡ true
  atom_stays few many more scope (atoms.Compare q op r) fits =
      ap (λ kind. kinds_compare op kind (term_kind new classes scope r)) (sym (same_term scope q))
      ∙ ap (λ kind. kinds_compare op (term_kind old classes scope q) kind) (sym (same_term scope r))
      ∙ fits
  atom_stays few many more scope (atoms.Inside v n) fits = inside_stays v n few many more fits
  atom_stays few many more scope (atoms.Outside v n) fits = inside_stays v n few many more fits
  atom_stays few many more scope (atoms.Dist v u op c) fits =
      let parts = and_parts (is_point_variable old classes v) (is_point_variable old classes u) fits in
      and_from (is_point_variable new classes v) (is_point_variable new classes u) (point_stays v parts.0) (point_stays u parts.1)
  atom_stays few many more scope (atoms.Sphere r vs) fits = points_stay vs fits

  bound_stays : (p q : ValueKind → Bool) (o : Option ValueKind) → ((k : ValueKind) → p k ≡ true → q k ≡ true) →
      option_map_or p o false ≡ true → option_map_or q o false ≡ true
  bound_stays p q None stays is = is
  bound_stays p q (Some k) stays is = stays k is

  formula_stays : (few many : ℕ) → few ≤ many → (scope : ℕ → Option ValueKind) (f : ResolvedTree) →
      formula_fits old classes few scope f ≡ true → formula_fits new classes many scope f ≡ true
  formula_stays few many more scope (shapes.Truth b) fits = refl
  formula_stays few many more scope (shapes.Atom a) fits = atom_stays few many more scope a fits
  formula_stays few many more scope (shapes.Not f) fits = formula_stays few many more scope f fits
  formula_stays few many more scope (shapes.And f g) fits =
      both_stay (formula_fits old classes few scope f) (formula_fits old classes few scope g)
      (formula_fits new classes many scope f) (formula_fits new classes many scope g)
      (formula_stays few many more scope f) (formula_stays few many more scope g) fits
  formula_stays few many more scope (shapes.Or f g) fits =
      both_stay (formula_fits old classes few scope f) (formula_fits old classes few scope g)
      (formula_fits new classes many scope f) (formula_fits new classes many scope g)
      (formula_stays few many more scope f) (formula_stays few many more scope g) fits
  formula_stays few many more scope (shapes.Next f) fits = formula_stays few many more scope f fits
  formula_stays few many more scope (shapes.Eventually f) fits = formula_stays few many more scope f fits
  formula_stays few many more scope (shapes.Always f) fits = formula_stays few many more scope f fits
  formula_stays few many more scope (shapes.Bounded form ticks f) fits = formula_stays few many more scope f fits
  formula_stays few many more scope (shapes.Until form ticks f g) fits =
      both_stay (formula_fits old classes few scope f) (formula_fits old classes few scope g)
      (formula_fits new classes many scope f) (formula_fits new classes many scope g)
      (formula_stays few many more scope f) (formula_stays few many more scope g) fits
  formula_stays few many more scope (shapes.Assign (d, q) f) fits =
      ap (λ kind. option_map_or (λ k. formula_fits new classes many (with_kind scope d k) f) kind false) (sym (same_term scope q))
      ∙ bound_stays
      (λ k. formula_fits old classes few (with_kind scope d k) f) (λ k. formula_fits new classes many (with_kind scope d k) f)
      (term_kind old classes scope q) (λ k is. formula_stays few many more (with_kind scope d k) f is) fits

-- ---- classes and regions that are added

class_stays : (infos later : List ClassInfo) (class : Option ℕ) → ((k : ℕ) → class ≡ Some k → k < length infos) →
    option_and_then (slice_get infos) class ≡ option_and_then (slice_get (infos ++ later)) class
class_stays infos later None within = refl
class_stays infos later (Some k) within = sym (slice_get-append infos later k (within k refl))

classes_stay : (infos later : List ClassInfo) (classes : List ℕ) → list_all (λ k. nat_lt k (length infos)) classes ≡ true → (v : ℕ) →
    option_and_then (slice_get infos) (slice_get classes v) ≡ option_and_then (slice_get (infos ++ later)) (slice_get classes v)
classes_stay infos later classes are v =
    class_stays infos later (slice_get classes v)
    (λ k is. grind (arith, nat_tests, passes_at (λ n. nat_lt n (length infos)) classes v k are is))

all_below : (few many : ℕ) → few ≤ many → (classes : List ℕ) → list_all (λ k. nat_lt k few) classes ≡ true →
    list_all (λ k. nat_lt k many) classes ≡ true
all_below few many more [] are = refl
all_below few many more (k ∷ classes) are =
    let parts = and_parts (nat_lt k few) (list_all (λ n. nat_lt n few) classes) are in
    and_from (nat_lt k many) (list_all (λ n. nat_lt n many) classes) (grind (arith, nat_tests, parts.0, more)) (all_below few many more classes parts.1)

longer : {A : Type 0} (xs ys all : List A) → all ≡ xs ++ ys → length xs ≤ length all
longer xs ys all is = rw (ap length is ∙ length-append xs ys) (omega arith)

pub goes_on_fitting : (old new : World) (m : List ClassInfo) (n : List Region) →
    new.history.catalog.classes ≡ old.history.catalog.classes ++ m → new.regions ≡ old.regions ++ n → (q : ResolvedQuery) →
    FitsItsClasses old q → FitsItsClasses new q
goes_on_fitting old new m n classes regions q fits = record {
  classes =
      all_below (length old.history.catalog.classes) (length new.history.catalog.classes)
      (longer old.history.catalog.classes m new.history.catalog.classes classes) q.classes fits.classes;
  formula =
      formula_stays old.history.catalog new.history.catalog q.classes
      (λ v. classes_stay old.history.catalog.classes m q.classes fits.classes v
      ∙ ap (λ infos. option_and_then (slice_get infos) (slice_get q.classes v)) (sym classes))
      (length old.regions) (length new.regions) (longer old.regions n new.regions regions) no_kinds q.formula fits.formula;
}
