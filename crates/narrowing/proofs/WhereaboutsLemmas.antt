-- for callers
-- Formulas that hold nowhere in an area.
use Rattle.std.proofs.Common.{◌≡◌, ℕ, ℤ, ◌≤◌, ◌≤ℤ◌, Bool, true, false, ◌&&◌, Option, None, Some, List, refl, sym, ap, subst, ◌∙◌}
use Rattle.std.specs.Prelude.{int_le, option_and_then, option_map, slice_get}
use Rattle.std.specs.Option.{option_map_or}
use Rattle.std.proofs.lemmas.Bool.{and_parts, both_ways, cases_Bool, false_from_ne_true}
use Rattle.std.proofs.lemmas.Option.{none-some, same_Some}
use Rattle.fixed_point.specs.declared.number.Point.{Point}
use Rattle.formula_shape.specs.Shape as shapes
use Rattle.formula.specs.declared.tree.RAtom.{RAtom}
use Rattle.formula.specs.declared.tree.RAtom.TheVariants as atoms
use Rattle.formula.specs.Tree.{ResolvedTree}
use Rattle.geometry.specs.Plane.{point}
use Rattle.geometry.specs.Polygon.{is_inside}
use Rattle.geometry.specs.Region.{Region}
use Rattle.history.specs.History.{cells_at}
use Rattle.meaning.specs.Atom.{is_in_region, place_by, position_in}
use Rattle.meaning.specs.Satisfaction.{Interpretation}
use Rattle.motion.specs.Dynamic.{Dynamic, value_at}
use Rattle.motion.specs.declared.cell.Cell.{Cell}
use Rattle.motion.specs.declared.cell.Cell.TheVariants as cells
use Rattle.motion.specs.Cells.{dynamic_of}
use Rattle.object_store.specs.declared.areas.Area.{Area}
use Rattle.object_store.specs.declared.areas.Sides.{Sides}
use Rattle.object_store.specs.Areas.{is_between_sides, is_cell_between, is_told}
use Rattle.object_store.specs.Contents.{Contents, history_of}
use Rattle.polygon.specs.Bounds.{is_in_box}
use Rattle.narrowing.specs.Needed.{Fails, told}
use Rattle.narrowing.specs.Whereabouts.{FailsAt, has_place}
use Rattle.narrowing.proofs.FailLemmas.{fails_or, FormulasNeed}
use Rattle.exact.proofs.Integers.{at_most_from_int_test}

-- ---- INSIDE

module _ (test : Point → Bool) (area : Area) (apart : (p : Point) → test p ≡ true → has_place area p ≡ false) (t : ℕ) where
  by_places : (u v : Dynamic) → (is_between_sides area.x (value_at u t) && is_between_sides area.y (value_at v t)) ≡ true → test (point (value_at u t) (value_at v t)) ≡ false
  by_places u v within =
      let p : Point = point (value_at u t) (value_at v t) in
      false_from_ne_true (test p) (λ holds. both_ways (has_place area p) (apart p holds) within)

  by_cells : (first second : Option Cell) → (is_cell_between area.x t first && is_cell_between area.y t second) ≡ true →
      option_map_or test (place_by (option_and_then dynamic_of first) (option_and_then dynamic_of second) t) false ≡ false
  by_cells None second within = refl
  by_cells (Some (cells.Num n)) second within = refl
  by_cells (Some (cells.Text s)) second within = refl
  by_cells (Some (cells.Dyn u)) None within = refl
  by_cells (Some (cells.Dyn u)) (Some (cells.Num n)) within = refl
  by_cells (Some (cells.Dyn u)) (Some (cells.Text s)) within = refl
  by_cells (Some (cells.Dyn u)) (Some (cells.Dyn v)) within = by_places u v within

  within_area : (there : Option (List Cell)) → is_told (Some area) t there ≡ true → option_map_or test (position_in t there) false ≡ false
  within_area None within = refl
  within_area (Some there) within = by_cells (slice_get there 0) (slice_get there 1) within

pub fails_inside : (area : Area) (regions : List Region) (n : ℕ) → ((p : Point) → is_in_region regions n p ≡ true → has_place area p ≡ false) →
    FailsAt area regions (shapes.Atom (atoms.Inside 0 n))
fails_inside area regions n apart s b lo hi within x t from to =
    within_area (is_in_region regions n) area apart t (cells_at (history_of s) (b 0) t) (within t from to)

-- ---- regions

pub region_apart : (regions : List Region) (n : ℕ) (points : List Point) (area : Area) → option_map (λ (r : Region). r.points) (slice_get regions n) ≡ Some points →
    ((p : Point) → is_inside points p ≡ true → has_place area p ≡ false) → (p : Point) → is_in_region regions n p ≡ true → has_place area p ≡ false
region_apart regions n points area are apart p holds = apart p (sym (same (slice_get regions n) are) ∙ holds)
  where
    same : (r : Option Region) → option_map (λ (r : Region). r.points) r ≡ Some points → option_map_or (λ (region : Region). is_inside region.points p) r false ≡ is_inside points p
    same None is = absurd (none-some points is)
    same (Some region) is = ap (λ (points : List Point). is_inside points p) (same_Some region.points points is)

-- a place among the least and the greatest coordinates isn't in an area that is apart from them along one axis
pub box_apart : (area : Area) (least greatest p : Point) (x y : Bool) → (x && y) ≡ false →
    (x ≡ false → (n : ℤ) → least.x ≤ℤ n → n ≤ℤ greatest.x → is_between_sides area.x n ≡ false) →
    (y ≡ false → (n : ℤ) → least.y ≤ℤ n → n ≤ℤ greatest.y → is_between_sides area.y n ≡ false) →
    is_in_box least greatest p ≡ true → has_place area p ≡ false
box_apart area least greatest p x y apart along_x along_y among =
    let first = and_parts (int_le least.x p.x && int_le p.x greatest.x && int_le least.y p.y) (int_le p.y greatest.y) among in
    let second = and_parts (int_le least.x p.x && int_le p.x greatest.x) (int_le least.y p.y) first.0 in
    let third = and_parts (int_le least.x p.x) (int_le p.x greatest.x) second.0 in
    by_axis x y apart
    (λ none. along_x none p.x (at_most_from_int_test least.x p.x third.0) (at_most_from_int_test p.x greatest.x third.1))
    (λ none. along_y none p.y (at_most_from_int_test least.y p.y second.1) (at_most_from_int_test p.y greatest.y first.1))
  where
    never : (b : Bool) → (b && false) ≡ false
    never true = refl
    never false = refl

    by_axis : (x y : Bool) → (x && y) ≡ false → (x ≡ false → is_between_sides area.x p.x ≡ false) → (y ≡ false → is_between_sides area.y p.y ≡ false) →
        has_place area p ≡ false
    by_axis false y apart first second = ap (λ b. b && is_between_sides area.y p.y) (first refl)
    by_axis true y apart first second = ap (λ b. is_between_sides area.x p.x && b) (second apart) ∙ never (is_between_sides area.x p.x)

-- ---- formulas

module _ (area : Area) (regions : List Region) where
  pub at_same : (g whole : ResolvedTree) → whole ≡ g → FailsAt area regions g → FailsAt area regions whole
  at_same g whole same fails = subst (FailsAt area regions) (sym same) fails

  pub at_truth : (holds : Bool) (whole : ResolvedTree) → whole ≡ shapes.Truth holds → holds ≡ false → FailsAt area regions whole
  at_truth holds whole same never = at_same (shapes.Truth holds) whole same (λ s b lo hi within x t from to. never)

  pub at_part : (f g whole : ResolvedTree) → whole ≡ g → ((j : Interpretation) (lo hi : ℕ) → Fails j lo hi f → Fails j lo hi g) →
      FailsAt area regions f → FailsAt area regions whole
  at_part f g whole same leads fails = at_same g whole same (λ s b lo hi within. leads (told s regions b) lo hi (fails s b lo hi within))

  pub at_or : FormulasNeed → (f g whole : ResolvedTree) → whole ≡ shapes.Or f g → FailsAt area regions f → FailsAt area regions g → FailsAt area regions whole
  at_or law f g whole same first second =
      at_same (shapes.Or f g) whole same
      (λ s b lo hi within. fails_or law (told s regions b) lo hi f g (first s b lo hi within) (second s b lo hi within))
