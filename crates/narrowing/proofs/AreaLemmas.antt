-- Atoms and the areas in which they need an object.
use Rattle.std.proofs.Common.{◌≡◌, ℕ, zero, suc, ℤ, pos, neg_ℤ, ◌≤ℤ◌, ◌<◌, Bool, true, false, not, ◌&&◌, Option, None, Some, List, refl, sym, ap, subst, ◌∙◌, arith}
use Rattle.std.specs.Prelude.{IfSome, int_le, option_map, option_and_then, slice_get}
use Rattle.std.specs.List.{list_all, list_any}
use Rattle.std.specs.Option.{option_map_or}
use Rattle.std.proofs.lemmas.Bool.{false≢true, and_from, and_parts, both_ways, false_from_ne_true}
use Rattle.std.proofs.lemmas.Int.{ints}
use Rattle.std.proofs.lemmas.Option.{none-some, same_Some}
use Rattle.case_table.specs.declared.compare.Op.{Op}
use Rattle.case_table.specs.Comparison.{compares}
use Rattle.fixed_point.specs.declared.number.Point.{Point}
use Rattle.geometry.specs.Margin.{corners, is_inside_by}
use Rattle.geometry.specs.Plane.{is_right_of, point}
use Rattle.geometry.specs.Polygon.{counterclockwise_points, edges, is_inside}
use Rattle.geometry.specs.Region.{Region}
use Rattle.motion.specs.Dynamic.{Dynamic, value_at}
use Rattle.motion.specs.declared.cell.Cell.{Cell}
use Rattle.motion.specs.declared.cell.Cell.TheVariants as cells
use Rattle.motion.specs.Cells.{dynamic_of}
use Rattle.formula.specs.declared.tree.RAtom.{RAtom}
use Rattle.formula.specs.declared.tree.RAtom.TheVariants as atoms
use Rattle.formula.specs.declared.tree.RTerm.{RTerm}
use Rattle.formula.specs.declared.value.Value.{Value}
use Rattle.formula.specs.declared.value.Value.TheVariants as values
use Rattle.meaning.specs.Atom.{place_by, position_in}
use Rattle.meaning.specs.Value.{cell_in, cell_value, term_value, values_compare}
use Rattle.object_store.specs.declared.areas.Area.{Area}
use Rattle.object_store.specs.declared.areas.Sides.{Sides}
use Rattle.object_store.specs.Areas.{is_between_sides, is_cell_between, is_in_area}
use Rattle.polygon.specs.Bounds.{is_in_box}
use Rattle.worlds.specs.Blurred.{is_in_region_by}
use Rattle.worlds.specs.Inside.{is_possibly_inside}
use Rattle.narrowing.specs.Covering.{Covers, area_beside, open_sides}
use Rattle.narrowing.specs.Terms.{IsConstant, IsCoordinate}
use Rattle.exact.proofs.Truths.{second_false}
use Rattle.exact.proofs.Integers.{at_most_passes}

-- ---- INSIDE

module _ (test : Point → Bool) (area : Area) (along_x : (p : Point) → test p ≡ true → is_between_sides area.x p.x ≡ true)
    (along_y : (p : Point) → test p ≡ true → is_between_sides area.y p.y ≡ true) (t : ℕ) where
  by_places : (u v : Dynamic) → (is_between_sides area.x (value_at u t) && is_between_sides area.y (value_at v t)) ≡ false → test (point (value_at u t) (value_at v t)) ≡ false
  by_places u v outside =
      let p : Point = point (value_at u t) (value_at v t) in
      false_from_ne_true (test p) (λ holds.
      both_ways (is_between_sides area.x p.x && is_between_sides area.y p.y) outside (and_from (is_between_sides area.x p.x) (is_between_sides area.y p.y) (along_x p holds) (along_y p holds)))

  by_cells : (first second : Option Cell) → (is_cell_between area.x t first && is_cell_between area.y t second) ≡ false →
      option_map_or test (place_by (option_and_then dynamic_of first) (option_and_then dynamic_of second) t) false ≡ false
  by_cells None second outside = refl
  by_cells (Some (cells.Num n)) second outside = refl
  by_cells (Some (cells.Text s)) second outside = refl
  by_cells (Some (cells.Dyn u)) None outside = refl
  by_cells (Some (cells.Dyn u)) (Some (cells.Num n)) outside = refl
  by_cells (Some (cells.Dyn u)) (Some (cells.Text s)) outside = refl
  by_cells (Some (cells.Dyn u)) (Some (cells.Dyn v)) outside = by_places u v outside

  outside_area : (there : Option (List Cell)) → is_in_area area t there ≡ false → option_map_or test (position_in t there) false ≡ false
  outside_area None outside = refl
  outside_area (Some there) outside = by_cells (slice_get there 0) (slice_get there 1) outside

-- what `polygon` says of the corners of boxes
abbrev pub CornersStandTogether : Type 0
CornersStandTogether = (m : ℕ) (points : List Point) (p : Point) →
    not (list_any (λ e. list_all (is_right_of e) (corners m p)) (edges (counterclockwise_points points))) ≡ is_inside_by (neg_ℤ (pos m)) points p

region_points : (test : List Point → Point → Bool) (r : Option Region) (points : List Point) (p : Point) → option_map (λ (r : Region). r.points) r ≡ Some points →
    option_map_or (λ (region : Region). test region.points p) r false ≡ test points p
region_points test None points p are = absurd (none-some points are)
region_points test (Some region) points p are = ap (λ (points : List Point). test points p) (same_Some region.points points are)

pub region_covers : CornersStandTogether → (error : ℕ) (regions : List Region) (v n : ℕ) (points : List Point) (area : Area) →
    option_map (λ (r : Region). r.points) (slice_get regions n) ≡ Some points →
    ((p : Point) → is_inside_by (neg_ℤ (pos error)) points p ≡ true → is_between_sides area.x p.x ≡ true) →
    ((p : Point) → is_inside_by (neg_ℤ (pos error)) points p ≡ true → is_between_sides area.y p.y ≡ true) →
    Covers error regions v (atoms.Inside v n) area
region_covers law error regions v n points area are along_x along_y h b x t outside =
    let by_margin : (p : Point) → is_in_region_by (is_possibly_inside error) regions n p ≡ is_inside_by (neg_ℤ (pos error)) points p =
    λ p. region_points (is_possibly_inside error) (slice_get regions n) points p are ∙ law error points p in
    outside_area (is_in_region_by (is_possibly_inside error) regions n) area
    (λ p holds. along_x p (sym (by_margin p) ∙ holds)) (λ p holds. along_y p (sym (by_margin p) ∙ holds)) t (h v t) outside

-- ---- a box by its sides

negated_upto : (a b : ℤ) → neg_ℤ b ≤ℤ a → neg_ℤ a ≤ℤ b
negated_upto a b upto = omega (arith, ints, upto)

least_side : (least : Option ℤ) (n : ℤ) → IfSome least (λ m. neg_ℤ n ≤ℤ m) → option_map_or (λ least. int_le least n) (option_map neg_ℤ least) true ≡ true
least_side None n upto = refl
least_side (Some m) n upto = at_most_passes (neg_ℤ m) n (negated_upto m n upto)

greatest_side : (greatest : Option ℤ) (n : ℤ) → IfSome greatest (λ m. n ≤ℤ m) → option_map_or (λ greatest. int_le n greatest) greatest true ≡ true
greatest_side None n upto = refl
greatest_side (Some m) n upto = at_most_passes n m upto

pub between_sides : (least greatest low : Option ℤ) (test : Point → Bool) (of : Point → ℤ) → low ≡ option_map neg_ℤ least →
    IfSome least (λ m. (p : Point) → test p ≡ true → neg_ℤ (of p) ≤ℤ m) → IfSome greatest (λ m. (p : Point) → test p ≡ true → of p ≤ℤ m) →
    (p : Point) → test p ≡ true → is_between_sides (record { least = low; greatest = greatest }) (of p) ≡ true
between_sides least greatest low test of is below above p holds =
    and_from (option_map_or (λ least. int_le least (of p)) low true) (option_map_or (λ greatest. int_le (of p) greatest) greatest true)
    (ap (λ (low : Option ℤ). option_map_or (λ least. int_le least (of p)) low true) is ∙ least_side least (of p) (at_place least below))
    (greatest_side greatest (of p) (at_place_above greatest above))
  where
    at_place : (side : Option ℤ) → IfSome side (λ m. (p : Point) → test p ≡ true → neg_ℤ (of p) ≤ℤ m) → IfSome side (λ m. neg_ℤ (of p) ≤ℤ m)
    at_place None each = tt
    at_place (Some m) each = each p holds

    at_place_above : (side : Option ℤ) → IfSome side (λ m. (p : Point) → test p ≡ true → of p ≤ℤ m) → IfSome side (λ m. of p ≤ℤ m)
    at_place_above None each = tt
    at_place_above (Some m) each = each p holds

-- ---- a box by its least and greatest coordinates

abbrev pub from_to : ℤ → ℤ → Sides
from_to least greatest = record { least = Some least; greatest = Some greatest }

pub among_x : (least greatest p : Point) → is_in_box least greatest p ≡ true → is_between_sides (from_to least.x greatest.x) p.x ≡ true
among_x least greatest p among =
    let first = and_parts (int_le least.x p.x && int_le p.x greatest.x && int_le least.y p.y) (int_le p.y greatest.y) among in
    (and_parts (int_le least.x p.x && int_le p.x greatest.x) (int_le least.y p.y) first.0).0

pub among_y : (least greatest p : Point) → is_in_box least greatest p ≡ true → is_between_sides (from_to least.y greatest.y) p.y ≡ true
among_y least greatest p among =
    let first = and_parts (int_le least.x p.x && int_le p.x greatest.x && int_le least.y p.y) (int_le p.y greatest.y) among in
    and_from (int_le least.y p.y) (int_le p.y greatest.y) (and_parts (int_le least.x p.x && int_le p.x greatest.x) (int_le least.y p.y) first.0).1 first.1

-- where nothing is off, what is possibly inside is inside
pub sides_exactly : ((points : List Point) (p : Point) → is_inside_by (pos 0) points p ≡ is_inside points p) → (error : ℕ) → error ≡ 0 → (points : List Point) (of : Point → ℤ) (sides : Sides) →
    ((p : Point) → is_inside points p ≡ true → is_between_sides sides (of p) ≡ true) → (p : Point) → is_inside_by (neg_ℤ (pos error)) points p ≡ true → is_between_sides sides (of p) ≡ true
sides_exactly law error none points of sides inside p holds =
    inside p (sym (law points p) ∙ subst (λ (n : ℕ). is_inside_by (neg_ℤ (pos n)) points p ≡ true) none holds)

-- ---- comparisons

open_holds : (t : ℕ) (cell : Option Cell) → is_cell_between open_sides t cell ≡ true
open_holds t None = refl
open_holds t (Some (cells.Num n)) = refl
open_holds t (Some (cells.Text s)) = refl
open_holds t (Some (cells.Dyn v)) = refl

left_fails : (a b : Bool) → b ≡ true → (a && b) ≡ false → a ≡ false
left_fails true b holds fails = absurd (both_ways b fails holds)
left_fails false b holds fails = refl

module _ (f : Option Value → Bool) (sides : Sides) (none : f None ≡ false)
    (between : (n : ℤ) → f (Some (values.Num n)) ≡ true → is_between_sides sides n ≡ true) (t : ℕ) where
  by_cell : (cell : Option Cell) → is_cell_between sides t cell ≡ false → f (option_map (λ (cell : Cell). cell_value cell t) cell) ≡ false
  by_cell None outside = absurd (false≢true (sym outside))
  by_cell (Some (cells.Num n)) outside = absurd (false≢true (sym outside))
  by_cell (Some (cells.Text s)) outside = absurd (false≢true (sym outside))
  by_cell (Some (cells.Dyn v)) outside =
      false_from_ne_true (f (Some (values.Num (value_at v t)))) (λ holds.
      both_ways (is_between_sides sides (value_at v t)) outside (between (value_at v t) holds))

  pub outside_sides : (index : ℕ) → index < 2 → (there : Option (List Cell)) → is_in_area (area_beside index sides) t there ≡ false →
      f (option_map (λ (cell : Cell). cell_value cell t) (cell_in there index)) ≡ false
  outside_sides index first None outside = none
  outside_sides zero first (Some there) outside =
      by_cell (slice_get there 0)
      (left_fails (is_cell_between sides t (slice_get there 0)) (is_cell_between open_sides t (slice_get there 1)) (open_holds t (slice_get there 1)) outside)
  outside_sides (suc zero) first (Some there) outside =
      by_cell (slice_get there 1)
      (second_false (is_cell_between open_sides t (slice_get there 0)) (is_cell_between sides t (slice_get there 1)) (open_holds t (slice_get there 0)) outside)
  outside_sides (suc (suc index)) first (Some there) outside = absurd (omega (arith, first))

pub compare_covers : (error : ℕ) (regions : List Region) (v index : ℕ) (left right : RTerm) (op : Op) (c : ℤ) (sides : Sides) →
    index < 2 → IsCoordinate v index left → IsConstant c right → ((n : ℤ) → compares op n c ≡ true → is_between_sides sides n ≡ true) →
    Covers error regions v (atoms.Compare left op right) (area_beside index sides)
compare_covers error regions v index left right op c sides first coordinate constant between h b x t outside =
    ap (λ (value : Option Value). values_compare op value (term_value h right x t)) (coordinate h x t)
    ∙ ap (λ (value : Option Value). values_compare op (option_map (λ (cell : Cell). cell_value cell t) (cell_in (h v t) index)) value) (constant h x t)
    ∙ outside_sides (λ (value : Option Value). values_compare op value (Some (values.Num c))) sides refl between t index first (h v t) outside

pub compared_covers : (error : ℕ) (regions : List Region) (v index : ℕ) (left right : RTerm) (op : Op) (c : ℤ) (sides : Sides) →
    index < 2 → IsCoordinate v index right → IsConstant c left → ((n : ℤ) → compares op c n ≡ true → is_between_sides sides n ≡ true) →
    Covers error regions v (atoms.Compare left op right) (area_beside index sides)
compared_covers error regions v index left right op c sides first coordinate constant between h b x t outside =
    ap (λ (value : Option Value). values_compare op value (term_value h right x t)) (constant h x t)
    ∙ ap (λ (value : Option Value). values_compare op (Some (values.Num c)) value) (coordinate h x t)
    ∙ outside_sides (λ (value : Option Value). values_compare op (Some (values.Num c)) value) sides refl between t index first (h v t) outside

pub covers_any : (error : ℕ) (regions : List Region) (v : ℕ) (a b : RAtom) → a ≡ b → (r : Option Area) →
    IfSome r (λ area. (error : ℕ) (regions : List Region) → Covers error regions v b area) → IfSome r (λ area. Covers error regions v a area)
covers_any error regions v a b same None covers = tt
covers_any error regions v a b same (Some area) covers = subst (λ (a : RAtom). Covers error regions v a area) (sym same) (covers error regions)
