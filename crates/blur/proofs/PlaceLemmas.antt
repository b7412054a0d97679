-- Places in a polygon by a margin, in a window.
use Rattle.std.proofs.Common.{◌≡◌, ℕ, ◌-◌, Bool, true, false, ◌&&◌, ℤ, pos, ◌+ℤ◌, ◌*ℤ◌, neg_ℤ, List, sym, ap, ◌∙◌, arith}
use Rattle.std.specs.Prelude.{not}
use Rattle.std.specs.List.{list_all, list_any}
use Rattle.exact.proofs.Ring.{part, number, sum, product, same}
use Rattle.fixed_point.specs.declared.number.Point.{Point}
use Rattle.geometry.specs.Margin.{corners, is_inside_by}
use Rattle.geometry.specs.Plane.{is_right_of}
use Rattle.geometry.specs.Polygon.{counterclockwise_points, edges, is_inside}
use Rattle.linear_crossing.specs.Moving.{position_after}
use Rattle.linear_crossing.specs.declared.quad.Line.{Line}
use Rattle.polygon.specs.Margin.{is_inside_by_at, margin_after}
use Rattle.polygon.specs.declared.margin.Margin.{Margin}
use Rattle.tick_set.specs.Runs.{IsRuns}
use Rattle.tick_set.specs.Ticks.{within}
use Rattle.tick_set.specs.declared.spans.Span.{Span}
use Rattle.tick_set.specs.declared.spans.Window.{Window}
use Rattle.blur.specs.Asked.{inside_by, margin_of}

-- all corners inside, and some not on the right of each edge, by margins
abbrev AllByMargin : Type 0
AllByMargin = (m : ℕ) (points : List Point) (p : Point) → list_all (is_inside points) (corners m p) ≡ is_inside_by (pos m) points p

abbrev SomeByMargin : Type 0
SomeByMargin =
    (m : ℕ) (points : List Point) (p : Point)
    → not (list_any (λ e. list_all (is_right_of e) (corners m p)) (edges (counterclockwise_points points))) ≡ is_inside_by (neg_ℤ (pos m)) points p

by_margin : AllByMargin → SomeByMargin → (sure : Bool) (m : ℕ) (points : List Point) (p : Point) → is_inside_by (margin_of sure m) points p ≡ inside_by sure m points p
by_margin all some true m points p = sym (all m points p)
by_margin all some false m points p = sym (some m points p)

stays : (a : ℤ) (k : ℕ) → a +ℤ pos 0 *ℤ pos k ≡ a
stays a k = same (sum (part a) (product (number 0) (number k))) (part a) (omega arith)

margin_stays : (margin : Margin) (first : ℤ) (k : ℕ) → margin.first ≡ first → margin.rise ≡ pos 0 → margin_after margin k ≡ first
margin_stays margin first k e f = (λ i. e i +ℤ f i *ℤ pos k) ∙ stays first k

-- the run by a margin that stays is that of the places inside
pub run_by_margin : AllByMargin → SomeByMargin → (sure : Bool) (error : ℕ) (margin : Margin) (points : List Point) (l : Line) (w : Window) (run : List Span)
    → margin.first ≡ margin_of sure error → margin.rise ≡ pos 0 → IsRuns (is_inside_by_at points l margin w) run
    → IsRuns (λ t. within w.lo w.hi t && inside_by sure error points (position_after l (t - w.lo))) run
run_by_margin all some sure error margin points l w run e f runs = record {
  normal = runs.normal;
  ticks = λ t.
      runs.ticks t
      ∙ ap (λ b. within w.lo w.hi t && b)
      (ap (λ m. is_inside_by m points (position_after l (t - w.lo))) (margin_stays margin (margin_of sure error) (t - w.lo) e f)
      ∙ by_margin all some sure error points (position_after l (t - w.lo)));
}
