-- For this crate and for the crates above: objects that keep further apart than a distance on one axis.
use Rattle.std.proofs.Common.{◌≡◌, ℕ, ◌+◌, ◌≤◌, ◌&&◌, refl, List, None, Bool, Option, Some, ℤ, pos, neg_ℤ, ◌+ℤ◌, ◌-ℤ◌, ◌*ℤ◌, ◌≤ℤ◌, ◌<ℤ◌, inl, inr, ap, subst, ◌∙◌, arith}
use Rattle.std.specs.Prelude.{IfSome, option_and_then}
use Rattle.std.proofs.lemmas.Int.{ints}
use Rattle.distance_crossing.proofs.Signs.{product_above, square_least}
use Rattle.exact.proofs.Ring.{part, sum, difference, product, same}
use Rattle.exact.proofs.Integers.{less_by, opposite_above, sum_above_by_first, sum_above_by_second}
use Rattle.fixed_point.specs.declared.number.Point.{Point}
use Rattle.geometry.specs.Plane.{point, square, squared_distance}
use Rattle.courses.specs.Places.{dynamic_at, place_by, place_of}
use Rattle.meaning.specs.Atom.{position_in}
use Rattle.motion.specs.Dynamic.{Dynamic, value_at}
use Rattle.motion.specs.Timeline.{Epoch, epoch_at}
use Rattle.atoms.specs.declared.routes.Route.{Route}
use Rattle.distance_crossing.specs.Triples.{triple_spans}
use Rattle.distance_crossing.specs.declared.comparison.Triple.{Triple}
use Rattle.distance_crossing.proofs.FarLemmas.{opposite_square}
use Rattle.tick_set.specs.Ticks.{within}
use Rattle.atoms.specs.Found.{AreRunsWhere}
use Rattle.atoms.specs.Parts.{beside, trace_by}
use Rattle.atoms.specs.Routes.{IsPast, IsUpdated, place_along}
use Rattle.atoms.proofs.RunLemmas.{runs_within}
use Rattle.atoms.proofs.StraightLemmas.{place_beside}

-- ---- the place of an object

pub place_on : (p : Epoch) (x y : Dynamic) (t : ℕ) → dynamic_at p 0 ≡ Some x → dynamic_at p 1 ≡ Some y → place_of p t ≡ Some (point (value_at x t) (value_at y t))
place_on p x y t is_x is_y = λ i. place_by (is_x i) (is_y i) t

pub placed : (variables : List ℕ) (timelines : List (List Epoch)) (v t : ℕ) (epochs : List Epoch) (p : Epoch) → Some epochs ≡ beside variables timelines v →
    epoch_at epochs t ≡ Some p → position_in t (trace_by variables timelines v t) ≡ place_of p t
placed variables timelines v t epochs p is in_force =
    place_beside variables timelines v t epochs is ∙ ap (λ (o : Option Epoch). option_and_then (λ q. place_of q t) o) in_force

pub on_route : (route : Option Route) (lo hi : ℕ) (place along : ℕ → Option Point) → ((t : ℕ) → lo ≤ t → t ≤ hi → place t ≡ along t) →
    IfSome route (λ r. (t : ℕ) → along t ≡ Some (place_along r t)) → IfSome route (λ r. (t : ℕ) → lo ≤ t → t ≤ hi → place t ≡ Some (place_along r t))
on_route None lo hi place along same places = tt
on_route (Some r) lo hi place along same places = λ t from up_to. same t from up_to ∙ places t

pub written_later : (route : Option Route) (from lo : ℕ) → from ≤ lo → IfSome route (λ r. IsUpdated r from) → IfSome route (λ r. IsUpdated r lo)
written_later None from lo later written = tt
written_later (Some r) from lo later written = (omega (arith, written.0, later), omega (arith, written.1, later))

-- ---- by the ends of ranges

pub past_above : (c least greatest m n : ℤ) → m ≤ℤ greatest → least ≤ℤ n → c <ℤ (least -ℤ greatest) → IsPast c (n -ℤ m)
past_above c least greatest m n most at_least past = inl (omega (arith, ints))

pub past_below : (c least greatest m n : ℤ) → least ≤ℤ m → n ≤ℤ greatest → c <ℤ (least -ℤ greatest) → IsPast c (n -ℤ m)
past_below c least greatest m n at_least most past = inr (omega (arith, ints))

-- ---- squares

squares_apart : (c v : ℤ) → (v -ℤ c) *ℤ (v +ℤ c) ≡ square v -ℤ square c
squares_apart c v =
    same (product (difference (part v) (part c)) (sum (part v) (part c))) (difference (product (part v) (part v)) (product (part c) (part c))) (omega arith)

square_above : (c v : ℤ) → pos 0 ≤ℤ c → c <ℤ v → square c <ℤ square v
square_above c v p l =
    let P : ℤ → Type 0 = λ z. pos 0 <ℤ z in
    less_by (square c) (square v) (subst P (squares_apart c v) (product_above (v -ℤ c) (v +ℤ c) (omega (arith, ints)) (omega (arith, ints))))

pub square_past : (c v : ℤ) → pos 0 ≤ℤ c → IsPast c v → square c <ℤ square v
square_past c v p past =
    let P : ℤ → Type 0 = λ z. square c <ℤ z in
    elim past [
      | inl above ↦ square_above c v p above
      | inr below ↦ subst P (opposite_square v) (square_above c (neg_ℤ v) p (opposite_above c v below))
    ]

pub past_on_x : (c : ℤ) (p q : Point) → pos 0 ≤ℤ c → IsPast c (q.x -ℤ p.x) → square c <ℤ squared_distance p q
past_on_x c p q least past = sum_above_by_first (square c) (square (q.x -ℤ p.x)) (square (q.y -ℤ p.y)) (square_past c (q.x -ℤ p.x) least past) (square_least (q.y -ℤ p.y))

pub past_on_y : (c : ℤ) (p q : Point) → pos 0 ≤ℤ c → IsPast c (q.y -ℤ p.y) → square c <ℤ squared_distance p q
past_on_y c p q least past = sum_above_by_second (square c) (square (q.x -ℤ p.x)) (square (q.y -ℤ p.y)) (square_past c (q.y -ℤ p.y) least past) (square_least (q.x -ℤ p.x))

-- ---- how a distance above c compares with it

-- ---- what is found

pub found_along : (found : Option Triple) (lo hi : ℕ) (p q : ℕ → Bool) → IfSome found (AreRunsWhere (λ t. within lo hi t && p t)) →
    ((t : ℕ) → lo ≤ t → t ≤ hi → p t ≡ q t) → IfSome found (AreRunsWhere (λ t. within lo hi t && q t))
found_along None lo hi p q runs same = tt
found_along (Some x) lo hi p q runs same = runs_within lo hi p q (triple_spans x) (triple_spans x) runs refl same

pub no_cost : (found : Option Triple) (old more : ℕ) → IfSome found (λ x. old ≤ old + more)
no_cost None old more = tt
no_cost (Some x) old more = omega arith
