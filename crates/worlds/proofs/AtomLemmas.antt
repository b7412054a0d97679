-- Atoms: what surely holds, holds in a world, and what holds in one, possibly holds.
use Rattle.std.proofs.Common.{◌≡◌, ℕ, ◌≤◌, Bool, true, false, not, ◌-ℤ◌, unsigned_abs, Option, None, Some, List, refl, ap, sym, ◌∙◌}
use Rattle.std.specs.Prelude.{◌==◌, slice_get, if◌then◌else◌}
use Rattle.std.specs.Option.{option_map, option_map_or}
use Rattle.std.proofs.lemmas.Bool.{false≢true, eqb-true}
use Rattle.fixed_point.specs.declared.number.Point.{Point}
use Rattle.geometry.specs.Distance.{distance_compares}
use Rattle.geometry.specs.Plane.{squared_distance}
use Rattle.geometry.specs.Polygon.{is_inside}
use Rattle.geometry.specs.Region.{Region}
use Rattle.formula.specs.declared.tree.RAtom.{RAtom}
use Rattle.formula.specs.declared.tree.RAtom.TheVariants as atoms
use Rattle.formula.specs.declared.value.Env.{Env}
use Rattle.history.specs.History.{History, cells_at}
use Rattle.meaning.specs.Atom.{is_in_region, position_in}
use Rattle.meaning.specs.Trace.{trace_of}
use Rattle.worlds.specs.Apart.{distance_compares_by, farthest_square, nearest_square, possibly_compares, surely_compares}
use Rattle.worlds.specs.Blurred.{error_between, is_in_region_by, possibly_holds, surely_holds}
use Rattle.worlds.specs.Inside.{is_possibly_inside, is_surely_inside}
use Rattle.worlds.specs.Moved.{Move, atom_moved, is_world, moved_place}
use Rattle.worlds.proofs.ApartLemmas.{LiesIn, possibly_apart, squares_lie, surely_apart}
use Rattle.worlds.proofs.MovedLemmas.{near_moved}

-- places near one that is surely inside are inside
abbrev pub KeepsInside : Type 0
KeepsInside =
    (m : ℕ) (points : List Point) (p q : Point) → unsigned_abs (q.x -ℤ p.x) ≤ m → unsigned_abs (q.y -ℤ p.y) ≤ m
    → is_surely_inside m points p ≡ true → is_inside points q ≡ true

-- places near one that is inside are possibly inside
abbrev pub ReachesInside : Type 0
ReachesInside =
    (m : ℕ) (points : List Point) (p q : Point) → unsigned_abs (q.x -ℤ p.x) ≤ m → unsigned_abs (q.y -ℤ p.y) ≤ m
    → is_inside points q ≡ true → is_possibly_inside m points p ≡ true

turned : (a b : Bool) → (a ≡ true → b ≡ true) → not b ≡ true → not a ≡ true
turned false b more h = refl
turned true true more h = h
turned true false more h = absurd (false≢true (more refl))

-- ---- regions

region_more : (test test' : List Point → Point → Bool) (region : Option Region) (p q : Point)
    → ((points : List Point) → test points p ≡ true → test' points q ≡ true)
    → option_map_or (λ (r : Region). test r.points p) region false ≡ true → option_map_or (λ (r : Region). test' r.points q) region false ≡ true
region_more test test' None p q more h = h
region_more test test' (Some r) p q more h = more r.points h

-- ---- positions

place_more : (o : Option Point) (f : Point → Point) (test test' : Point → Bool) → ((p : Point) → test p ≡ true → test' (f p) ≡ true)
    → option_map_or test o false ≡ true → option_map_or test' (option_map f o) false ≡ true
place_more None f test test' more h = h
place_more (Some p) f test test' more h = more p h

place_less : (o : Option Point) (f : Point → Point) (test test' : Point → Bool) → ((p : Point) → test' (f p) ≡ true → test p ≡ true)
    → option_map_or test' (option_map f o) false ≡ true → option_map_or test o false ≡ true
place_less None f test test' less h = h
place_less (Some p) f test test' less h = less p h

places_more : (o u : Option Point) (f g : Point → Point) (test test' : Point → Point → Bool)
    → ((p q : Point) → o ≡ Some p → u ≡ Some q → test p q ≡ true → test' (f p) (g q) ≡ true)
    → option_map_or (λ p. option_map_or (test p) u false) o false ≡ true
    → option_map_or (λ p. option_map_or (test' p) (option_map g u) false) (option_map f o) false ≡ true
places_more None u f g test test' more h = absurd (false≢true h)
places_more (Some p) None f g test test' more h = absurd (false≢true h)
places_more (Some p) (Some q) f g test test' more h = more p q refl refl h

places_less : (o u : Option Point) (f g : Point → Point) (test test' : Point → Point → Bool)
    → ((p q : Point) → o ≡ Some p → u ≡ Some q → test' (f p) (g q) ≡ true → test p q ≡ true)
    → option_map_or (λ p. option_map_or (test' p) (option_map g u) false) (option_map f o) false ≡ true
    → option_map_or (λ p. option_map_or (test p) u false) o false ≡ true
places_less None u f g test test' less h = absurd (false≢true h)
places_less (Some p) None f g test test' less h = absurd (false≢true h)
places_less (Some p) (Some q) f g test test' less h = less p q refl refl h

-- ---- distances

one_object : (place : ℕ → Option Point) (moves : List Move) (t i j : ℕ) (p q : Point) → place i ≡ Some p → place j ≡ Some q
    → (i == j) ≡ true → (p ≡ q) × (moved_place moves i t p ≡ moved_place moves j t q)
one_object place moves t i j p q at_i at_j same =
    let e : i ≡ j = eqb-true i j same in
    let there : Some p ≡ Some q = sym at_i ∙ ap place e ∙ at_j in
    let f : p ≡ q = cc in
    (f, (λ k. moved_place moves (e k) t (f k)))

lies : (error : ℕ) (moves : List Move) → is_world error moves ≡ true → (place : ℕ → Option Point) (t i j : ℕ) (p q : Point)
    → place i ≡ Some p → place j ≡ Some q
    → LiesIn (nearest_square (if i == j then 0 else error) p q) (farthest_square (if i == j then 0 else error) p q)
    (squared_distance (moved_place moves i t p) (moved_place moves j t q))
lies error moves world place t i j p q at_i at_j =
    squares_lie (i == j) error p q (moved_place moves i t p) (moved_place moves j t q)
    (one_object place moves t i j p q at_i at_j)
    (near_moved error moves i t p world) (near_moved error moves j t q world)

abbrev place_at : History → ℕ → ℕ → Option Point
place_at h t id = position_in t (cells_at h id t)

-- ---- atoms

pub surely_in_world : KeepsInside → ReachesInside → (error : ℕ) (moves : List Move) → is_world error moves ≡ true
    → (regions : List Region) (h : History) (b : ℕ → ℕ) (a : RAtom) (x : Env) (t : ℕ)
    → surely_holds error regions (trace_of h b) b a x t ≡ true → atom_moved moves regions (trace_of h b) b a x t ≡ true
surely_in_world keeps reaches error moves world regions h b (atoms.Compare q op r) x t holds = holds
surely_in_world keeps reaches error moves world regions h b (atoms.Inside v n) x t holds =
    place_more (place_at h t (b v)) (moved_place moves (b v) t) (is_in_region_by (is_surely_inside error) regions n) (is_in_region regions n)
    (λ p. region_more (is_surely_inside error) is_inside (slice_get regions n) p (moved_place moves (b v) t p)
    (λ points. let near = near_moved error moves (b v) t p world in keeps error points p (moved_place moves (b v) t p) near.along_x near.along_y))
    holds
surely_in_world keeps reaches error moves world regions h b (atoms.Outside v n) x t holds =
    place_more (place_at h t (b v)) (moved_place moves (b v) t) (λ p. not (is_in_region_by (is_possibly_inside error) regions n p)) (λ p. not (is_in_region regions n p))
    (λ p. turned (is_in_region regions n (moved_place moves (b v) t p)) (is_in_region_by (is_possibly_inside error) regions n p)
    (region_more is_inside (is_possibly_inside error) (slice_get regions n) (moved_place moves (b v) t p) p
    (λ points. let near = near_moved error moves (b v) t p world in reaches error points p (moved_place moves (b v) t p) near.along_x near.along_y)))
    holds
surely_in_world keeps reaches error moves world regions h b (atoms.Dist v u op c) x t holds =
    let by = error_between error b v u in
    places_more (place_at h t (b v)) (place_at h t (b u)) (moved_place moves (b v) t) (moved_place moves (b u) t)
    (λ p q. distance_compares_by surely_compares op c (nearest_square by p q) (farthest_square by p q)) (λ p q. distance_compares op c (squared_distance p q))
    (λ p q at_v at_u. surely_apart op c (nearest_square by p q) (farthest_square by p q) (squared_distance (moved_place moves (b v) t p) (moved_place moves (b u) t q))
    (lies error moves world (place_at h t) t (b v) (b u) p q at_v at_u))
    holds
surely_in_world keeps reaches error moves world regions h b (atoms.Sphere r vs) x t holds = holds

pub possibly_if_in_world : KeepsInside → ReachesInside → (error : ℕ) (moves : List Move) → is_world error moves ≡ true
    → (regions : List Region) (h : History) (b : ℕ → ℕ) (a : RAtom) (x : Env) (t : ℕ)
    → atom_moved moves regions (trace_of h b) b a x t ≡ true → possibly_holds error regions (trace_of h b) b a x t ≡ true
possibly_if_in_world keeps reaches error moves world regions h b (atoms.Compare q op r) x t holds = holds
possibly_if_in_world keeps reaches error moves world regions h b (atoms.Inside v n) x t holds =
    place_less (place_at h t (b v)) (moved_place moves (b v) t) (is_in_region_by (is_possibly_inside error) regions n) (is_in_region regions n)
    (λ p. region_more is_inside (is_possibly_inside error) (slice_get regions n) (moved_place moves (b v) t p) p
    (λ points. let near = near_moved error moves (b v) t p world in reaches error points p (moved_place moves (b v) t p) near.along_x near.along_y))
    holds
possibly_if_in_world keeps reaches error moves world regions h b (atoms.Outside v n) x t holds =
    place_less (place_at h t (b v)) (moved_place moves (b v) t) (λ p. not (is_in_region_by (is_surely_inside error) regions n p)) (λ p. not (is_in_region regions n p))
    (λ p. turned (is_in_region_by (is_surely_inside error) regions n p) (is_in_region regions n (moved_place moves (b v) t p))
    (region_more (is_surely_inside error) is_inside (slice_get regions n) p (moved_place moves (b v) t p)
    (λ points. let near = near_moved error moves (b v) t p world in keeps error points p (moved_place moves (b v) t p) near.along_x near.along_y)))
    holds
possibly_if_in_world keeps reaches error moves world regions h b (atoms.Dist v u op c) x t holds =
    let by = error_between error b v u in
    places_less (place_at h t (b v)) (place_at h t (b u)) (moved_place moves (b v) t) (moved_place moves (b u) t)
    (λ p q. distance_compares_by possibly_compares op c (nearest_square by p q) (farthest_square by p q)) (λ p q. distance_compares op c (squared_distance p q))
    (λ p q at_v at_u. possibly_apart op c (nearest_square by p q) (farthest_square by p q) (squared_distance (moved_place moves (b v) t p) (moved_place moves (b u) t q))
    (lies error moves world (place_at h t) t (b v) (b u) p q at_v at_u))
    holds
possibly_if_in_world keeps reaches error moves world regions h b (atoms.Sphere r vs) x t holds = holds
