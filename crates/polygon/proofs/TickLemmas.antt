-- The ticks at which a moving point is on the left of an edge, or on it, by a margin, and of each of several.
use Rattle.std.proofs.Common.{◌≡◌, ℕ, suc, zero, ◌+◌, ◌-◌, ◌<◌, ◌≤◌, Bool, true, false, not, ◌&&◌, ◌||◌, ℤ, pos, negsuc, ◌+ℤ◌, ◌-ℤ◌, ◌*ℤ◌, ◌≤ℤ◌, Option, None, Some, List, [], ◌∷◌, refl, ap, sym, ◌∙◌, arith, option_to_list}
use Rattle.std.specs.Prelude.{int_lt, int_le}
use Rattle.std.proofs.lemmas.Bool.Decides.{nat_tests}
use Rattle.std.proofs.lemmas.Int.{ints}
use Rattle.exact.proofs.Ring.{part, number, sum, difference, product, same, at_most}
use Rattle.exact.proofs.Truths.{and_second_false, and_true, or_false}
use Rattle.exact.proofs.Integers.{times_one}
use Rattle.case_table.specs.declared.compare.Op.TheVariants.{Ge}
use Rattle.fixed_point.specs.declared.number.Point.{Point}
use Rattle.geometry.specs.Margin.{extent, is_left_by, is_within_by}
use Rattle.geometry.specs.Plane.{cross, is_right_of}
use Rattle.geometry.specs.Polygon.{counterclockwise_points, edges, edges_back_to, is_inside_edges}
use Rattle.tick_set.specs.Runs.{IsRuns}
use Rattle.tick_set.specs.Ticks.{within}
use Rattle.tick_set.specs.declared.spans.Span.{Span}
use Rattle.tick_set.specs.declared.spans.Window.{Window}
use Rattle.tick_set.proofs.Between.{within_parts}
use Rattle.linear_crossing.specs.declared.linear.Pair.{Pair}
use Rattle.linear_crossing.specs.declared.quad.Line.{Line}
use Rattle.linear_crossing.specs.Moving.{position_after}
use Rattle.polygon.specs.declared.margin.Margin.{Margin}
use Rattle.polygon.specs.Inside.{is_inside_at}
use Rattle.polygon.specs.Margin.{margin_after, is_inside_by_at}
use Rattle.polygon.proofs.EdgeLemmas.{end_of, all_step, all_past}
use Rattle.linear_crossing.specs.Zones.{line_at, solves, IsPairOf}

-- ---- the cross product of an edge and the way to a moving point is linear in the tick
linear : (u v x y dx dy px py k : ℤ)
    → u *ℤ ((y +ℤ dy *ℤ k) -ℤ py) -ℤ v *ℤ ((x +ℤ dx *ℤ k) -ℤ px) ≡ (u *ℤ dy -ℤ v *ℤ dx) *ℤ k +ℤ (u *ℤ (y -ℤ py) -ℤ v *ℤ (x -ℤ px))
linear u v x y dx dy px py k =
    let moved = λ (a d p : ℤ). difference (sum (part a) (product (part d) (part k))) (part p) in
    same (difference (product (part u) (moved y dy py)) (product (part v) (moved x dx px)))
    (sum (product (difference (product (part u) (part dy)) (product (part v) (part dx))) (part k))
    (difference (product (part u) (difference (part y) (part py))) (product (part v) (difference (part x) (part px)))))
    (omega arith)

-- by how much it grows at each tick
abbrev pub growth : Point → Point → Line → ℤ
growth p q l = (q.x -ℤ p.x) *ℤ l.dy -ℤ (q.y -ℤ p.y) *ℤ l.dx

cross_after : (p q : Point) (l : Line) (k : ℕ) → cross p q (position_after l k) ≡ growth p q l *ℤ pos k +ℤ cross p q l.at
cross_after p q l k = linear (q.x -ℤ p.x) (q.y -ℤ p.y) l.at.x l.at.y l.dx l.dy p.x p.y (pos k)

not_below : (v : ℤ) → int_le (pos 0) v ≡ not (int_lt v (pos 0))
not_below v = grind (arith, ints)

in_window : (lo hi t : ℕ) (f g : Bool) → (lo ≤ t → f ≡ g) → (within lo hi t && f) ≡ (within lo hi t && g)
in_window lo hi t f g h = grind (arith, nat_tests)

-- the margin of an edge of the extent e, which rises by r from f on, taken from the cross product
past_margin : (g c r f e k : ℤ) → (g -ℤ r *ℤ e) *ℤ k +ℤ (c -ℤ f *ℤ e) ≡ (g *ℤ k +ℤ c) -ℤ (f +ℤ r *ℤ k) *ℤ e
past_margin g c r f e k =
    same (sum (product (difference (part g) (product (part r) (part e))) (part k)) (difference (part c) (product (part f) (part e))))
    (difference (sum (product (part g) (part k)) (part c)) (product (sum (part f) (product (part r) (part k))) (part e))) (omega arith)

at_least : (v m : ℤ) → int_le (pos 0) (v -ℤ m) ≡ int_le m v
at_least v m = grind (arith, ints)

-- the moving point is on the left of the edge from p to q, or on it, by the margin, at a tick of the window
abbrev pub is_beside : Point → Point → Line → Margin → Window → ℕ → Bool
is_beside p q l m w t = within w.lo w.hi t && is_left_by (margin_after m (t - w.lo)) (p, q) (position_after l (t - w.lo))

pub beside_by_sign : (p q : Point) (l : Line) (m : Margin) (w : Window) (a b : ℤ) → a ≡ growth p q l -ℤ m.rise *ℤ pos (extent (p, q)) → b ≡ cross p q l.at -ℤ m.first *ℤ pos (extent (p, q))
    → (t : ℕ) → solves a b Ge w t ≡ is_beside p q l m w t
beside_by_sign p q l m w a b e f t =
    let width = margin_after m (t - w.lo) *ℤ pos (extent (p, q)) in
    let there = cross p q (position_after l (t - w.lo)) in
    in_window w.lo w.hi t (int_le (pos 0) (line_at a b w.lo t)) (int_le width there)
    (λ since.
    let ticks : pos t -ℤ pos w.lo ≡ pos (t - w.lo) = omega (arith, ints) in
    let value : line_at a b w.lo t ≡ there -ℤ width =
    (λ i. e i *ℤ ticks i +ℤ f i)
    ∙ past_margin (growth p q l) (cross p q l.at) m.rise m.first (pos (extent (p, q))) (pos (t - w.lo))
    ∙ ap (λ v. v -ℤ width) (sym (cross_after p q l (t - w.lo)))
    in
    ap (int_le (pos 0)) value ∙ at_least there width)

-- ---- where a linear function is not negative at two ticks, it is so between them: there is one span
not_above : (a : ℤ) (n : ℕ) → a ≤ℤ pos 0 → (a *ℤ pos n) ≤ℤ pos 0
not_above (pos zero) n h = at_most (product (number 0) (number n)) (number 0) (omega arith)
not_above (pos (suc m)) n h = absurd (omega (arith, ints))
not_above (negsuc m) n h = at_most (product (part (negsuc m)) (number n)) (number 0) (omega (arith, ints))

steps_apart : (a b x y : ℤ) → a *ℤ y +ℤ b ≡ (a *ℤ x +ℤ b) +ℤ a *ℤ (y -ℤ x)
steps_apart a b x y =
    same (sum (product (part a) (part y)) (part b))
    (sum (sum (product (part a) (part x)) (part b)) (product (part a) (difference (part y) (part x)))) (omega arith)

-- what fell below 0 in one step of a does not rise again by a way d of the same sign
stays_below : (u v x a d : ℤ) → v ≡ u +ℤ a → x ≡ v +ℤ d → (a ≤ℤ pos 0 → d ≤ℤ pos 0) → int_le (pos 0) u ≡ true → int_le (pos 0) v ≡ false → int_le (pos 0) x ≡ true → ⊥
stays_below u v x a d e f h at_first below at_last =
    let falls : a ≤ℤ pos 0 = grind (arith, ints, nat_tests) in
    let further = h falls in
    grind (arith, ints, nat_tests)

no_gap : (a b : ℤ) (lo i k : ℕ) → i + 1 < k → int_le (pos 0) (line_at a b lo i) ≡ true → int_le (pos 0) (line_at a b lo (i + 1)) ≡ false → int_le (pos 0) (line_at a b lo k) ≡ true → ⊥
no_gap a b lo i k l at_first below at_last =
    let next : (pos (i + 1) -ℤ pos lo) -ℤ (pos i -ℤ pos lo) ≡ pos 1 = omega (arith, ints) in
    let rest : (pos k -ℤ pos lo) -ℤ (pos (i + 1) -ℤ pos lo) ≡ pos (k - (i + 1)) = omega (arith, ints) in
    stays_below (line_at a b lo i) (line_at a b lo (i + 1)) (line_at a b lo k) a (a *ℤ pos (k - (i + 1)))
    (steps_apart a b (pos i -ℤ pos lo) (pos (i + 1) -ℤ pos lo) ∙ ap (λ d. line_at a b lo i +ℤ a *ℤ d) next ∙ ap (λ d. line_at a b lo i +ℤ d) (times_one a))
    (steps_apart a b (pos (i + 1) -ℤ pos lo) (pos k -ℤ pos lo) ∙ ap (λ d. line_at a b lo (i + 1) +ℤ a *ℤ d) rest)
    (not_above a (k - (i + 1))) at_first below at_last

-- what two spans say of their ticks, and of a tick between them, where a tick counts that has p and q
in_first : (lo hi t : ℕ) (others p q : Bool) → lo ≤ t → t ≤ hi → (within lo hi t || others) ≡ (p && q) → (p ≡ true) × (q ≡ true)
in_first lo hi t others p q l m e = (grind (arith, nat_tests), grind (arith, nat_tests))

in_second : (lo hi t : ℕ) (other p q : Bool) → lo ≤ t → t ≤ hi → (other || (within lo hi t || false)) ≡ (p && q) → (p ≡ true) × (q ≡ true)
in_second lo hi t other p q l m e = (grind (arith, nat_tests), grind (arith, nat_tests))

in_neither : (lo hi lo' hi' wlo whi t : ℕ) (q : Bool) → hi < t → t < lo' → wlo ≤ t → t ≤ whi → (within lo hi t || (within lo' hi' t || false)) ≡ (within wlo whi t && q) → q ≡ false
in_neither lo hi lo' hi' wlo whi t q l m n o e = grind (arith, nat_tests)

two_runs : (a b : ℤ) (w : Window) (s u : Span) → IsRuns (solves a b Ge w) (s ∷ u ∷ []) → ⊥
two_runs a b w s u h =
    let apart : s.hi + 2 ≤ u.lo = h.normal.1.0 in
    let first = in_first s.lo s.hi s.hi _ (within w.lo w.hi s.hi) (int_le (pos 0) (line_at a b w.lo s.hi)) s.ordered (omega arith) (h.ticks s.hi) in
    let last = in_second u.lo u.hi u.lo _ (within w.lo w.hi u.lo) (int_le (pos 0) (line_at a b w.lo u.lo)) (omega arith) u.ordered (h.ticks u.lo) in
    let from = within_parts w.lo w.hi s.hi first.0 in
    let upto = within_parts w.lo w.hi u.lo last.0 in
    let below = in_neither s.lo s.hi u.lo u.hi w.lo w.hi (s.hi + 1) (int_le (pos 0) (line_at a b w.lo (s.hi + 1))) (omega arith) (omega arith) (omega arith) (omega arith) (h.ticks (s.hi + 1)) in
    no_gap a b w.lo s.hi u.lo (omega arith) first.1 below last.1

one_run : (a b : ℤ) (w : Window) (x y : Option Span) → IsPairOf (solves a b Ge w) (record { first = x; second = y }) → IsRuns (solves a b Ge w) (option_to_list x)
one_run a b w None None h = h.runs
one_run a b w None (Some u) h = let none = h.in_order refl in absurd (cc)
one_run a b w (Some s) None h = h.runs
one_run a b w (Some s) (Some u) h = absurd (two_runs a b w s u h.runs)

runs_by : (f g : ℕ → Bool) (spans : List Span) → ((t : ℕ) → f t ≡ g t) → IsRuns f spans → IsRuns g spans
runs_by f g spans e h = record { normal = h.normal; ticks = λ t. h.ticks t ∙ e t }

-- the first run of the solutions has the ticks at which the moving point is beside the edge
pub beside_runs : (p q : Point) (l : Line) (m : Margin) (w : Window) (a b : ℤ) (x : Pair) → a ≡ growth p q l -ℤ m.rise *ℤ pos (extent (p, q)) → b ≡ cross p q l.at -ℤ m.first *ℤ pos (extent (p, q))
    → IsPairOf (solves a b Ge w) x → IsRuns (is_beside p q l m w) (option_to_list x.first)
beside_runs p q l m w a b x e f h = runs_by (solves a b Ge w) (is_beside p q l m w) (option_to_list x.first) (beside_by_sign p q l m w a b e f) (one_run a b w x.first x.second h)

-- ---- a margin of 0 is none
no_width : (n : ℕ) → pos 0 *ℤ pos n ≡ pos 0
no_width n = same (product (number 0) (number n)) (number 0) (omega arith)

left_by_0 : (p : Point) (s : Point × Point) → is_left_by (pos 0) s p ≡ not (is_right_of s p)
left_by_0 p s = ap (λ z. int_le z (cross s.0 s.1 p)) (no_width (extent s)) ∙ not_below (cross s.0 s.1 p)

pub within_by_0 : (sides : List (Point × Point)) (p : Point) → is_within_by (pos 0) sides p ≡ is_inside_edges sides p
within_by_0 [] p = refl
within_by_0 (s ∷ sides) p = λ i. left_by_0 p s i && within_by_0 sides p i

no_rise : (f r : ℤ) (k : ℕ) → f ≡ pos 0 → r ≡ pos 0 → f +ℤ r *ℤ pos k ≡ pos 0
no_rise f r k e g = (λ i. e i +ℤ g i *ℤ pos k) ∙ ap (λ z. pos 0 +ℤ z) (no_width k)

pub without_margin : (points : List Point) (l : Line) (m : Margin) (w : Window) (spans : List Span) → m.first ≡ pos 0 → m.rise ≡ pos 0 → IsRuns (is_inside_by_at points l m w) spans → IsRuns (is_inside_at points l w) spans
without_margin points l m w spans e f h =
    let sides = edges (counterclockwise_points points) in
    runs_by (is_inside_by_at points l m w) (is_inside_at points l w) spans
    (λ t. let p = position_after l (t - w.lo) in
    ap (λ b. within w.lo w.hi t && b) (ap (λ z. is_within_by z sides p) (no_rise m.first m.rise (t - w.lo) e f) ∙ within_by_0 sides p))
    h

-- ---- the edges one after another
abbrev pub is_within_at : Point → List Point → Line → Margin → Window → ℕ → Bool
is_within_at first points l m w t = is_within_by (margin_after m (t - w.lo)) (edges_back_to first points) (position_after l (t - w.lo))

-- where the span that is kept has the ticks that passed the edges before the rest
pub record Narrowed (first : Point) (points rest : List Point) (l : Line) (m : Margin) (w : Window) (kept : Span) : Type 0 where
  pub ticks : (t : ℕ) → (within kept.lo kept.hi t && is_within_at first rest l m w t) ≡ (within w.lo w.hi t && is_within_at first points l m w t)

pub narrowed_first : (first : Point) (points : List Point) (l : Line) (m : Margin) (w : Window) (kept : Span) → kept.lo ≡ w.lo → kept.hi ≡ w.hi → Narrowed first points points l m w kept
narrowed_first first points l m w kept e f = record { ticks = λ t. ap (λ b. b && is_within_at first points l m w t) (λ i. within (e i) (f i) t) }

both_tests : (k x r d q : Bool) → (k && (r && d)) ≡ (x && q) → ((k && (x && r)) && d) ≡ (x && q)
both_tests true true r d q h = h
both_tests true false r d q h = refl
both_tests false x r d q h = h

step_ticks : (first start : Point) (points rest later : List Point) (l : Line) (m : Margin) (w : Window) (kept : Span) (t : ℕ) → Narrowed first points rest l m w kept → rest ≡ start ∷ later
    → ((within kept.lo kept.hi t && is_beside start (end_of first later) l m w t) && is_within_at first later l m w t) ≡ (within w.lo w.hi t && is_within_at first points l m w t)
step_ticks first start points rest later l m w kept t h e =
    both_tests (within kept.lo kept.hi t) (within w.lo w.hi t) (is_left_by (margin_after m (t - w.lo)) (start, end_of first later) (position_after l (t - w.lo))) (is_within_at first later l m w t) (is_within_at first points l m w t)
    (ap (λ b. within kept.lo kept.hi t && b) (sym (all_step (λ (s : Point × Point). is_left_by (margin_after m (t - w.lo)) s (position_after l (t - w.lo))) first start rest later e)) ∙ h.ticks t)

pub narrowed_step : (first start : Point) (points rest later : List Point) (l : Line) (m : Margin) (w : Window) (kept ticks new : Span) → Narrowed first points rest l m w kept → rest ≡ start ∷ later
    → IsRuns (is_beside start (end_of first later) l m w) (ticks ∷ []) → IsRuns (λ t. within kept.lo kept.hi t && within ticks.lo ticks.hi t) (new ∷ []) → Narrowed first points later l m w new
narrowed_step first start points rest later l m w kept ticks new h e g met = record {
  ticks = λ t.
      ap (λ b. b && is_within_at first later l m w t) (sym (or_false (within new.lo new.hi t)) ∙ met.ticks t ∙ ap (λ b. within kept.lo kept.hi t && b) (sym (or_false (within ticks.lo ticks.hi t)) ∙ g.ticks t))
      ∙ step_ticks first start points rest later l m w kept t h e;
}

nothing : (k b d q : Bool) → ((k && b) && d) ≡ q → false ≡ (k && b) → false ≡ q
nothing k b d q h e = ap (λ v. v && d) e ∙ h

-- no tick passes the edge
pub narrowed_out : (first start : Point) (points rest later : List Point) (l : Line) (m : Margin) (w : Window) (kept : Span) → Narrowed first points rest l m w kept → rest ≡ start ∷ later
    → IsRuns (is_beside start (end_of first later) l m w) [] → IsRuns (λ t. within w.lo w.hi t && is_within_at first points l m w t) []
narrowed_out first start points rest later l m w kept h e g = record {
  normal = tt;
  ticks = λ t. nothing (within kept.lo kept.hi t) (is_beside start (end_of first later) l m w t) _ _ (step_ticks first start points rest later l m w kept t h e)
      (sym (and_second_false (within kept.lo kept.hi t) (is_beside start (end_of first later) l m w t) (sym (g.ticks t))));
}

-- no tick that is kept passes the edge
pub narrowed_apart : (first start : Point) (points rest later : List Point) (l : Line) (m : Margin) (w : Window) (kept ticks : Span) → Narrowed first points rest l m w kept → rest ≡ start ∷ later
    → IsRuns (is_beside start (end_of first later) l m w) (ticks ∷ []) → IsRuns (λ t. within kept.lo kept.hi t && within ticks.lo ticks.hi t) [] → IsRuns (λ t. within w.lo w.hi t && is_within_at first points l m w t) []
narrowed_apart first start points rest later l m w kept ticks h e g met = record {
  normal = tt;
  ticks = λ t. nothing (within kept.lo kept.hi t) (is_beside start (end_of first later) l m w t) _ _ (step_ticks first start points rest later l m w kept t h e)
      (met.ticks t ∙ ap (λ b. within kept.lo kept.hi t && b) (sym (or_false (within ticks.lo ticks.hi t)) ∙ g.ticks t));
}

pub narrowed_last : (first : Point) (points rest : List Point) (l : Line) (m : Margin) (w : Window) (kept : Span) → Narrowed first points rest l m w kept → rest ≡ [] → IsRuns (λ t. within w.lo w.hi t && is_within_at first points l m w t) (kept ∷ [])
narrowed_last first points rest l m w kept h e = record {
  normal = (omega arith, tt);
  ticks = λ t. or_false (within kept.lo kept.hi t) ∙ sym (and_true (within kept.lo kept.hi t)) ∙ ap (λ b. within kept.lo kept.hi t && b) (sym (all_past (λ (s : Point × Point). is_left_by (margin_after m (t - w.lo)) s (position_after l (t - w.lo))) first rest e)) ∙ h.ticks t;
}
