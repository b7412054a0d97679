-- Comparisons by bounds that are at most a number, or not.
use Rattle.std.proofs.Common.{◌≡◌, ℕ, ◌-◌, ◌<◌, Bool, true, false, ◌&&◌, ℤ, pos, ◌*ℤ◌, ◌≤ℤ◌, Option, Some, option_to_list, List, refl, sym, ap, ◌∙◌, arith}
use Rattle.std.specs.Prelude.{int_le, not, if◌then◌else◌}
use Rattle.std.proofs.lemmas.Bool.Decides.{nat_tests}
use Rattle.std.proofs.lemmas.Int.{ints}
use Rattle.case_table.specs.Comparison.{sign_holds}
use Rattle.case_table.specs.declared.compare.Op.{Op}
use Rattle.case_table.specs.declared.compare.Op.TheVariants.{Lt, Le, Eq, Ne, Ge, Gt}
use Rattle.convex.specs.Stretch.{is_low}
use Rattle.fixed_point.specs.declared.number.Point.{Point}
use Rattle.tick_set.specs.Runs.{IsRuns, spans_have}
use Rattle.tick_set.specs.Ticks.{within}
use Rattle.tick_set.specs.declared.spans.Span.{Span}
use Rattle.tick_set.specs.declared.spans.Window.{Window}
use Rattle.worlds.specs.Apart.{distance_compares_by, farthest_square, nearest_square, possibly_compares, surely_compares}
use Rattle.worlds.proofs.CallerLemmas.{nearest_at_most}
use Rattle.blur.specs.Added.{EndBefore}
use Rattle.blur.specs.Asked.{comparison, compares_by, square_if_small}
use Rattle.blur.proofs.AddedLemmas.{before_inside, is_past}
use Rattle.exact.proofs.Truths.{and_true}

-- ---- by the least and the greatest number

surely_by : (op : Op) (low high x : ℤ) → low ≤ℤ high → compares_by op high low x ≡ surely_compares op low high x
surely_by Lt low high x order = grind (arith, ints, nat_tests)
surely_by Le low high x order = refl
surely_by Eq low high x order = grind (arith, ints, nat_tests)
surely_by Ne low high x order = grind (arith, ints, nat_tests)
surely_by Ge low high x order = grind (arith, ints, nat_tests)
surely_by Gt low high x order = grind (arith, ints, nat_tests)

possibly_by : (op : Op) (low high x : ℤ) → low ≤ℤ high → compares_by op low high x ≡ possibly_compares op low high x
possibly_by Lt low high x order = grind (arith, ints, nat_tests)
possibly_by Le low high x order = refl
possibly_by Eq low high x order = grind (arith, ints, nat_tests)
possibly_by Ne low high x order = grind (arith, ints, nat_tests)
possibly_by Ge low high x order = grind (arith, ints, nat_tests)
possibly_by Gt low high x order = grind (arith, ints, nat_tests)

-- of the squares of a distance
pub by_squares : (sure : Bool) (op : Op) (error : ℕ) (p q : Point) (x : ℤ)
    → compares_by op (square_if_small sure error p q) (square_if_small (not sure) error p q) x
    ≡ comparison sure op (nearest_square error p q) (farthest_square error p q) x
by_squares true op error p q x = surely_by op (nearest_square error p q) (farthest_square error p q) x (nearest_at_most error p q)
by_squares false op error p q x = possibly_by op (nearest_square error p q) (farthest_square error p q) x (nearest_at_most error p q)

pub compared_is : (sure turned : Bool) (op : Op) (error turned_error : ℕ) (c : ℤ) (p q : Point) (small large x : ℤ)
    → small ≡ square_if_small sure error p q → large ≡ square_if_small turned turned_error p q → turned ≡ not sure → turned_error ≡ error
    → x ≡ c *ℤ c → int_le (pos 0) c ≡ true
    → compares_by op small large x ≡ distance_compares_by (comparison sure) op c (nearest_square error p q) (farthest_square error p q)
compared_is sure turned op error turned_error c p q small large x is_small is_large other same squared positive =
    (λ i. compares_by op (is_small i) (is_large i) (squared i))
    ∙ (λ i. compares_by op (square_if_small sure error p q) (square_if_small (other i) (same i) p q) (c *ℤ c))
    ∙ by_squares sure op error p q (c *ℤ c)
    ∙ sym (ap (λ (b : Bool). if b then comparison sure op (nearest_square error p q) (farthest_square error p q) (c *ℤ c) else sign_holds op (pos 1)) positive)

-- ---- in a window

inside_both : (w x y : Bool) → ((w && x) && not (w && y)) ≡ (w && (x && not y))
inside_both true x y = refl
inside_both false x y = refl

outside_both : (w x y : Bool) → (w && not ((w && x) && not (w && y))) ≡ (w && not (x && not y))
outside_both true x y = refl
outside_both false x y = refl

pub outside_one : (w x : Bool) → (w && not ((w && x) && true)) ≡ (w && not x)
outside_one true x = ap not (and_true x)
outside_one false x = refl

-- the run of the ticks at which a function is at most a limit
abbrev pub IsLowRun : (ℕ → ℤ) → ℤ → Window → Option Span → Type 0
IsLowRun f limit w run = IsRuns (is_low f limit w) (option_to_list run)

-- what the run has comes after what the runs have that come before the window
pub low_is_past : (f : ℕ → ℤ) (limit : ℤ) (w : Window) (old : List Span) (run : Option Span) → EndBefore w.lo old → IsLowRun f limit w run
    → (x : Span) → run ≡ Some x → (t : ℕ) → spans_have old t ≡ true → t < x.lo
low_is_past f limit w old run before low = is_past (is_low f limit w) old run low.ticks (before_inside w.lo w.hi old (λ t. int_le (f (t - w.lo)) limit) before)

pub low_without : (f g : ℕ → ℤ) (a b limit other : ℤ) (w : Window) (outer inner : Option Span) → limit ≡ a → other ≡ b → IsLowRun f limit w outer → IsLowRun g other w inner → (t : ℕ)
    → (spans_have (option_to_list outer) t && not (spans_have (option_to_list inner) t)) ≡ (within w.lo w.hi t && (int_le (f (t - w.lo)) a && not (int_le (g (t - w.lo)) b)))
low_without f g a b limit other w outer inner e h first second t =
    (λ i. first.ticks t i && not (second.ticks t i))
    ∙ inside_both (within w.lo w.hi t) (int_le (f (t - w.lo)) limit) (int_le (g (t - w.lo)) other)
    ∙ (λ i. within w.lo w.hi t && (int_le (f (t - w.lo)) (e i) && not (int_le (g (t - w.lo)) (h i))))

pub all_others : (f g : ℕ → ℤ) (a b limit other : ℤ) (w : Window) (span : Span) (outer inner : Option Span) → span.lo ≡ w.lo → span.hi ≡ w.hi → limit ≡ a → other ≡ b
    → IsLowRun f limit w outer → IsLowRun g other w inner → (t : ℕ)
    → (within span.lo span.hi t && not (spans_have (option_to_list outer) t && not (spans_have (option_to_list inner) t)))
    ≡ (within w.lo w.hi t && not (int_le (f (t - w.lo)) a && not (int_le (g (t - w.lo)) b)))
all_others f g a b limit other w span outer inner begins ends e h first second t =
    (λ i. within (begins i) (ends i) t && not (first.ticks t i && not (second.ticks t i)))
    ∙ outside_both (within w.lo w.hi t) (int_le (f (t - w.lo)) limit) (int_le (g (t - w.lo)) other)
    ∙ (λ i. within w.lo w.hi t && not (int_le (f (t - w.lo)) (e i) && not (int_le (g (t - w.lo)) (h i))))
