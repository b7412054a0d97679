-- The ticks at which two numbers that move along lines compare.
use Rattle.std.proofs.Common.{◌≡◌, ℕ, ℤ, pos, ◌-ℤ◌, ◌&&◌, List, ap, sym, ◌∙◌, arith}
use Rattle.std.proofs.lemmas.Bool.Decides.{nat_tests}
use Rattle.std.proofs.lemmas.Int.{ints}
use Rattle.case_table.specs.Comparison.{compares}
use Rattle.case_table.specs.declared.compare.Op.{Op}
use Rattle.case_table.specs.declared.compare.Op.TheVariants.{Lt, Le, Eq, Ne, Ge, Gt}
use Rattle.tick_set.specs.Ticks.{within}
use Rattle.tick_set.specs.Runs.{IsRuns}
use Rattle.tick_set.specs.declared.spans.Span.{Span}
use Rattle.tick_set.specs.declared.spans.Window.{Window}
use Rattle.linear_crossing.specs.declared.linear.Pair.{Pair}
use Rattle.linear_crossing.specs.Zones.{line_at, solves, spans_of, IsPairOf}
use Rattle.atoms.proofs.RunLemmas.{runs_within}

-- a number compares so with another as their difference does with 0
compares_difference : (op : Op) (x n : ℤ) → compares op (x -ℤ n) (pos 0) ≡ compares op x n
compares_difference Lt x n = grind (arith, ints, nat_tests)
compares_difference Le x n = grind (arith, ints, nat_tests)
compares_difference Eq x n = grind (arith, ints, nat_tests)
compares_difference Ne x n = grind (arith, ints, nat_tests)
compares_difference Ge x n = grind (arith, ints, nat_tests)
compares_difference Gt x n = grind (arith, ints, nat_tests)

solved : (a b : ℤ) (op : Op) (w : Window) (lo hi t : ℕ) → w.lo ≡ lo → w.hi ≡ hi → solves a b op w t ≡ (within lo hi t && compares op (line_at a b lo t) (pos 0))
solved a b op w lo hi t first last = λ i. within (first i) (last i) t && compares op (line_at a b (first i) t) (pos 0)

pub crossed : (op : Op) (left right : ℕ → ℤ) (a b rise start : ℤ) (lo hi : ℕ) (w : Window) (x : Pair) (spans : List Span) → w.lo ≡ lo → w.hi ≡ hi → a ≡ rise → b ≡ start →
    ((t : ℕ) → line_at rise start lo t ≡ left t -ℤ right t) → spans ≡ spans_of x → IsPairOf (solves a b op w) x →
    IsRuns (λ t. within lo hi t && compares op (left t) (right t)) spans
crossed op left right a b rise start lo hi w x spans first last rises starts above is found =
    runs_within lo hi (λ t. compares op (line_at a b lo t) (pos 0)) (λ t. compares op (left t) (right t)) (spans_of x) spans
    (record { normal = found.runs.normal; ticks = λ t. found.runs.ticks t ∙ solved a b op w lo hi t first last })
    (sym is)
    (λ t from up_to. ap (λ y. compares op y (pos 0)) ((λ i. line_at (rises i) (starts i) lo t) ∙ above t) ∙ compares_difference op (left t) (right t))
