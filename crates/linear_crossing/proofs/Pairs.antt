-- For this crate and for the crates above: pairs of runs: of equal sets, and of two stretches with a tick between
-- them.
use Rattle.std.proofs.Common.{◌≡◌, ℕ, ◌+◌, ◌<◌, ◌≤◌, Bool, true, not, ◌&&◌, Option, Some, None, is_some, ◌∙◌, arith, refl, option_to_list}
use Rattle.std.proofs.lemmas.Bool.Decides.{nat_tests}
use Rattle.tick_set.specs.Runs.{IsRuns}
use Rattle.tick_set.specs.declared.spans.Span.{Span}
use Rattle.linear_crossing.specs.declared.linear.Pair.{Pair}
use Rattle.linear_crossing.specs.Zones.{is_stretch, IsPairOf}

pub pair_by : (p q : ℕ → Bool) (x : Pair) → ((t : ℕ) → p t ≡ q t) → IsPairOf p x → IsPairOf q x
pair_by p q x e h = record { runs = record { normal = h.runs.normal; ticks = λ t. h.runs.ticks t ∙ e t }; in_order = h.in_order }

pub two_stretches : (lo n p q : ℕ) (x y : Option Span) → p < q → q ≤ n → is_some x ≡ true
    → IsRuns (is_stretch lo 0 p) (option_to_list x) → IsRuns (is_stretch lo q n) (option_to_list y)
    → IsPairOf (λ t. is_stretch lo 0 n t && not (is_stretch lo p q t)) (record { first = x; second = y })
two_stretches lo n p q None y l m s g h = absurd (cc)
two_stretches lo n p q (Some u) None l m s g h =
    record { runs = record { normal = g.normal; ticks = λ t. grind (arith, nat_tests, g.ticks t, h.ticks t) }; in_order = λ e. refl }
two_stretches lo n p q (Some u) (Some v) l m s g h =
    let last : u.hi < lo + p = grind (arith, nat_tests, g.ticks u.hi, u.ordered) in
    let first : lo + q ≤ v.lo = grind (arith, nat_tests, h.ticks v.lo, v.ordered) in
    record {
      runs = record { normal = (omega arith, (omega arith, tt)); ticks = λ t. grind (arith, nat_tests, g.ticks t, h.ticks t) };
      in_order = λ e. absurd (cc);
    }
