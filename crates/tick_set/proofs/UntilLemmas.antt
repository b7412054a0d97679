-- For this crate and for the crates above: UNTIL as "there is a tick u ..", which is what proofs use of it.
use Rattle.std.proofs.Common.{◌≡◌, ℕ, ◌+◌, Bool, true, false, ◌&&◌, IsTrue, ◌↔◌, arith}
use Rattle.std.specs.List.{list_all}
use Rattle.std.proofs.lemmas.Bool.{and_parts, and_from, false_from_ne_true}
use Rattle.tick_set.specs.Ticks.{between}
use Rattle.tick_set.specs.Operators.{until_in, Leads}
use Rattle.tick_set.proofs.Between.{any_between_found, any_between_at, all_between_at, all_between_from}

pub until_in_found : (g h : ℕ → Bool) (lo hi t : ℕ) → until_in g h lo hi t ≡ true → Leads g h lo hi t
unfolding until_in
until_in_found g h lo hi t e =
    let s = any_between_found (λ u. h u && list_all g (between t u)) lo (hi + 1) e in
    let parts = and_parts (h s.tick) (list_all g (between t s.tick)) s.passes in
    record { goal = s.tick; from = s.from; upto = omega (arith, s.below); holds = parts.0; guard = all_between_at g t s.tick parts.1 }

pub until_in_from : (g h : ℕ → Bool) (lo hi t : ℕ) → Leads g h lo hi t → until_in g h lo hi t ≡ true
unfolding until_in
until_in_from g h lo hi t s =
    any_between_at (λ u. h u && list_all g (between t u)) lo (hi + 1) s.goal s.from (omega (arith, s.upto))
    (and_from (h s.goal) (list_all g (between t s.goal)) s.holds (all_between_from g t s.goal s.guard))

pub until_in_iff : (g h : ℕ → Bool) (lo hi t : ℕ) → IsTrue (until_in g h lo hi t) ↔ Leads g h lo hi t
until_in_iff g h lo hi t = (until_in_found g h lo hi t, until_in_from g h lo hi t)

pub until_in_none : (g h : ℕ → Bool) (lo hi t : ℕ) → (Leads g h lo hi t → ⊥) → until_in g h lo hi t ≡ false
until_in_none g h lo hi t none = false_from_ne_true (until_in g h lo hi t) (λ e. none (until_in_found g h lo hi t e))
