-- Loops that judge one tick after the other.
use Rattle.std.proofs.Common.{◌≡◌, ℕ, ◌<◌, ◌≤◌, Bool, true, false, sym, inl, inr, arith}
use Rattle.std.proofs.lemmas.Bool.{both_ways, cases_lt, cases_order}
use Rattle.tick_set.specs.Ticks.{some_in}
use Rattle.tick_set.specs.Operators.{until_in, Leads}
use Rattle.tick_set.proofs.Between.{some_in_none}
use Rattle.tick_set.proofs.UntilLemmas.{until_in_from, until_in_none}

-- up to u, without u, the guard has each tick, and no tick is a goal
pub record NoGoalSoFar (g h : ℕ → Bool) (t from u : ℕ) : Type 0 where
  pub guarded : (v : ℕ) → t ≤ v → v < u → g v ≡ true
  pub no_goal : (v : ℕ) → from ≤ v → v < u → h v ≡ false

module _ (g h : ℕ → Bool) (t from upto u : ℕ) (so_far : NoGoalSoFar g h t from u) where
  pub leads_here : from ≤ u → u ≤ upto → h u ≡ true → true ≡ until_in g h from upto t
  leads_here l k e = sym (until_in_from g h from upto t (record { goal = u; from = l; upto = k; holds = e; guard = so_far.guarded }))

  no_goal_past : t ≤ u → g u ≡ false → (from ≤ u → h u ≡ false) → Leads g h from upto t → ⊥
  no_goal_past l e miss s =
      elim (cases_order s.goal u) [
        | inl same ↦ both_ways (h s.goal) (rw same (miss (omega (arith, s.from)))) s.holds
        | inr (inl before) ↦ both_ways (h s.goal) (so_far.no_goal s.goal s.from before) s.holds
        | inr (inr after) ↦ both_ways (g u) e (s.guard u l after)
      ]

  pub leads_no_more : t ≤ u → g u ≡ false → (from ≤ u → h u ≡ false) → false ≡ until_in g h from upto t
  leads_no_more l e miss = sym (until_in_none g h from upto t (no_goal_past l e miss))

  pub leads_nowhere : upto < u → false ≡ until_in g h from upto t
  leads_nowhere l = sym (until_in_none g h from upto t (λ s. both_ways (h s.goal) (so_far.no_goal s.goal s.from (omega (arith, s.upto))) s.holds))

  pub leads_not_at_end : upto ≤ u → (from ≤ u → h u ≡ false) → false ≡ until_in g h from upto t
  leads_not_at_end l miss = sym (until_in_none g h from upto t (λ s.
      elim (cases_order s.goal u) [
        | inl same ↦ both_ways (h s.goal) (rw same (miss (omega (arith, s.from)))) s.holds
        | inr (inl before) ↦ both_ways (h s.goal) (so_far.no_goal s.goal s.from before) s.holds
        | inr (inr after) ↦ omega (arith, s.upto)
      ]))

-- what holds of each tick before u, and of u, holds up to u
pub none_upto : (p : ℕ → Bool) (answer : Bool) (from u : ℕ) {upto : ℕ} → ((v : ℕ) → from ≤ v → v < u → p v ≡ answer) → p u ≡ answer → upto ≤ u → (v : ℕ) → from ≤ v → v ≤ upto → p v ≡ answer
none_upto p answer from u before here le v l k =
    elim (cases_lt v u) [
      | inl early ↦ before v l early
      | inr late ↦ let same : v ≡ u = omega arith in rw same here
    ]

-- past the last tick there is neither
pub leads_too_late : (g h : ℕ → Bool) (from last t : ℕ) → last < from → false ≡ until_in g h from last t
leads_too_late g h from last t l = sym (until_in_none g h from last t (λ s. omega (arith, s.from, s.upto)))

pub some_too_late : (p : ℕ → Bool) (from last : ℕ) → last < from → false ≡ some_in p from last
some_too_late p from last l = sym (some_in_none p from last (λ u k m. absurd (omega arith)))
