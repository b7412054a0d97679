use Rattle.std.proofs.Common.{◌≡◌, ◌+◌, ◌-◌, ◌&&◌, ℤ, int_le, [], ◌∷◌, refl, subst, arith}
use Rattle.std.proofs.lemmas.Int.{ints}
use mir.Syntax.{w128}
use mir.Val.{to_z, of_z}
use Rattle.linear_crossing.specs.Relative.{squared_distance_at}
use Rattle.tick_set.specs.Runs.{IsRuns}
use Rattle.tick_set.specs.Ticks.{within}
use Rattle.tick_set.specs.declared.spans.Span.{Span}
use Rattle.distance_crossing.proofs.Bisection.{near_span, ends_cost}
use Rattle.distance_crossing.proofs.near.within.Goals as goal

pub returns-clause-runs : goal.returns-clause-runs
returns-clause-runs g c =
    let f = squared_distance_at c.args.q.now in
    let w = c.args.w in
    let found : (s : Span) → s.lo ≡ w.lo + c.first_near-first.result → s.hi ≡ w.lo + c.last_near-end.result
    → IsRuns (λ t. within w.lo w.hi t && int_le (f (t - w.lo)) (to_z w128 (of_z w128 c.args.limit))) (s ∷ [])
    = λ s. near_span f (to_z w128 (of_z w128 c.args.limit)) w s c.valley-nearest.result c.first_near-first.result c.last_near-end.result
    (omega arith) (omega arith) c.first_near-first.ensures.first c.last_near-end.ensures.last (omega arith) in
    let P : ℤ → Type 0 = λ z. (s : Span) → s.lo ≡ w.lo + c.first_near-first.result → s.hi ≡ w.lo + c.last_near-end.result
    → IsRuns (λ t. within w.lo w.hi t && int_le (f (t - w.lo)) z) (s ∷ []) in
    subst P (omega (arith, ints)) found _ refl refl

pub returns-clause-cost : goal.returns-clause-cost
returns-clause-cost g c = record {
  least = omega arith;
  most = (let nearest = c.valley-nearest.result in
      let counted = ends_cost 26 nearest (c.args.w.hi - c.args.w.lo - nearest) _ _ _ (omega arith) (omega arith) (omega arith)
      c.first_near-first.ensures.cost c.last_near-end.ensures.cost in
      omega (arith, counted));
}

pub returns-clause-short_cost : goal.returns-clause-short_cost
returns-clause-short_cost g c =
    λ short.
    let nearest = c.valley-nearest.result in
    let counted = ends_cost 19 nearest (c.args.w.hi - c.args.w.lo - nearest) _ _ _ (omega arith) (omega arith) (omega arith)
    c.first_near-first.ensures.cost c.last_near-end.ensures.cost in
    omega (arith, counted)
