use Rattle.std.proofs.Common.{◌≡◌, ℕ, ◌+◌, ◌≤◌, true, ◌&&◌, Option, ◌∷◌, [], option_to_list, sym, ap, subst, ◌∙◌}
use Rattle.std.specs.Prelude.{not}
use Rattle.tick_set.specs.Runs.{spans_have}
use Rattle.tick_set.specs.Ticks.{within}
use Rattle.tick_set.specs.declared.spans.Span.{Span}
use Rattle.nearest.specs.Depth.{one_if}
use Rattle.nearest.proofs.OrderLemmas.{depth-append, depth_run, ends_inside, two_sides}
use Rattle.nearest.proofs.nearer.all_but.Goals as goal

pub returns-in-Some : goal.returns-in-Some
returns-in-Some c = λ t.
    let w = c.args.w in
    let inner = c.in-Some.inner in
    let inside : (u : ℕ) → spans_have (inner ∷ []) u ≡ true → within w.lo w.hi u ≡ true =
    subst (λ (run : Option Span). (u : ℕ) → spans_have (option_to_list run) u ≡ true → within w.lo w.hi u ≡ true) c.in-Some.is c.requires in
    let ends : (w.lo ≤ inner.lo) × (inner.hi ≤ w.hi) = ends_inside w.lo w.hi inner inside in
    depth-append (option_to_list c.stretch.result) (option_to_list c.stretch-in-Some.result) t
    ∙ (λ i. depth_run c.stretch.result t i + depth_run c.stretch-in-Some.result t i)
    ∙ (λ i. one_if (c.stretch.ensures.ticks.ticks t i) + one_if (c.stretch-in-Some.ensures.ticks.ticks t i))
    ∙ two_sides w.lo w.hi inner.lo inner.hi t ends.0 inner.ordered ends.1
    ∙ ap (λ (run : Option Span). one_if (within w.lo w.hi t && not (spans_have (option_to_list run) t))) (sym c.in-Some.is)
