use Rattle.std.proofs.Common.{ℕ, ◌-◌, ◌&&◌, Bool, true, option_to_list, [], ◌∙◌}
use Rattle.std.specs.Prelude.{not}
use Rattle.linear_crossing.specs.Moving.{position_after}
use Rattle.tick_set.specs.Runs.{spans_have}
use Rattle.tick_set.specs.Ticks.{within}
use Rattle.worlds.specs.Blurred.{is_in_region_by}
use Rattle.blur.specs.Added.{Adds}
use Rattle.blur.specs.Asked.{inside_by}
use Rattle.blur.proofs.AddedLemmas.{adds_as}
use Rattle.blur.proofs.ComparedLemmas.{outside_one}
use Rattle.blur.proofs.insides.add_outside.Goals as goal
use Rattle.exact.proofs.Items.{on_ok}

pub returns : goal.returns
returns c =
    let w = c.args.w in
    let blur = c.args.blur in
    let old = c.args.runs.now in
    let new = c.add_others.new.runs in
    let run = spans_have (option_to_list c.inside_run-inside.result) in
    let other : ℕ → Bool = λ t. is_in_region_by (inside_by (not blur.sure) blur.error) c.args.regions.now c.args.n (position_after c.args.line.now (t - w.lo)) in
    let span = c.span.result in
    let first : ℕ → Bool = λ t. within span.lo span.hi t && not (run t && not (spans_have [] t)) in
    let second : ℕ → Bool = λ t. within w.lo w.hi t && not (other t) in
    on_ok c.add_others.result (Adds first old new) (Adds second old new)
    (adds_as first second old new
    (λ t.
    (λ i. within (c.span.ensures.0 i) (c.span.ensures.1 i) t && not (c.inside_run-inside.ensures.ticks t i && true))
    ∙ outside_one (within w.lo w.hi t)
    (is_in_region_by (inside_by c.turned.result.sure c.turned.result.error) c.args.regions.now c.args.n (position_after c.args.line.now (t - w.lo)))
    ∙ (λ i. within w.lo w.hi t && not (is_in_region_by (inside_by (c.turned.ensures.sure i) (c.turned.ensures.error i)) c.args.regions.now c.args.n (position_after c.args.line.now (t - w.lo))))))
    c.add_others.ensures
