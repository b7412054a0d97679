use Rattle.std.proofs.Common.{◌≡◌, ℕ, ◌-◌, ◌&&◌, Bool, option_to_list, pos, ◌-ℤ◌, to_z, of_z, sym, ap, ◌∙◌, arith}
use Rattle.std.specs.Prelude.{not}
use Rattle.std.specs.Int.{w128}
use Rattle.std.proofs.lemmas.Int.{to_z-of_z}
use Rattle.exact.proofs.Sizes.{steps}
use Rattle.exact.proofs.Items.{on_ok}
use Rattle.case_table.specs.declared.compare.Op.{Op}
use Rattle.tick_set.specs.Runs.{spans_have}
use Rattle.tick_set.specs.Ticks.{within}
use Rattle.blur.specs.Added.{Adds}
use Rattle.blur.specs.Asked.{compares_by}
use Rattle.blur.specs.Bounds.{bound_after}
use Rattle.blur.proofs.AddedLemmas.{adds_as}
use Rattle.blur.proofs.ComparedLemmas.{all_others, low_is_past, low_without}
use Rattle.blur.proofs.distances.add_compared.Goals as goal

pub add_without-requires : goal.add_without-requires
add_without-requires c = low_is_past (bound_after c.args.small.now) _ c.args.w c.args.runs.now c.low_ticks.result c.requires.before c.low_ticks.ensures

pub add_without-requires-in-Le : goal.add_without-requires-in-Le
add_without-requires-in-Le c = low_is_past (bound_after c.args.small.now) _ c.args.w c.args.runs.now c.low_ticks-in-Le.result c.requires.before c.low_ticks-in-Le.ensures

pub add_without-requires-in-Eq : goal.add_without-requires-in-Eq
add_without-requires-in-Eq c = low_is_past (bound_after c.args.small.now) _ c.args.w c.args.runs.now c.low_ticks-in-Eq.result c.requires.before c.low_ticks-in-Eq.ensures

pub returns-in-Eq : goal.returns-in-Eq
returns-in-Eq c =
    let w = c.args.w in
    let x = c.args.x in
    let small = bound_after c.args.small.now in
    let large = bound_after c.args.large.now in
    let old = c.args.runs.now in
    let new = c.add_without-in-Eq.new.runs in
    let same : to_z w128 (of_z w128 x) ≡ x = to_z-of_z w128 x c.ranges.x in
    let less : to_z w128 (of_z w128 c.minus-below.result) ≡ x -ℤ pos 1 = grind (arith, steps) in
    let found : ℕ → Bool = λ t. spans_have (option_to_list c.low_ticks-in-Eq.result) t && not (spans_have (option_to_list c.low_ticks-in-Eq-2.result) t) in
    let test : ℕ → Bool = λ t. within w.lo w.hi t && compares_by c.args.op (small (t - w.lo)) (large (t - w.lo)) x in
    on_ok c.add_without-in-Eq.result (Adds found old new) (Adds test old new)
    (adds_as found test old new
    (λ t.
    low_without small large x (x -ℤ pos 1) _ _ w c.low_ticks-in-Eq.result c.low_ticks-in-Eq-2.result same less c.low_ticks-in-Eq.ensures c.low_ticks-in-Eq-2.ensures t
    ∙ ap (λ (op : Op). within w.lo w.hi t && compares_by op (small (t - w.lo)) (large (t - w.lo)) x) (sym c.in-Eq.is)))
    c.add_without-in-Eq.ensures

pub returns-in-Ne : goal.returns-in-Ne
returns-in-Ne c =
    let w = c.args.w in
    let x = c.args.x in
    let small = bound_after c.args.small.now in
    let large = bound_after c.args.large.now in
    let old = c.args.runs.now in
    let new = c.add_others.new.runs in
    let span = c.span.result in
    let same : to_z w128 (of_z w128 x) ≡ x = to_z-of_z w128 x c.ranges.x in
    let less : to_z w128 (of_z w128 c.minus-below.result) ≡ x -ℤ pos 1 = grind (arith, steps) in
    let found : ℕ → Bool = λ t. within span.lo span.hi t && not (spans_have (option_to_list c.low_ticks-in-Ne.result) t && not (spans_have (option_to_list c.low_ticks-in-Ne-2.result) t)) in
    let test : ℕ → Bool = λ t. within w.lo w.hi t && compares_by c.args.op (small (t - w.lo)) (large (t - w.lo)) x in
    on_ok c.add_others.result (Adds found old new) (Adds test old new)
    (adds_as found test old new
    (λ t.
    all_others large small x (x -ℤ pos 1) _ _ w span c.low_ticks-in-Ne.result c.low_ticks-in-Ne-2.result c.span.ensures.0 c.span.ensures.1 same less
    c.low_ticks-in-Ne.ensures c.low_ticks-in-Ne-2.ensures t
    ∙ ap (λ (op : Op). within w.lo w.hi t && compares_by op (small (t - w.lo)) (large (t - w.lo)) x) (sym c.in-Ne.is)))
    c.add_others.ensures
