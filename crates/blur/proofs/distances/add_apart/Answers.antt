use Rattle.std.proofs.Common.{◌≡◌, ℕ, ◌-◌, ◌&&◌, Bool, true, ℤ, pos, ◌*ℤ◌, to_z, of_z, ap, arith}
use Rattle.std.specs.Prelude.{int_le}
use Rattle.std.specs.Int.{w128}
use Rattle.std.proofs.lemmas.Bool.Decides.{nat_tests}
use Rattle.std.proofs.lemmas.Int.{ints}
use Rattle.exact.proofs.Sizes.{steps}
use Rattle.exact.proofs.Items.{on_ok}
use Rattle.linear_crossing.specs.Moving.{position_after}
use Rattle.tick_set.specs.Ticks.{within}
use Rattle.worlds.specs.Apart.{distance_compares_by, farthest_square, nearest_square}
use Rattle.blur.specs.Added.{Adds}
use Rattle.blur.specs.Asked.{comparison, compares_by}
use Rattle.blur.specs.Bounds.{bound_after}
use Rattle.blur.proofs.AddedLemmas.{adds_as, before_inside, is_past}
use Rattle.blur.proofs.ComparedLemmas.{compared_is}
use Rattle.blur.proofs.distances.add_apart.Goals as goal

pub append-requires : goal.append-requires
append-requires c =
    let w = c.args.w in
    record {
      past =
          is_past (λ t. within w.lo w.hi t && c.holds.result) c.args.runs.now c.everywhere.result c.everywhere.ensures
          (before_inside w.lo w.hi c.args.runs.now (λ t. c.holds.result) c.requires.before);
    }

pub returns : goal.returns
returns c =
    let w = c.args.w in
    let from = λ (t : ℕ). position_after c.args.from.now (t - w.lo) in
    let to = λ (t : ℕ). position_after c.args.to.now (t - w.lo) in
    let sure = c.args.blur.sure in
    let error = c.args.blur.error in
    let op = c.args.compared.now.op in
    let old = c.args.runs.now in
    let new = c.add_compared.new.runs in
    let x : ℤ = to_z w128 (of_z w128 c.squared.result) in
    let squared : x ≡ c.args.compared.now.c *ℤ c.args.compared.now.c = grind (arith, steps) in
    let positive : int_le (pos 0) c.args.compared.now.c ≡ true = grind (arith, ints, nat_tests) in
    let found : ℕ → Bool = λ t. within w.lo w.hi t && compares_by op (bound_after c.small_by-small.result (t - w.lo)) (bound_after c.small_by-large.result (t - w.lo)) x in
    let test : ℕ → Bool = λ t. within w.lo w.hi t && distance_compares_by (comparison sure) op c.args.compared.now.c (nearest_square error (from t) (to t)) (farthest_square error (from t) (to t)) in
    on_ok c.add_compared.result (Adds found old new) (Adds test old new)
    (adds_as found test old new
    (λ t.
    ap (λ b. within w.lo w.hi t && b)
    (compared_is sure c.turned.result.sure op error c.turned.result.error c.args.compared.now.c (from t) (to t) (bound_after c.small_by-small.result (t - w.lo))
    (bound_after c.small_by-large.result (t - w.lo)) x (c.small_by-small.ensures (t - w.lo)) (c.small_by-large.ensures (t - w.lo))
    c.turned.ensures.sure c.turned.ensures.error squared positive)))
    c.add_compared.ensures
