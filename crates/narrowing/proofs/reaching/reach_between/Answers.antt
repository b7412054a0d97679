use Rattle.std.proofs.Common.{sym, ◌∙◌, arith}
use Rattle.std.proofs.lemmas.Int.{ints}
use Rattle.exact.proofs.Sizes.{steps}
use Rattle.narrowing.proofs.ReachLemmas.{reaches_fix}
use Rattle.narrowing.proofs.reaching.reach_between.Goals as goal

pub returns : goal.returns
returns c =
    reaches_fix _ _ c.args.error c.args.direction c.args.before.now c.args.after.now c.between-to_vertex.result c.between-from_vertex.result
    c.ahead-vertex.result c.in_ok-beyond.beyond c.of.result c.of.ensures (grind (arith, steps, ints, c.ahead-vertex.ensures.size, c.in_ok-beyond.ensures.size))
    (sym c.are_one.ensures ∙ c.if-not-are_one.false)
    c.between-to_vertex.ensures.ahead c.between-to_vertex.ensures.aside c.between-from_vertex.ensures.ahead c.between-from_vertex.ensures.aside
    c.in_ok-beyond.ensures.most c.ahead-vertex.ensures.value
