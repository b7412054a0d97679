use Rattle.std.proofs.Common.{[], ◌∷◌}
use Rattle.tick_set.specs.Runs.{spans_have}
use Rattle.pairs.specs.Pairs.{holds_in}
use Rattle.pairs.proofs.PairLemmas.{apart_never, filled_false}
use Rattle.pairs.proofs.rows.put_unless_apart.Goals as goal

pub returns-then-are_apart-clause-rows : goal.returns-then-are_apart-clause-rows
returns-then-are_apart-clause-rows g c =
    let one = c.args.couple.now.one.now in
    let other = c.args.couple.now.other.now in
    filled_false spans_have (holds_in c.args.scene.now) (one.id ∷ other.id ∷ []) c.args.made.now
    (apart_never c.args.scene.now c.requires.can.distance one other c.requires.one c.requires.other (c.are_apart.ensures c.if-are_apart.true))
