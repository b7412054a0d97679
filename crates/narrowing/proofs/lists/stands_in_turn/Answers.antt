use Rattle.std.proofs.Common.{◌-◌, get_or, arith}
use Rattle.std.proofs.lemmas.Bool.Decides.{nat_tests}
use Rattle.narrowing.proofs.ListLemmas.{has_at}
use Rattle.narrowing.proofs.lists.stands_in_turn.Goals as goal

pub returns : goal.returns
returns c = λ same.
    let ids = c.args.ids.now in
    let place = c.args.id - get_or ids 0 0 in
    has_at ids place c.args.id (grind (arith)) (grind (arith, nat_tests, same))
