use Rattle.std.proofs.Common.{rules}
use Rattle.replica.proofs.FrontLemmas.{from_first, stay_before}
use Rattle.replica.proofs.fronts.front_len.Goals as goal

pub returns-in-Some-clause-stay : goal.returns-in-Some-clause-stay
returns-in-Some-clause-stay c =
    stay_before c.args.operation _ c.args.told.now c.in-Some.first.now.lo (search rules) c.ended_count.ensures.before (from_first c.args.told.now c.in-Some.field-0-1.now c.in-Some.first.now (search rules) c.requires.told)
