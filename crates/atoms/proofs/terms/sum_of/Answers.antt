use Rattle.std.proofs.Common.{rules}
use Rattle.atoms.proofs.terms.sum_of.Goals as goal

pub returns-in-Some-Number-Some-Number-clause-small : goal.returns-in-Some-Number-Some-Number-clause-small
returns-in-Some-Number-Some-Number-clause-small c = λ n small.
    c.plus.ensures.small n (search (rules, small))
