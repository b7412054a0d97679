use Rattle.std.proofs.Common.{◌<◌, arith}
use Rattle.std.proofs.lemmas.Bool.Decides.{nat_tests}
use Rattle.motion.proofs.CallerLemmas.{linear_on, linear_until}
use Rattle.atoms.proofs.attributes.has_one_slope.Goals as goal

pub returns-in-Some : goal.returns-in-Some
returns-in-Some c = λ is.
    let less : c.args.w.hi < c.in-Some.end = grind (arith, nat_tests, is) in
    linear_until c.args.vector.now c.args.w.lo c.args.w.hi c.in-Some.end c.requires c.in-Some.ensures.some less

pub returns-in-None : goal.returns-in-None
returns-in-None c = λ is. linear_on c.args.vector.now c.args.w.lo c.args.w.hi c.requires c.in-None.ensures.none
