use Rattle.std.proofs.Common.{sym, subst, arith}
use Rattle.nearest.specs.Courses.{AreNumbered}
use Rattle.nearest.proofs.FoundLemmas.{numbered_more}
use Rattle.nearest.proofs.course.add_course.Goals as goal

pub returns-clause-numbered : goal.returns-clause-numbered
returns-clause-numbered g c =
    subst (AreNumbered 0) (sym c.in_ok-push.ensures.items)
    (numbered_more 0 c.args.courses.now.items _ c.requires.numbered (omega (arith, c.len-index.ensures)))
