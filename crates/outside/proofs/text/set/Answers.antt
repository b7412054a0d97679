use Rattle.std.proofs.Common.{arith}
use Rattle.std.proofs.lemmas.Grind.{common_steps}
use Rattle.outside.proofs.Entries.{texts_of-push}
use Rattle.outside.proofs.text.set.Goals as goal

pub returns-in_ok-push-in-None-clause-ok : goal.returns-in_ok-push-in-None-clause-ok
returns-in_ok-push-in-None-clause-ok c = λ other.
    rw c.in_ok-push-in-None.ensures.items
    (grind (arith, common_steps, texts_of-push c.args.texts.now.items c.args.name.now c.args.bytes.now other))
