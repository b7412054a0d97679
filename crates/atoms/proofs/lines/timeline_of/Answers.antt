use Rattle.std.proofs.Common.{sym, ◌∙◌, arith}
use Rattle.std.proofs.lemmas.Bool.Decides.{nat_tests}
use Rattle.courses.specs.Parts.{epochs_of_each}
use Rattle.atoms.proofs.PartLemmas.{found_beside, none_beside}
use Rattle.atoms.proofs.lines.timeline_of.Goals as goal

pub returns-then-variables-k : goal.returns-then-variables-k
returns-then-variables-k c =
    c.timeline_at.ensures
    ∙ sym (found_beside c.args.variables.now (epochs_of_each c.args.timelines.now) c.args.v c.loop-k.k (omega arith) c.loop-k.invariant (grind (arith, nat_tests)))

pub returns : goal.returns
returns c = sym (none_beside c.args.variables.now (epochs_of_each c.args.timelines.now) c.args.v (λ j l. c.loop-k.invariant j (omega arith)))
