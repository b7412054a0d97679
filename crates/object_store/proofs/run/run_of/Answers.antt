use Rattle.std.proofs.Common.{arith}
use Rattle.std.proofs.lemmas.Bool.Decides.{nat_tests}
use Rattle.object_store.proofs.RunLemmas.{run_listed}
use Rattle.object_store.proofs.run.run_of.Goals as goal

pub returns : goal.returns
returns c = λ number there. run_listed c.args.numbers.now number c.requires (grind (arith, nat_tests)) (grind (arith, nat_tests)) there
