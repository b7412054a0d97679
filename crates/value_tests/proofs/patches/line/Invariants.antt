-- as many objects as were counted
use Rattle.std.proofs.Common.{◌≡◌, length}
use Rattle.value_tests.proofs.patches.line.Given as goal

abbrev pub invariant-loop-n : goal.invariant-loop-n
invariant-loop-n l = length l.boxes.patches ≡ l.n
