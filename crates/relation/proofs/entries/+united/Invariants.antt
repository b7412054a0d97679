use Rattle.std.proofs.Common.{length}
use Rattle.relation.proofs.entries.+united.Given as goal

abbrev pub decreases-united : goal.decreases-united
decreases-united g l = length l.entries.now
