use Rattle.std.proofs.Common.{◌-◌, length}
use Rattle.hub.proofs.ReplayLemmas.{IsCopied}
use Rattle.hub.proofs.newcomer.copied.Given as goal

abbrev pub invariant-entries : goal.invariant-entries
invariant-entries g l = IsCopied l.journal l.place l.copy

abbrev pub decreases-entries : goal.decreases-entries
decreases-entries g l = length l.journal - l.place
