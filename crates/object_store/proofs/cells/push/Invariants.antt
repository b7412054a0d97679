use Rattle.std.proofs.Common.{◌≡◌, ◌++◌, length}
use Rattle.object_store.specs.Changes.{setting_changes}
use Rattle.object_store.proofs.cells.push.Given as goal

-- what was written and what is left make the whole
abbrev pub invariant-loop-set : goal.invariant-loop-set
invariant-loop-set l =
    l.changes.items ++ setting_changes l.class.attributes l.rest ≡ l.initial.changes.items ++ setting_changes l.class.attributes l.sets

abbrev pub decreases-loop-set : goal.decreases-loop-set
decreases-loop-set l = length l.rest
