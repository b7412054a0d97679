use Rattle.std.proofs.Common.{◌≡◌, length}
use Rattle.session.specs.Trial.{IsStack, bottom}
use Rattle.session.proofs.trying.take_back.Given as goal

-- the changes that are left lead to the same
abbrev pub invariant-changes : goal.invariant-changes
invariant-changes l = record {
  stack : IsStack l.left.items l.database;
  back : bottom l.left.items l.database ≡ bottom l.fn.changes.items l.fn.database;
}

abbrev pub decreases-changes : goal.decreases-changes
decreases-changes l = length l.left.items
