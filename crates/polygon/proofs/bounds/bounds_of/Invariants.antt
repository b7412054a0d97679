use Rattle.std.proofs.Common.{◌≡◌, take}
use Rattle.std.specs.Prelude.{fold}
use Rattle.polygon.proofs.BoundLemmas.{lesser, greater}
use Rattle.polygon.proofs.bounds.bounds_of.Given as goal

-- the bounds of the points so far
abbrev pub invariant-loop-p : goal.invariant-loop-p
invariant-loop-p l = record {
  least : l.least ≡ fold lesser l.first (take l.p-index l.others);
  greatest : l.greatest ≡ fold greater l.first (take l.p-index l.others);
}
