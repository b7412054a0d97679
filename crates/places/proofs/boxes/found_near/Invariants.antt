use Rattle.std.proofs.Common.{◌*◌}
use Rattle.places.specs.declared.boxes.TheConstants.{BLOCK}
use Rattle.places.specs.Boxes.{AreFound}
use Rattle.places.proofs.boxes.found_near.Given as goal

-- those of the blocks so far are found
abbrev pub invariant-walk : goal.invariant-walk
invariant-walk l = AreFound (BLOCK * l.block) l.covers l.numbers l.patches l.area l.found.items
