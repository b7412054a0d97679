use Rattle.places.specs.Boxes.{AddsFound}
use Rattle.places.proofs.boxes.push_near.Given as goal

-- those of the slots so far are found
abbrev pub invariant-slots : goal.invariant-slots
invariant-slots l = AddsFound l.start l.slot l.numbers l.patches l.area l.initial.found.items l.found.items
