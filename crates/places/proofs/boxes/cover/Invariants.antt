use Rattle.std.proofs.Common.{◌≡◌, length}
use Rattle.places.proofs.CoverLemmas.{HaveBelow}
use Rattle.places.proofs.boxes.cover.Given as goal

-- the covers have the patches so far
abbrev pub invariant-numbers : goal.invariant-numbers
invariant-numbers l = record {
  long : length l.covers.items ≡ length l.initial.covers.items;
  have : HaveBelow l.number l.covers.items l.patches l.slots;
}
