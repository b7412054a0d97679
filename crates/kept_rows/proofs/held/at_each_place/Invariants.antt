use Rattle.std.proofs.Common.{◌≡◌, ℕ, ◌+◌, ◌*◌, ◌<◌, ◌&&◌, eqb, ltb, if◌then◌else◌}
use Rattle.tick_set.specs.TickList.{has}
use Rattle.kept_rows.specs.Rising.{AscendsWithin}
use Rattle.kept_rows.proofs.held.at_each_place.Given as goal

-- the numbers with the places before this one in front
abbrev pub invariant-places : goal.invariant-places
invariant-places l = record {
  rising : AscendsWithin 0 (l.place * l.width) l.made.items;
  has : (p d : ℕ) → d < l.width → has l.made.items (p * l.width + d)
      ≡ (ltb p l.place && (if eqb p l.variable.own then has l.all d else has l.held d));
}
