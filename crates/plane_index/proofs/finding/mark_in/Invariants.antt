use Rattle.std.proofs.Common.{◌≡◌, ℕ, ◌+◌, ◌-◌, ◌<◌, ◌≤◌, ◌&&◌, ◌||◌, nat_le, length}
use Rattle.std.specs.List.{list_any}
use Rattle.tick_set.specs.Ticks.{between}
use Rattle.plane.specs.Boxes.{strips_meet}
use Rattle.plane_index.specs.Index.{fresh_at}
use Rattle.plane_index.specs.Lines.{strips_as}
use Rattle.plane_index.specs.States.{strips_at}
use Rattle.plane_index.proofs.finding.mark_in.Given as goal

abbrev pub invariant-slices : goal.invariant-slices
invariant-slices l = record {
  from : l.fn.first ≤ l.s;
  up_to : l.s ≤ l.fn.last + 1;
  count : length l.marks ≡ length l.fn.marks;
  marked : (k : ℕ) → k < length l.fn.marks → fresh_at l.marks k
      ≡ (fresh_at l.fn.marks k || list_any (λ j. nat_le l.fn.first j && strips_meet (strips_as l.fn.asked) (strips_at l.fn.states.grid l.fn.states.states k j)) (between 0 l.s));
}

abbrev pub decreases-slices : goal.decreases-slices
decreases-slices l = l.fn.last + 1 - l.s
