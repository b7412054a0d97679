use Rattle.std.proofs.Common.{◌≡◌, ℕ, ◌-◌, ◌<◌, ◌≤◌, ◌||◌, length}
use Rattle.plane.specs.Boxes.{strips_meet}
use Rattle.plane_index.specs.Index.{fresh_at}
use Rattle.plane_index.specs.Lines.{strips_as}
use Rattle.plane_index.specs.States.{strips_at}
use Rattle.plane_index.proofs.states.mark_rest.Given as goal

abbrev pub invariant-places : goal.invariant-places
invariant-places l = record {
  from : l.fn.from ≤ l.place;
  count : length l.marks ≡ length l.fn.marks;
  marked : (k : ℕ) → l.fn.from ≤ k → k < l.place → fresh_at l.marks k
      ≡ (fresh_at l.fn.marks k || strips_meet (strips_as l.fn.asked) (strips_at l.fn.grid l.fn.states k l.fn.s));
  before : (k : ℕ) → k < l.fn.from → fresh_at l.marks k ≡ fresh_at l.fn.marks k;
  rest : (k : ℕ) → l.place ≤ k → fresh_at l.marks k ≡ fresh_at l.fn.marks k;
}

abbrev pub decreases-places : goal.decreases-places
decreases-places l = length l.fn.marks - l.place
