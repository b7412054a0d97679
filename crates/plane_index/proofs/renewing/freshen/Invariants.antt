use Rattle.std.proofs.Common.{◌≡◌, ℕ, ◌+◌, ◌-◌, ◌<◌, ◌≤◌, true, false, ◌||◌, not, length, nat_lt}
use Rattle.std.specs.Prelude.{count_by, slice_index}
use Rattle.tick_set.specs.Ticks.{between}
use Rattle.plane.specs.Boxes.{strips_in}
use Rattle.plane.specs.declared.limits.TheConstants.{SLICES}
use Rattle.plane_index.specs.Held.{kept_strips}
use Rattle.plane_index.specs.Index.{fresh_at}
use Rattle.plane_index.specs.States.{strips_at}
use Rattle.plane_index.specs.Told.{recorded_by}
use Rattle.plane_index.proofs.renewing.freshen.Given as goal

abbrev pub invariant-places : goal.invariant-places
invariant-places g l = record {
  up_to : l.place ≤ length l.fn.ids;
  seen : length l.fresh ≡ length l.fn.fresh;
  room : length l.states.states ≡ length l.fn.states.states;
  grid : l.states.grid ≡ l.fn.states.grid;
  fresh : (k : ℕ) → fresh_at l.fresh k ≡ (fresh_at l.fn.fresh k || nat_lt k l.place);
  kept : (k s : ℕ) → fresh_at l.fn.fresh k ≡ true → strips_at l.states.grid l.states.states k s ≡ strips_at l.fn.states.grid l.fn.states.states k s;
  right : (k s : ℕ) → k < l.place → fresh_at l.fn.fresh k ≡ false → s < SLICES →
      strips_at l.states.grid l.states.states k s ≡ kept_strips (strips_in (recorded_by l.fn.store) l.fn.states.grid (slice_index l.fn.ids k) s);
  least : l.fn.reads ≤ l.reads;
  most : l.reads ≤ l.fn.reads + count_by (λ k. not (fresh_at l.fn.fresh k)) (between 0 l.place);
}

abbrev pub decreases-places : goal.decreases-places
decreases-places g l = length l.fn.ids - l.place
