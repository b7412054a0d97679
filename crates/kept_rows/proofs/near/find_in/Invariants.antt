use Rattle.std.proofs.Common.{◌≡◌, ℕ, ◌*◌, ◌+◌, ◌-◌, ◌<◌, ◌≤◌, true}
use Rattle.std.specs.Prelude.{slice_index_or}
use Rattle.tick_set.specs.TickList.{has}
use Rattle.kept_rows.specs.Near.{is_cell}
use Rattle.kept_rows.proofs.near.find_in.Given as goal

-- the numbers of the cells before this one are there
abbrev pub invariant-cells : goal.invariant-cells
invariant-cells l = record {
  least : l.bucket * 32 ≤ l.at;
  most : l.at ≤ l.end;
  more : (c : ℕ) → has l.fn.found.items c ≡ true → has l.found.items c ≡ true;
  free : l.is_all ≡ true → is_cell l.cells l.bucket 4294967295 ≡ true;
  found : (i c : ℕ) → l.bucket * 32 ≤ i → i < l.at → slice_index_or l.cells i 0 ≡ c → l.asked.from ≤ c → c < l.asked.to → has l.found.items c ≡ true;
}

abbrev pub decreases-cells : goal.decreases-cells
decreases-cells l = l.end - l.at
