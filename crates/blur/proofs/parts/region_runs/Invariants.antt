use Rattle.std.proofs.Common.{◌+◌, ◌-◌, ◌≤◌, false}
use Rattle.std.specs.Option.{option_map_or}
use Rattle.courses.specs.Places.{place_at}
use Rattle.blur.specs.Asked.{is_on_side}
use Rattle.blur.proofs.parts.region_runs.Given as goal
use Rattle.atoms.specs.Gathered.{IsGathered}

-- the ticks before `at` are settled
abbrev pub invariant-joining : goal.invariant-joining
invariant-joining l = record {
  from : l.w.lo ≤ l.at;
  until : l.at ≤ l.w.hi + 1;
  ticks : IsGathered (λ t. option_map_or (is_on_side l.side.inside l.blur.sure l.blur.error l.regions l.side.n) (place_at l.fn.timeline t) false) l.w.lo l.at l.runs;
}

abbrev pub decreases-joining : goal.decreases-joining
decreases-joining l = l.w.hi + 1 - l.at
