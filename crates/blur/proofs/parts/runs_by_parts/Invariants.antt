use Rattle.std.proofs.Common.{◌+◌, ◌-◌, ◌≤◌}
use Rattle.courses.specs.Places.{place_at}
use Rattle.worlds.specs.Blurred.{distance_holds_by}
use Rattle.blur.specs.Asked.{comparison}
use Rattle.blur.proofs.parts.runs_by_parts.Given as goal
use Rattle.atoms.specs.Gathered.{IsGathered}

-- the ticks before `at` are settled
abbrev pub invariant-joining : goal.invariant-joining
invariant-joining l = record {
  from : l.w.lo ≤ l.at;
  until : l.at ≤ l.w.hi + 1;
  ticks : IsGathered (λ t. distance_holds_by (comparison l.blur.sure) l.blur.error l.compared.op l.compared.c (place_at l.fn.from t) (place_at l.fn.to t)) l.w.lo l.at l.runs;
}

abbrev pub decreases-joining : goal.decreases-joining
decreases-joining l = l.w.hi + 1 - l.at
