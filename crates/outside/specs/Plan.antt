-- Which calls of an object in memory fail.
use Rattle.std.specs.Prelude.{ℕ, ◌+◌, Bool, List, ◌==◌, if◌then◌else◌}
use Rattle.std.specs.List.{list_any}
use Rattle.outside.specs.Faults.{one_more}

-- the numbers of the calls that fail, counted from 1; how many calls were made; how many failed
pub record FailurePlan : Type 0 where
  pub fail : List ℕ
  pub calls : ℕ
  pub faults : ℕ

-- nothing was called yet
abbrev pub new_plan : List ℕ → FailurePlan
new_plan fail = record { fail = fail; calls = 0; faults = 0 }

-- the next call is one that fails
abbrev pub fails_next : FailurePlan → Bool
fails_next plan = list_any (λ number. number == plan.calls + 1) plan.fail

-- the plan after one more call
abbrev pub called : FailurePlan → FailurePlan
called plan = record {
  fail = plan.fail;
  calls = one_more plan.calls;
  faults = if fails_next plan then one_more plan.faults else plan.faults;
}
