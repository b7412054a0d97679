-- What is promised where something is said.
use Rattle.std.specs.Prelude.{◌≡◌, ℕ, List, Option, Some, Result, Ok, Err}
use Rattle.outside.specs.declared.fault.OutFail.{OutFail}
use Rattle.outside.specs.declared.fault.OutFail.TheVariants as fails
use Rattle.outside.specs.Faults.{HasCauseOrNoMemory}
use Rattle.line_loop.specs.Stop.{WritesAll}
use Rattle.run_ends.specs.declared.status.Status.{Status}
use Rattle.run_ends.specs.declared.status.Status.TheVariants.{WriteFault, NoMemory}

-- the status of a run that says something, by how that was written: this one where all of it was
abbrev pub status_said : Status → Result (Unit {0}) OutFail → Status
status_said end (Ok u) = end
status_said end (Err fails.Failed) = WriteFault
status_said end (Err fails.NoMemory) = NoMemory

-- something is said, to a sink with these counts of faults and these bytes before it and after it
pub record Speaks (said : List ℕ) (end status : Status) (faults faults' : ℕ) (old new : Option (List ℕ)) : Type 0 where
  pub result : Result (Unit {0}) OutFail
  pub status_is : status ≡ status_said end result
  pub cause : HasCauseOrNoMemory faults faults' result
  pub bytes : (written : List ℕ) → old ≡ Some written → WritesAll said written result new
