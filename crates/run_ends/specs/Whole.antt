-- What a run does, and all that it is to write and to leave.
use Rattle.std.specs.Prelude.{ℕ, List, if◌then◌else◌}
use Rattle.outside.specs.Shelf.{Texts}
use Rattle.line_loop.specs.Machine.{Machine, after}
use Rattle.line_loop.specs.Run.{answered_lines, is_cut_off, output}
use Rattle.run_ends.specs.declared.status.Status.{Status}
use Rattle.run_ends.specs.declared.status.Status.TheVariants.{Done, InputLimit}

-- it says something with a status and reads nothing, or it answers the lines of the input, from a state on
pub data Plan (T : Type 0) : Type 0 where
  Says : List ℕ → Status → Plan T
  Answers : T → Plan T

pub record Whole : Type 0 where
  pub output : List ℕ
  pub status : Status
  pub texts : Texts

-- What is said is all. Lines are answered to the end of the input or to the first that makes the machine done; where there
-- are more bytes than the limit, and no such line ends within it, the lines that end within it are answered, and the status
-- says so. The texts are those that the machine's state tells.
abbrev pub whole_run : {T : Type 0} → Machine T → (T → Texts) → Plan T → Texts → ℕ → List ℕ → Whole
whole_run m tells (Says said status) texts limit bytes = record { output = said; status = status; texts = texts }
whole_run m tells (Answers start) texts limit bytes = record {
  output = output m limit start bytes;
  status = if is_cut_off m limit start bytes then InputLimit else Done;
  texts = tells (after m start (answered_lines m limit start bytes));
}
