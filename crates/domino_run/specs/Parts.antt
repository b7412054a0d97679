-- What the parts of a run promise.
use Rattle.std.specs.Prelude.{◌≡◌, ℕ, ◌+◌, ◌≤◌, List, Option, Some, Result, Ok, Err, MatchResult, option_map}
use Rattle.outside.specs.Faults.{Rose}
use Rattle.outside.specs.Shelf.{Texts}
use Rattle.line_loop.specs.declared.ending.Ending.{Ending}
use Rattle.line_loop.specs.Ending as loop
use Rattle.line_meaning.specs.Step.{Held}
use Rattle.run_ends.specs.declared.status.Status.{Status}
use Rattle.run_ends.specs.declared.status.Status.TheVariants.{BadSession}
use Rattle.run_ends.specs.Ends.{Seen}
use Rattle.run_ends.specs.Status.{status_of}
use Rattle.run_ends.specs.Whole.{Says, Answers}
use Rattle.domino_run.specs.Looks.{looks_of_input}
use Rattle.domino_run.specs.Machine.{RunState, run_leaves, run_machine, texts_in}
use Rattle.domino_run.specs.Whole.{bad_session, plan_stored, started}
use Rattle.domino_run.specs.declared.opening.OpenFault.{OpenFault}
use Rattle.domino_run.specs.declared.opening.OpenFault.TheVariants as faults

-- the lines of the input are answered, from what is held on, and the read loop ends so
pub record AnswersLines (h : Held) (limit : ℕ) (before after : Seen) (looks looks' : ℕ) (status : Status) : Type 0 where
  pub ending : Ending
  pub status_is : status ≡ status_of ending
  pub cause : loop.EndsWithCause ending before.faults after.faults
  pub taken : (bytes : List ℕ) → before.left ≡ Some bytes → loop.KeepsLimit limit bytes ending after.left
  pub ends : (bytes written : List ℕ) (texts : Texts) → before.left ≡ Some bytes → before.written ≡ Some written → before.texts ≡ Some texts →
      (state : Option RunState) × (after.texts ≡ option_map texts_in state)
      × loop.HasEnding run_machine run_leaves limit (record { state = started h texts; written = written }) bytes ending state after.written after.left
  pub within : (bytes written : List ℕ) (texts : Texts) → before.left ≡ Some bytes → before.written ≡ Some written → before.texts ≡ Some texts →
      looks' ≤ looks + looks_of_input (started h texts) limit bytes

-- what was opened of the text of a session, by what it leads to
abbrev pub Opens : Texts → List ℕ → Result Held OpenFault → Type 0
Opens texts name (Ok h) = plan_stored (texts name) texts ≡ Answers (started h texts)
Opens texts name (Err (faults.BadSession number)) = plan_stored (texts name) texts ≡ Says (bad_session number) BadSession
Opens texts name (Err fault) = Unit {0}

-- the shelf is blamed only where its count rose
abbrev pub BlamesShelf : ℕ → ℕ → OpenFault → Type 0
BlamesShelf before now faults.ShelfFault = Rose before now
BlamesShelf before now fault = now ≡ before

abbrev pub OpenHasCause : ℕ → ℕ → Result Held OpenFault → Type 0
OpenHasCause before now result = MatchResult result (λ _. now ≡ before) (BlamesShelf before now)
