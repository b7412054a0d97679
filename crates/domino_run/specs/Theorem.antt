-- The theorem of the program: how each run ends, what it wrote, and what it took.
use Rattle.std.specs.Prelude.{◌≡◌, ℕ, true, List, Option, Some}
use Rattle.outside.specs.Shelf.{Texts}
use Rattle.run_ends.specs.declared.status.Status.{Status}
use Rattle.run_ends.specs.Ends.{EndsAs, Seen, Setting}
use Rattle.run_ends.specs.Status.{HasStatusCause}
use Rattle.domino_run.specs.Ends.{KeepsLimitFor, allows_status, opens_text}
use Rattle.domino_run.specs.Looks.{LooksWithin}
use Rattle.domino_run.specs.Machine.{RunState, run_leaves, run_machine, texts_in}
use Rattle.domino_run.specs.Whole.{plan_of}
use Rattle.domino_run.specs.Words.{Words}

-- what is given to a run with these words, where the outside tells what it holds
abbrev pub run_setting : Words → ℕ → List ℕ → List ℕ → Texts → Setting RunState
run_setting words limit bytes written texts = record {
  plan = plan_of words texts;
  opens = opens_text words;
  limit = limit;
  bytes = bytes;
  written = written;
  texts = texts;
}

-- all that a run promises, by the outside before and after it, and by the looks that were counted before and after it
pub record RunsAs (limit : ℕ) (words : Words) (before after : Seen) (looks looks' : ℕ) (status : Status) : Type 0 where
  pub fits : allows_status words status ≡ true
  pub cause : HasStatusCause status before.faults after.faults
  pub taken : (bytes : List ℕ) → before.left ≡ Some bytes → KeepsLimitFor words limit bytes status after.left
  pub ends : (bytes written : List ℕ) (texts : Texts) → before.left ≡ Some bytes → before.written ≡ Some written → before.texts ≡ Some texts →
      EndsAs run_machine run_leaves texts_in (run_setting words limit bytes written texts) status after
  pub within : (bytes written : List ℕ) (texts : Texts) → before.left ≡ Some bytes → before.written ≡ Some written → before.texts ≡ Some texts →
      LooksWithin words limit bytes texts looks looks'
