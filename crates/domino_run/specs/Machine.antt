-- DOMINO as a line machine: its state is that of the database and of the shelf, and whether the run was ended.
use Rattle.std.specs.Prelude.{◌≡◌, ◌⊎◌, ℕ, Bool, true, false, ◌||◌, ◌&&◌, is_none, is_some, List, Option, Some, None, if◌then◌else◌}
use Rattle.outside.specs.declared.fault.OutFail.TheVariants.{Failed, NoMemory}
use Rattle.outside.specs.Shelf.{Texts}
use Rattle.line_loop.specs.Machine.{Machine, Failures}
use Rattle.line_loop.specs.Spending.{Costs}
use Rattle.command_text.specs.declared.reading.TheConstants.{LINE_LIMIT}
use Rattle.command_text.specs.Journal.{spelled}
use Rattle.command_text.specs.Line.{early_refusal}
use Rattle.line_meaning.specs.declared.role.Role.{Role}
use Rattle.line_meaning.specs.declared.role.Role.TheVariants.{Ending}
use Rattle.line_meaning.specs.Looks.{looks_of}
use Rattle.line_meaning.specs.Role.{asks_shelf, role_of}
use Rattle.line_meaning.specs.Step.{Base, Held, base, line_refusal, refusal_of, step}
use Rattle.session.specs.Answers.{LeavesHeld, SameButFile}

pub record RunState : Type 0 where
  pub base : Base
  pub ended : Bool

-- the texts of the shelf that a state tells
abbrev pub texts_in : RunState → Texts
texts_in s = s.base.texts

abbrev pub is_ending : Role → Bool
is_ending Ending = true
is_ending _ = false

-- the line is a `quit` that nothing refuses
abbrev pub is_last : Base → List ℕ → Bool
is_last b line = is_none (refusal_of b line) && is_ending (role_of (spelled line))

-- the most looks that a line may take: none where it is refused before it is read as a command
abbrev pub looks_of_line : Base → List ℕ → ℕ
looks_of_line b line = if is_some (early_refusal LINE_LIMIT line) then 0 else looks_of b (spelled line)

abbrev pub run_cost : Costs RunState
run_cost s line = looks_of_line s.base line

-- Each line is one step. After a `quit` no more lines are taken.
abbrev pub run_machine : Machine RunState
run_machine = record {
  next = λ s line. record { base = (step s.base line).0; ended = s.ended || is_last s.base line };
  reply = λ s line. (step s.base line).1;
  done = λ s. s.ended;
}

-- The shelf fails only on a command on files that neither the line nor what is held refuses. Then only the text that the
-- command was to write may be another one, or gone.
pub record FailsOnFile (b : Base) (line : List ℕ) (left : Texts) : Type 0 where
  pub asks : asks_shelf (spelled line) ≡ true
  pub accepted : line_refusal b.held line ≡ None
  pub others : SameButFile (spelled line) b.texts left

-- what is held after a line that lacked memory: an import may have left its first rows
pub record LeavesWithoutMemory (b : Base) (line : List ℕ) (left : Held) : Type 0 where
  pub late : early_refusal LINE_LIMIT line ≡ None
  pub rows : LeavesHeld b (spelled line) left

-- Where the text of a refusal lacks memory the state is as before.
abbrev pub run_leaves : Failures RunState
run_leaves Failed s line told = (left : Texts) × FailsOnFile s.base line left × (told ≡ Some (record s { base = base s.base.held left }))
run_leaves NoMemory s line told =
    (told ≡ Some s) ⊎ ((left : Held) × LeavesWithoutMemory s.base line left × (told ≡ Some (record s { base = base left s.base.texts })))

-- the state that is told by what is held, the end of the run and the texts, where the texts are told
abbrev pub told_state : Held → Bool → Option Texts → Option RunState
told_state h ended None = None
told_state h ended (Some texts) = Some (record { base = base h texts; ended = ended })
