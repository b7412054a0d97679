-- How many looks at timelines and at the journal's entries a run may take.
use Rattle.std.specs.Prelude.{◌≡◌, ℕ, ◌+◌, ◌≤◌, List, [], ◌∷◌, Option, None, Some}
use Rattle.outside.specs.Shelf.{Texts}
use Rattle.line_loop.specs.Run.{answered_lines}
use Rattle.line_loop.specs.Spending.{total_cost}
use Rattle.line_meaning.specs.Step.{Base, held, step}
use Rattle.session.specs.Loads.{looks_of_loading}
use Rattle.generator.specs.Lines.{lines_of}
use Rattle.run_ends.specs.Whole.{Plan, Says, Answers}
use Rattle.domino_run.specs.Machine.{RunState, looks_of_line, run_cost, run_machine}
use Rattle.domino_run.specs.Summary.{first_state}
use Rattle.domino_run.specs.Whole.{plan_stored, started}
use Rattle.domino_run.specs.Words.{Words, Bad, Plain, Generated, Stored}

-- those of these lines, one after another
abbrev pub looks_of_lines : Base → List (List ℕ) → ℕ
looks_of_lines b [] = 0
looks_of_lines b (line ∷ lines) = looks_of_line b line + looks_of_lines (step b line).0 lines

-- those of the lines that a run answers, from a state on
abbrev pub looks_of_input : RunState → ℕ → List ℕ → ℕ
looks_of_input start limit bytes = total_cost run_machine run_cost start (answered_lines run_machine limit start bytes)

-- those of the loading of a session, by its text
abbrev pub looks_of_text : Option (List ℕ) → ℕ
looks_of_text None = 0
looks_of_text (Some text) = looks_of_loading text

-- those of a plan: what is said looks at nothing
abbrev pub looks_of_plan : Plan RunState → ℕ → List ℕ → ℕ
looks_of_plan (Says said status) limit bytes = 0
looks_of_plan (Answers start) limit bytes = looks_of_input start limit bytes

-- With bad words nothing is looked at. A session that is stored is loaded first, and then the lines are answered.
abbrev pub LooksWithin : Words → ℕ → List ℕ → Texts → ℕ → ℕ → Type 0
LooksWithin Bad limit bytes texts old new = new ≡ old
LooksWithin Plain limit bytes texts old new = new ≤ old + looks_of_input (started (held []) texts) limit bytes
LooksWithin (Generated number) limit bytes texts old new = new ≤ old + looks_of_lines first_state.0 (lines_of number)
LooksWithin (Stored name) limit bytes texts old new =
    new ≤ old + (looks_of_text (texts name) + looks_of_plan (plan_stored (texts name) texts) limit bytes)
