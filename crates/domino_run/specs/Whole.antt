-- What a run does by its words.
use Rattle.std.specs.Prelude.{ℕ, false, Option, None, Some, List, [], ◌∷◌, ◌++◌, codes}
use Rattle.outside.specs.Shelf.{Texts}
use Rattle.line_meaning.specs.Loading.{Loading, Loaded, BadLine, loading_of}
use Rattle.line_meaning.specs.Step.{Held, base, held}
use Rattle.domino_run.specs.Machine.{RunState}
use Rattle.domino_run.specs.Summary.{number_line, summary}
use Rattle.domino_run.specs.Words.{Words, Bad, Plain, Generated, Stored}
use Rattle.run_ends.specs.declared.status.Status.TheVariants.{Done, BadWords, BadSession}
use Rattle.run_ends.specs.Whole.{Plan, Says, Answers}

abbrev pub bad_words : List ℕ
bad_words = codes "bad words" ++ 10 ∷ []

-- with the number of the line of its first fault, or with 0 where there is no text
abbrev pub bad_session : ℕ → List ℕ
bad_session number = number_line (codes "bad session ") number

-- the state before the first line
abbrev pub started : Held → Texts → RunState
started h texts = record { base = base h texts; ended = false }

abbrev pub plan_loaded : Loading → Texts → Plan RunState
plan_loaded (Loaded journal) texts = Answers (started (held journal) texts)
plan_loaded (BadLine number) texts = Says (bad_session number) BadSession

abbrev pub plan_stored : Option (List ℕ) → Texts → Plan RunState
plan_stored None texts = Says (bad_session 0) BadSession
plan_stored (Some text) texts = plan_loaded (loading_of text) texts

-- the words have something said, or the lines of the input answered
abbrev pub plan_of : Words → Texts → Plan RunState
plan_of Bad texts = Says bad_words BadWords
plan_of Plain texts = Answers (started (held []) texts)
plan_of (Generated number) texts = Says (summary number) Done
plan_of (Stored name) texts = plan_stored (texts name) texts
