-- Which statuses come with which words, and what is taken of the input.
use Rattle.std.specs.Prelude.{◌≡◌, ℕ, Bool, true, false, List, Option, Some}
use Rattle.line_loop.specs.Ending as loop
use Rattle.run_ends.specs.declared.status.Status.{Status}
use Rattle.run_ends.specs.declared.status.Status.TheVariants.{Done, BadWords, BadSession, WriteFault, NoMemory}
use Rattle.run_ends.specs.Status.{ending_by}
use Rattle.domino_run.specs.Words.{Words, Bad, Plain, Generated, Stored}

-- Which statuses may come with which words. What is said may fail or want memory, and reads nothing.
abbrev pub allows_status : Words → Status → Bool
allows_status Bad BadWords = true
allows_status Bad WriteFault = true
allows_status Bad NoMemory = true
allows_status Bad _ = false
allows_status Plain BadWords = false
allows_status Plain BadSession = false
allows_status Plain _ = true
allows_status (Stored name) BadWords = false
allows_status (Stored name) _ = true
allows_status (Generated number) Done = true
allows_status (Generated number) WriteFault = true
allows_status (Generated number) NoMemory = true
allows_status (Generated number) _ = false

-- whether a text is fetched before the first line
abbrev pub opens_text : Words → Bool
opens_text (Stored name) = true
opens_text _ = false

-- No byte past the limit is taken, but for the one that shows that there is another, and of a bad session none.
abbrev pub TakesWithin : ℕ → List ℕ → Status → Option (List ℕ) → Type 0
TakesWithin limit bytes BadSession left = left ≡ Some bytes
TakesWithin limit bytes status left = loop.KeepsLimit limit bytes (ending_by status) left

-- With bad words and for the generator's lines nothing is read.
abbrev pub KeepsLimitFor : Words → ℕ → List ℕ → Status → Option (List ℕ) → Type 0
KeepsLimitFor Bad limit bytes status left = left ≡ Some bytes
KeepsLimitFor (Generated number) limit bytes status left = left ≡ Some bytes
KeepsLimitFor Plain limit bytes status left = TakesWithin limit bytes status left
KeepsLimitFor (Stored name) limit bytes status left = TakesWithin limit bytes status left
