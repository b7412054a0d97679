-- A line machine: it takes a line at a time, replies, and may be done.
use Rattle.std.specs.Prelude.{◌≡◌, ℕ, Bool, List, [], ◌∷◌, ◌++◌, Option, Some, Result, MatchResult, if◌then◌else◌}
use Rattle.outside.specs.declared.fault.OutFail.{OutFail}

-- the state after a line, the reply to it, and whether the machine takes no more lines
pub record Machine (T : Type 0) : Type 0 where
  pub next : T → List ℕ → T
  pub reply : T → List ℕ → List ℕ
  pub done : T → Bool

-- the state after these lines; a machine that is done takes none
abbrev pub after : {T : Type 0} → Machine T → T → List (List ℕ) → T
after m state [] = state
after m state (line ∷ lines) = if m.done state then state else after m (m.next state line) lines

-- the replies to these lines, one after another
abbrev pub replies : {T : Type 0} → Machine T → T → List (List ℕ) → List ℕ
replies m state [] = []
replies m state (line ∷ lines) =
    if m.done state then [] else m.reply state line ++ replies m (m.next state line) lines

-- what a failure on a line may leave of the state before it; the state after it is None where the outside tells nothing
abbrev pub Failures : Type 0 → Type 1
Failures T = OutFail → T → List ℕ → Option T → Type 0

-- a line was answered: the reply was appended and the state is the next, or the failure left what it may leave
abbrev pub AnswersLine : {T U : Type 0} → Machine T → Failures T → T → List ℕ → Result U OutFail → List ℕ → List ℕ → Option T → Type 0
AnswersLine m leaves state line result old new told =
    MatchResult result (λ _. (new ≡ old ++ m.reply state line) × (told ≡ Some (m.next state line))) (λ fail. leaves fail state line told)

-- neither the steps of the machine nor its failures tell one line from the other
pub record StepsAlike {T : Type 0} (m : Machine T) (leaves : Failures T) (a b : List ℕ) : Type 0 where
  pub next : (state : T) → m.next state a ≡ m.next state b
  pub reply : (state : T) → m.reply state a ≡ m.reply state b
  pub failure : (fail : OutFail) (state : T) (told : Option T) → leaves fail state a told → leaves fail state b told
