-- What is spent on lines, by a count that the handler keeps.
use Rattle.std.specs.Prelude.{ℕ, ◌+◌, List, [], ◌∷◌, if◌then◌else◌}
use Rattle.line_loop.specs.Machine.{Machine}

-- the most that a line may cost, by the state before it
abbrev pub Costs : Type 0 → Type 0
Costs T = T → List ℕ → ℕ

-- the sum over these lines; a machine that is done takes none
abbrev pub total_cost : {T : Type 0} → Machine T → Costs T → T → List (List ℕ) → ℕ
total_cost m cost state [] = 0
total_cost m cost state (line ∷ lines) = if m.done state then 0 else cost state line + total_cost m cost (m.next state line) lines
