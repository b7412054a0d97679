-- The numbers that are drawn one after another.
use Rattle.std.specs.Prelude.{ℕ, zero, suc, ◌+◌, ◌*◌, ◌/◌, ◌%◌, ◌^◌}

-- where the draws of a number begin
abbrev pub first_draw_state : ℕ → ℕ
first_draw_state number = number % 2 ^ 31

-- each draw goes on to the next state
unfoldable pub next_state : ℕ → ℕ
next_state state = (1103515245 * state + 12345) % 2 ^ 31

-- and gives a number below `most` by the state to which it went on
unfoldable pub drawn : ℕ → ℕ → ℕ
drawn most state = state / 65536 % most

abbrev pub state_after : ℕ → ℕ → ℕ
state_after zero state = state
state_after (suc draws) state = state_after draws (next_state state)

-- the number below `most` that draw `k`, counted from 1, gives after a state
abbrev pub draw : ℕ → ℕ → ℕ → ℕ
draw k most state = drawn most (state_after k state)
