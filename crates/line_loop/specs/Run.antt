-- What a run over an input is to write, under a limit on the bytes that it takes.
use Rattle.std.specs.Prelude.{ℕ, Bool, not, ◌&&◌, List, length, take, nat_lt, if◌then◌else◌}
use Rattle.line_loop.specs.Lines.{ended_lines, lines_of_input}
use Rattle.line_loop.specs.Machine.{Machine, after, replies}

-- the input has more bytes than the limit, and no line that ends within the limit makes the machine done
abbrev pub is_cut_off : {T : Type 0} → Machine T → ℕ → T → List ℕ → Bool
is_cut_off m limit state bytes = nat_lt limit (length bytes) && not (m.done (after m state (ended_lines (take limit bytes))))

-- the lines that are answered: all of them, or those that end within the limit
abbrev pub answered_lines : {T : Type 0} → Machine T → ℕ → T → List ℕ → List (List ℕ)
answered_lines m limit state bytes = if is_cut_off m limit state bytes then ended_lines (take limit bytes) else lines_of_input bytes

-- what is written
abbrev pub output : {T : Type 0} → Machine T → ℕ → T → List ℕ → List ℕ
output m limit state bytes = replies m state (answered_lines m limit state bytes)
