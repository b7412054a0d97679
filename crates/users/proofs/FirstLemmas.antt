-- The first line of some bytes, written byte by byte.
use Rattle.std.proofs.Common.{◌≡◌, ℕ, ◌+◌, ◌-◌, ◌*◌, ◌<◌, ◌≤◌, List, ◌++◌, length, take, drop, arith}
use Rattle.users.specs.Tagged.{line_len}

-- with what is left of the first line it is the whole, and what stands after it is the same
pub record IsFirstPart (before bytes : List ℕ) (had room : ℕ) (rest out : List ℕ) (has space : ℕ) : Type 0 where
  pub whole : out ++ take (line_len rest) rest ≡ before ++ take (line_len bytes) bytes
  pub later : drop (line_len rest + 1) rest ≡ drop (line_len bytes + 1) bytes
  pub long : has + line_len rest ≡ had + line_len bytes
  pub same : space ≡ room
  pub fits : has + length rest < space

-- a line with its user is at most what its bytes may come to
pub room_left : (has user line left more later space : ℕ) → has + left * 11 ≤ space → user ≤ 8 → 0 < left → line ≤ left
    → more ≡ has + user + 1 + line + 1 → later ≡ left - (line + 1) → more + later * 11 ≤ space
room_left has user line left more later space room short some within grown rest = omega (arith, room, short, some, within, grown, rest)
