-- The part of a line that is kept.
use Rattle.std.specs.Prelude.{◌≡◌, ℕ, ◌+◌, ◌<◌, ◌⊎◌, List, length, take, Option, None, Some}

-- the line is longer than the longest one whose bytes matter; where there is no longest one, none is
abbrev pub IsLonger : Option ℕ → List ℕ → Type 0
IsLonger None line = ⊥
IsLonger (Some longest) line = longest < length line

-- the line itself, or one that is longer than the longest as the line is
abbrev pub IsKeptLine : Option ℕ → List ℕ → List ℕ → Type 0
IsKeptLine longest kept line = (kept ≡ line) ⊎ (IsLonger longest kept × IsLonger longest line)

-- What is kept of a line that isn't ended: two bytes more than the longest has, which show that it is longer, also without
-- a carriage return. Where there is no longest one, all of it.
abbrev pub kept_part : Option ℕ → List ℕ → List ℕ
kept_part None line = line
kept_part (Some longest) line = take (longest + 2) line

-- the bytes of a line that are kept so far
pub record LineView : Type 0 where
  pub kept : List ℕ
  pub longest : Option ℕ
