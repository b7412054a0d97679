-- Lines that are told one user of several.
use Rattle.std.specs.Prelude.{◌≡◌, ◌<◌, ◌+◌, ℕ, Bool, not, ◌==◌, List, [], ◌∷◌, ◌++◌, length, take, drop, Option, None, Some, if◌then◌else◌}
use Rattle.std.specs.List.{filter_map, flat_map, prefix_len, starts_with}

abbrev pub is_no_feed : ℕ → Bool
is_no_feed b = not (b == 10)

-- how many bytes stand before the first line feed, or at all
abbrev pub line_len : List ℕ → ℕ
line_len = prefix_len is_no_feed

-- the lines of some bytes, where `begun` has come of the first one: each without its line feed. Bytes that no line feed
-- ends are a line too, unless there are none.
abbrev pub split_lines : List ℕ → List ℕ → List (List ℕ)
split_lines begun [] = if length begun == 0 then [] else begun ∷ []
split_lines begun (b ∷ bytes) = if b == 10 then begun ∷ split_lines [] bytes else split_lines (begun ++ b ∷ []) bytes

abbrev pub lines_in : List ℕ → List (List ℕ)
lines_in bytes = split_lines [] bytes

-- what stands before a user's lines: the user and a space
abbrev pub tag_of : List ℕ → List ℕ
tag_of user = user ++ 32 ∷ []

abbrev pub tagged_line : List ℕ → List ℕ → List ℕ
tagged_line user line = tag_of user ++ (line ++ 10 ∷ [])

-- lines for a user
abbrev pub tagged_lines : List ℕ → List (List ℕ) → List ℕ
tagged_lines user lines = flat_map (tagged_line user) lines

-- each line of some bytes, for a user
abbrev pub tagged : List ℕ → List ℕ → List ℕ
tagged user bytes = tagged_lines user (lines_in bytes)

-- ---- What of some bytes is for a user

-- the line without the tag, where it has it
abbrev pub after_tag : List ℕ → List ℕ → Option (List ℕ)
after_tag tag line = if starts_with ◌==◌ line tag then Some (drop (length tag) line) else None

-- the lines for a user, without the user
abbrev pub lines_for : List ℕ → List ℕ → List (List ℕ)
lines_for user bytes = filter_map (after_tag (tag_of user)) (lines_in bytes)

-- the first line of some bytes, and what stands after its line feed
pub record IsFirstLine (bytes line rest : List ℕ) : Type 0 where
  pub some : 0 < length bytes
  pub line_is : line ≡ take (line_len bytes) bytes
  pub rest_is : rest ≡ drop (line_len bytes + 1) bytes
