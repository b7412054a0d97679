-- Bytes that are written one by one, where there is room for them.
use Rattle.std.proofs.Common.{◌≡◌, ℕ, ◌+◌, ◌≤◌, List, ◌++◌, length}

-- with those that are left they are all
pub record IsPushed (before bytes : List ℕ) (had room : ℕ) (rest out : List ℕ) (has space : ℕ) : Type 0 where
  pub whole : out ++ rest ≡ before ++ bytes
  pub long : has + length rest ≡ had + length bytes
  pub same : space ≡ room
  pub fits : has + length rest ≤ space
