-- The names of the files of one folder.
use Rattle.std.specs.Prelude.{◌≡◌, ℕ, Bool, false, ◌||◌, ◌==◌, List, [], codes, IsUtf8}
use Rattle.std.specs.List.{list_any}
use Rattle.std.specs.Str.{bytes_eq}

-- the name is empty, the folder itself or the one above it, or has a `/`, whose code is 47
abbrev pub is_path : List ℕ → Bool
is_path name =
    bytes_eq name [] || bytes_eq name (codes ".") || bytes_eq name (codes "..") || list_any (λ byte. byte == 47) name

-- the name of a file of the folder: a text in UTF-8 that is no path
pub record IsFileName (name : List ℕ) : Type 0 where
  pub plain : is_path name ≡ false
  pub text : IsUtf8 name
