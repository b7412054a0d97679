-- What is written to the end of a buffer leaves what was there in front.
use Rattle.std.specs.Prelude.{◌≡◌, ℕ, take, length, List}

abbrev pub Begins : List ℕ → List ℕ → Type 0
Begins old new = take (length old) new ≡ old
