-- Two lists side by side.
use Rattle.std.specs.Prelude.{List, length, ◌≡◌}

-- they are equally long
abbrev pub SameLength : {A B : Type 0} → List A → List B → Type 0
SameLength xs ys = length xs ≡ length ys
