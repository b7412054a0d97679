-- How many bytes stand before the first line feed, past groups that have none.
use Rattle.std.proofs.Common.{◌≡◌, ℕ, zero, suc, ◌+◌, ◌-◌, ◌≤◌, List, [], ◌∷◌, Some, None, false, length, take, drop, sym, ap, ◌∙◌, arith}
use Rattle.std.proofs.lemmas.Grind.{common_steps}
use Rattle.std.specs.Prelude.{◌==◌, position}
use Rattle.std.specs.List.{list_any}
use Rattle.users.specs.Tagged.{line_len}

passed : (bytes : List ℕ) (n : ℕ) → n ≤ length bytes → list_any (λ byte. byte == 10) (take n bytes) ≡ false
    → line_len bytes ≡ n + line_len (drop n bytes)
passed bytes zero fits none = grind (arith, common_steps)
passed [] (suc n) fits none = grind (arith, fits)
passed (b ∷ bytes) (suc n) fits none = grind (arith, common_steps, fits, none, passed bytes n)

-- one more group of this size is passed
pub past_group : (size : ℕ) (bytes rest group later : List ℕ)
    → (length rest ≤ length bytes) × (line_len bytes ≡ length bytes - length rest + line_len rest)
    → (group ≡ take size rest) × (later ≡ drop size rest) × (length later + size ≡ length rest)
    → list_any (λ byte. byte == 10) group ≡ false
    → (length later ≤ length bytes) × (line_len bytes ≡ length bytes - length later + line_len later)
past_group size bytes rest group later before (g, l, len) none =
    let fits : size ≤ length rest = omega (arith, len) in
    let moved : line_len rest ≡ size + line_len later =
    passed rest size fits (ap (list_any (λ byte. byte == 10)) (sym g) ∙ none) ∙ ap (λ r. size + line_len r) (sym l) in
    (omega (arith, before.0, len), omega (arith, before.0, before.1, moved, len))

pub len_within : (bytes : List ℕ) → line_len bytes ≤ length bytes
len_within [] = omega arith
len_within (b ∷ bytes) = grind (arith, common_steps, len_within bytes)

-- the place of the first line feed tells it, and where there is none it is that of all bytes
pub found_len : (bytes : List ℕ) (place : ℕ) → position (λ byte. byte == 10) bytes ≡ Some place → place ≡ line_len bytes
found_len bytes place found = grind (arith, common_steps, found)

pub whole_len : (bytes : List ℕ) → position (λ byte. byte == 10) bytes ≡ None → length bytes ≡ line_len bytes
whole_len bytes none = grind (arith, common_steps, none, len_within bytes)
