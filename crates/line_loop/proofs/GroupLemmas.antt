-- The first byte of a kind, past bytes that have none of it.
use Rattle.std.proofs.Common.{◌≡◌, ℕ, zero, suc, ◌+◌, ◌-◌, ◌≤◌, List, [], ◌∷◌, Bool, false, true, length, take, drop, not, refl, sym, ap, ◌∙◌, arith, nat_lt, cond}
use Rattle.std.proofs.lemmas.Grind.{common_steps}
use Rattle.std.specs.Prelude.{position}
use Rattle.std.specs.List.{list_any, prefix_len, position_or_len}
use Rattle.std.specs.Option.{option_map}

passed : (p : ℕ → Bool) (xs : List ℕ) (n : ℕ) → n ≤ length xs → list_any p (take n xs) ≡ false
    → prefix_len (λ x. not (p x)) xs ≡ n + prefix_len (λ x. not (p x)) (drop n xs)
passed p xs zero fits none = grind (arith, common_steps)
passed p [] (suc n) fits none = grind (arith, fits)
passed p (x ∷ xs) (suc n) fits none = grind (arith, common_steps, fits, none, passed p xs n)

-- a part of which nothing is of the kind is passed
pub passed_group : (p : ℕ → Bool) (xs : List ℕ) (n : ℕ) → n ≤ length xs → list_any p (take n xs) ≡ false
    → position_or_len p xs ≡ n + position_or_len p (drop n xs)
passed_group p xs n fits none = passed p xs n fits none

-- the place in what is left is as much less as was passed
pub place_behind : (p : ℕ → Bool) (xs rest : List ℕ) → length rest ≤ length xs
    → position_or_len p xs ≡ length xs - length rest + position_or_len p rest
    → position p xs ≡ option_map (λ place. length xs - length rest + place) (position p rest)
place_behind p xs rest fits place = grind (arith, common_steps, fits, place)

-- one more group of this size is passed
pub past_group : (size : ℕ) (p : ℕ → Bool) (bytes rest group later : List ℕ)
    → (length rest ≤ length bytes) × (position_or_len p bytes ≡ length bytes - length rest + position_or_len p rest)
    → (group ≡ take size rest) × (later ≡ drop size rest) × (length later + size ≡ length rest)
    → list_any p group ≡ false
    → (length later ≤ length bytes) × (position_or_len p bytes ≡ length bytes - length later + position_or_len p later)
past_group size p bytes rest group later before (g, l, len) none =
    let fits : size ≤ length rest = omega (arith, len) in
    let moved : position_or_len p rest ≡ size + position_or_len p later =
    passed_group p rest size fits (ap (list_any p) (sym g) ∙ none) ∙ ap (λ r. size + position_or_len p r) (sym l) in
    (omega (arith, before.0, len), omega (arith, before.0, before.1, moved, len))
