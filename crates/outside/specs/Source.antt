-- What a read does to the bytes that a source has left, where they are told. `None` claims nothing.
use Rattle.std.specs.Prelude.{◌≡◌, ℕ, ◌≤◌, List, [], length, take, drop, Option, Some, Result, MatchResult}

-- n bytes moved from the front of what was left to the front of the buffer, and none only at the end; a failure moves none
abbrev pub Reads : {E : Type 0} → Option (List ℕ) → Option (List ℕ) → Result ℕ E → List ℕ → Type 0
Reads old new result buf = MatchResult result
    (λ n. (bytes : List ℕ) → old ≡ Some bytes →
    (new ≡ Some (drop n bytes)) × (take n buf ≡ take n bytes) × (n ≤ length bytes) × (n ≡ 0 → bytes ≡ []))
    (λ _. new ≡ old)
