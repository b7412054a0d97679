-- Which line of a feed hasn't its form.
use Rattle.std.proofs.Common.{◌≡◌, ℕ, ◌+◌, Bool, true, false, List, [], ◌∷◌, Option, Some, None, cond, refl}
use Rattle.std.specs.List.{position_from}
use Rattle.replica.specs.Copied.{copy_after, starting_after}
use Rattle.replica.specs.Feed.{Hearing, hearing_after, is_broken}
use Rattle.replica.specs.Line.{told_by_line}
use Rattle.replica.specs.declared.copied.Copied.{Copied}

-- the fields of a hearing, of which a line that hasn't its form ends all
abbrev heard : List ℕ → Option Copied → Bool → ℕ → Option ℕ → Hearing
heard name copy starting lines bad = record { name = name; copy = copy; starting = starting; lines = lines; bad = bad }

stays : (name : List ℕ) (copy : Option Copied) (starting : Bool) (n bad : ℕ) (lines : List (List ℕ)) → (hearing_after (heard name copy starting n (Some bad)) lines).bad ≡ Some bad
stays name copy starting n bad [] = refl
stays name copy starting n bad (line ∷ lines) = stays name copy starting n bad lines

pub bad_after : (name : List ℕ) (copy : Option Copied) (starting : Bool) (n : ℕ) (lines : List (List ℕ))
    → (hearing_after (heard name copy starting n None) lines).bad ≡ position_from (λ line. is_broken (told_by_line name line)) (n + 1) lines
bad_after name copy starting n [] = refl
bad_after name copy starting n (line ∷ lines) =
    let told = told_by_line name line in
    elim (is_broken told) as (λ (b : Bool). (hearing_after (heard name (copy_after starting copy told) (starting_after starting told) (n + 1) (cond b (Some (n + 1)) None)) lines).bad
    ≡ cond b (Some (n + 1)) (position_from (λ l. is_broken (told_by_line name l)) (n + 1 + 1) lines)) [
      | true ↦ stays name (copy_after starting copy told) (starting_after starting told) (n + 1) (n + 1) lines
      | false ↦ bad_after name (copy_after starting copy told) (starting_after starting told) (n + 1) lines
    ]
