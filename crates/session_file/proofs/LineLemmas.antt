-- The first line of a text, and the lines after it.
use Rattle.std.proofs.Common.{◌≡◌, ℕ, ◌+◌, ◌<◌, ◌≤◌, ◌==◌, ◌∙◌, Bool, true, false, cond, ltb, List, [], ◌∷◌, length, take, drop, Some, None, refl, ap, sym, subst, arith}
use Rattle.std.proofs.lemmas.Grind.{common_steps}
use Rattle.std.proofs.lemmas.Option.{cond_some}
use Rattle.std.proofs.lemmas.Bool.Decides.{nat_tests}
use Rattle.std.proofs.lemmas.List.Splits.{slice_split_first}
use Rattle.std.specs.List.{slice_split, onto_first, position, position_or_len}
use Rattle.std.specs.Str.Lines.{lines, lines_of_parts, strip_carriage_return}
use Rattle.exact.proofs.Items.{untrue_where_none}

abbrev is_feed : ℕ → Bool
is_feed b = b == 10

abbrev parts_of : List ℕ → List (List ℕ)
parts_of text = slice_split is_feed text

-- there is at least one part
is_parted : (text : List ℕ) → (part : List ℕ) × (parts : List (List ℕ)) × (parts_of text ≡ part ∷ parts)
is_parted [] = ([], [], refl)
is_parted (x ∷ xs) = elim (is_feed x) as (λ b. (part : List ℕ) × (parts : List (List ℕ)) × (cond b ([] ∷ parts_of xs) (onto_first x (parts_of xs)) ≡ part ∷ parts)) [
  | true ↦ ([], parts_of xs, refl)
  | false ↦ let rest = is_parted xs in (x ∷ rest.0, rest.1, ap (onto_first x) rest.2)
]

-- a part before another is a line
pub part_before : (part : List ℕ) (text : List ℕ) → lines_of_parts (part ∷ parts_of text) ≡ strip_carriage_return part ∷ lines text
part_before part text =
    let rest = is_parted text in
    subst (λ (ps : List (List ℕ)). lines_of_parts (part ∷ ps) ≡ strip_carriage_return part ∷ lines_of_parts ps) (sym rest.2) refl

found_at : (text : List ℕ) (end : ℕ) → position is_feed text ≡ Some end → (position_or_len is_feed text ≡ end) × (position_or_len is_feed text < length text)
found_at text end h =
    let found = cond_some (ltb (position_or_len is_feed text) (length text)) (position_or_len is_feed text) end h in
    (found.1, grind (arith, nat_tests, found.0))

pub lines_ended : (text : List ℕ) (end : ℕ) → position (λ b. b == 10) text ≡ Some end →
    lines text ≡ strip_carriage_return (take end text) ∷ lines (drop (end + 1) text)
lines_ended text end h =
    let found = found_at text end h in
    let split : parts_of text ≡ take end text ∷ parts_of (drop (end + 1) text) =
    subst (λ (n : ℕ). parts_of text ≡ take n text ∷ parts_of (drop (n + 1) text)) found.0 (slice_split_first is_feed text 0 found.1) in
    ap lines_of_parts split ∙ part_before (take end text) (drop (end + 1) text)

pub end_within : (text : List ℕ) (end : ℕ) → position (λ b. b == 10) text ≡ Some end → end < length text
end_within text end h = let found = found_at text end h in omega (arith, found.0, found.1)

one_part : (text : List ℕ) → length text ≤ position_or_len is_feed text → parts_of text ≡ text ∷ []
one_part [] h = refl
one_part (x ∷ xs) h = grind (arith, common_steps, one_part xs)

pub lines_open : (text : List ℕ) → position (λ b. b == 10) text ≡ None → (length text == 0) ≡ false → lines text ≡ text ∷ []
lines_open text h some =
    let past : ltb (position_or_len is_feed text) (length text) ≡ false = untrue_where_none (ltb (position_or_len is_feed text) (length text)) (position_or_len is_feed text) h in
    ap lines_of_parts (one_part text (grind (arith, nat_tests, past))) ∙ ap (λ b. cond b [] (text ∷ [])) some

-- a text that isn't empty has a line
pub has_lines : (text : List ℕ) → (length text == 0) ≡ false → (line : List ℕ) × (rest : List (List ℕ)) × (lines text ≡ line ∷ rest)
has_lines text some = elim (position is_feed text) as (λ o. position is_feed text ≡ o → (line : List ℕ) × (rest : List (List ℕ)) × (lines text ≡ line ∷ rest)) [
  | None ↦ λ h. (text, [], lines_open text h some)
  | Some end ↦ λ h. (strip_carriage_return (take end text), lines (drop (end + 1) text), lines_ended text end h)
] refl

pub no_lines : (text : List ℕ) → (length text == 0) ≡ true → lines text ≡ []
no_lines [] none = refl
no_lines (x ∷ xs) none =
    let some : (length (x ∷ xs) == 0) ≡ false = grind (arith, nat_tests) in
    let clash : true ≡ false = sym none ∙ some in
    absurd (cc clash)

pub ruleset line_steps = (lines_ended, end_within, lines_open, no_lines)
