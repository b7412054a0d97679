-- The lines by their places.
use Rattle.std.proofs.Common.{◌≡◌, ℕ, ◌+◌, ◌-◌, ◌<◌, ◌≤◌, ◌%◌, ◌==◌, ◌∙◌, List, [], ◌∷◌, length, map, drop, get_or, slice_get, Option, Some, None, refl, ap, sym, arith, inl, inr, ◌⊎◌, true, false, leb, nat_eq, nat_lt, if◌then◌else◌, suc, zero}
use Rattle.std.proofs.lemmas.Grind.{common_steps}
use Rattle.std.proofs.lemmas.Bool.Decides.{nat_tests}
use Rattle.std.proofs.lemmas.Option.{slice_get-get_or, slice_get_past}
use Rattle.std.proofs.lemmas.List.FromFn.{get_or-map-range_with_len}
use Rattle.std.specs.List.{range_with_len}
use Rattle.std.specs.Option.{option_map_or}
use Rattle.generator.specs.declared.plan.Line.{Line}
use Rattle.generator.specs.declared.plan.Line.TheVariants as lines
use Rattle.generator.specs.Draws.{state_after, first_draw_state}
use Rattle.generator.specs.Lines.{plan, lines_from, lines_of, line_text, draws_of}

-- how the line at a place is found
abbrev planned : ℕ → Option Line
planned place =
    if place == 0 then Some lines.Class
    else if nat_lt place 21 then Some (lines.Region (place - 1))
    else if nat_lt place 221 then Some (lines.Insert (place - 21))
    else if nat_lt place 224 then Some (lines.Watch (place - 221))
    else if nat_lt place 884 then Some (if (place - 224) % 11 == 0 then lines.Tick else lines.Update)
    else if nat_lt place 887 then Some (lines.Show (place - 884))
    else None

-- the line at a place, where there is one
abbrev line_or_tick : ℕ → Line
line_or_tick place = option_map_or (λ line. line) (planned place) lines.Tick

plan_is : plan ≡ map line_or_tick (range_with_len 0 887)
unfolding plan
plan_is = refl

plan_length : length plan ≡ 887
unfolding plan
plan_length = refl

within_plan : (place : ℕ) → place < 887 → planned place ≡ Some (line_or_tick place)
within_plan place h = grind (arith, h)

past_plan : (place : ℕ) → 887 ≤ place → planned place ≡ None
past_plan place h = grind (arith, h)

le_or_lt : (a b : ℕ) → (a ≤ b) ⊎ (b < a)
le_or_lt a b = elim (leb a b) as (λ t. leb a b ≡ t → (a ≤ b) ⊎ (b < a)) [ true ↦ λ e. inl (grind (arith, e)) | false ↦ λ e. inr (grind (arith, e)) ] refl

pub as_planned : (place : ℕ) → slice_get plan place ≡ planned place
as_planned place = elim (le_or_lt 887 place) [
  | inl past ↦ slice_get_past plan place (omega (arith, plan_length, past)) ∙ sym (past_plan place past)
  | inr within ↦
      slice_get-get_or plan place lines.Tick (omega (arith, plan_length, within))
      ∙ ap Some (ap (λ ls. get_or ls place lines.Tick) plan_is ∙ get_or-map-range_with_len line_or_tick 0 887 place place lines.Tick within (omega arith))
      ∙ sym (within_plan place within)
]

pub in_a_round : (place : ℕ) → 224 ≤ place → place < 884 → Some (if (place - 224) % 11 == 0 then lines.Tick else lines.Update) ≡ slice_get plan place
in_a_round place after before =
    let here : planned place ≡ Some (if (place - 224) % 11 == 0 then lines.Tick else lines.Update) = planned_in_a_round place ((place - 224) % 11) after before refl in
    sym (as_planned place ∙ here)
  where
    planned_in_a_round : (place k : ℕ) → 224 ≤ place → place < 884 → (place - 224) % 11 ≡ k → planned place ≡ Some (if k == 0 then lines.Tick else lines.Update)
    planned_in_a_round place k after before is =
        let a : nat_eq place 0 ≡ false = grind (arith, nat_tests, after) in
        let b : nat_lt place 21 ≡ false = grind (arith, nat_tests, after) in
        let c : nat_lt place 221 ≡ false = grind (arith, nat_tests, after) in
        let d : nat_lt place 224 ≡ false = grind (arith, nat_tests, after) in
        let e : nat_lt place 884 ≡ true = grind (arith, nat_tests, before) in
        rw (a, b, c, d, e, is) refl

-- the list from a place on begins with what stands there
drop_at : {A : Type 0} → (xs : List A) (i : ℕ) (x : A) → slice_get xs i ≡ Some x → drop i xs ≡ x ∷ drop (i + 1) xs
drop_at [] i x h = absurd (cc h)
drop_at (y ∷ xs) zero x h = grind (arith, common_steps, h)
drop_at (y ∷ xs) (suc i) x h = grind (arith, common_steps, drop_at xs i x h)

nothing_from : {A : Type 0} → (xs : List A) (i : ℕ) → slice_get xs i ≡ None → drop i xs ≡ []
nothing_from [] i h = grind (arith, common_steps)
nothing_from (y ∷ xs) zero h = absurd (cc h)
nothing_from (y ∷ xs) (suc i) h = grind (arith, common_steps, nothing_from xs i h)

pub none_left : (state place : ℕ) → slice_get plan place ≡ None → lines_from state (drop place plan) ≡ []
none_left state place h = ap (lines_from state) (nothing_from plan place h)

pub next_is : (state place : ℕ) (line : Line) → slice_get plan place ≡ Some line →
    lines_from state (drop place plan) ≡ line_text line state ∷ lines_from (state_after (draws_of line) state) (drop (place + 1) plan)
next_is state place line h = ap (lines_from state) (drop_at plan place line h)

length-lines_from : (state : ℕ) (rest : List Line) → length (lines_from state rest) ≡ length rest
length-lines_from state [] = refl
length-lines_from state (line ∷ rest) = ap suc (length-lines_from (state_after (draws_of line) state) rest)

pub lines_are_so_many : (number : ℕ) → length (lines_of number) ≡ 887
unfolding lines_of
lines_are_so_many number = length-lines_from (first_draw_state number) plan ∙ plan_length
