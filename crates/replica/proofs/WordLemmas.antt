-- The words of a text, and those after its first one.
use Rattle.std.proofs.Common.{◌≡◌, ◌∙◌, ℕ, ◌+◌, ◌<◌, ◌≤◌, ◌==◌, ◌&&◌, Bor, IfSome, option_map, ◌∷◌, Bool, true, false, ltb, List, [], length, take, drop, Option, Some, None, refl, ap, sym, subst, arith}
use Rattle.std.proofs.lemmas.Grind.{common_steps}
use Rattle.std.proofs.lemmas.Option.{cond_some}
use Rattle.std.proofs.lemmas.Bool.Decides.{nat_tests}
use Rattle.std.proofs.lemmas.List.Splits.{slice_split_first}
use Rattle.std.specs.List.{list_all, position, position_or_len}
use Rattle.std.specs.Option.{option_map_or}
use Rattle.replica.specs.Text.{cut_at_mark, words}
use Rattle.exact.proofs.Items.{untrue_where_none}

-- the words of what is left, where something is
abbrev pub words_left : Option (List ℕ) → List (List ℕ)
words_left left = option_map_or words left []

-- how much is left
abbrev pub measure : Option (List ℕ) → ℕ
measure left = option_map_or (λ text. length text + 1) left 0

abbrev is_space : ℕ → Bool
is_space b = b == 32

one_word : (text : List ℕ) → length text ≤ position_or_len is_space text → words text ≡ text ∷ []
one_word [] h = refl
one_word (x ∷ xs) h = grind (arith, common_steps, one_word xs)

words_none : (text : List ℕ) → position is_space text ≡ None → words text ≡ (cut_at_mark 32 text).0 ∷ words_left (cut_at_mark 32 text).1
words_none text h =
    let past : ltb (position_or_len is_space text) (length text) ≡ false = untrue_where_none (ltb (position_or_len is_space text) (length text)) (position_or_len is_space text) h in
    let one : words text ≡ text ∷ [] = one_word text (grind (arith, nat_tests, past)) in
    rw h one

words_at : (text : List ℕ) (place : ℕ) → position is_space text ≡ Some place → words text ≡ (cut_at_mark 32 text).0 ∷ words_left (cut_at_mark 32 text).1
words_at text place h =
    let found = cond_some (ltb (position_or_len is_space text) (length text)) (position_or_len is_space text) place h in
    let split : words text ≡ take place text ∷ words (drop (place + 1) text) =
    subst (λ (n : ℕ). words text ≡ take n text ∷ words (drop (n + 1) text)) found.1 (slice_split_first is_space text 0 (grind (arith, nat_tests, found.0))) in
    rw h split

-- the first word and those after it
pub words_cut : (text : List ℕ) → words text ≡ (cut_at_mark 32 text).0 ∷ words_left (cut_at_mark 32 text).1
words_cut text = elim (position is_space text) as (λ o. position is_space text ≡ o → words text ≡ (cut_at_mark 32 text).0 ∷ words_left (cut_at_mark 32 text).1) [
  | None ↦ λ h. words_none text h
  | Some place ↦ λ h. words_at text place h
] refl

pub words_are : (left word : List ℕ) (later : Option (List ℕ)) → (word, later) ≡ cut_at_mark 32 left → words left ≡ word ∷ words_left later
words_are left word later h = words_cut left ∙ ap (λ (c : List ℕ × Option (List ℕ)). c.0 ∷ words_left c.1) (sym h)

-- a test of the words, by the first one
pub all_pass : (p : List ℕ → Bool) (left word : List ℕ) (later : Option (List ℕ)) → (word, later) ≡ cut_at_mark 32 left → p word ≡ true → list_all p (words left) ≡ list_all p (words_left later)
all_pass p left word later h passes = ap (λ ws. list_all p ws) (words_are left word later h) ∙ ap (λ (b : Bool). b && list_all p (words_left later)) passes

pub one_fails : (p : List ℕ → Bool) (left word : List ℕ) (later : Option (List ℕ)) → (word, later) ≡ cut_at_mark 32 left → p word ≡ false → list_all p (words left) ≡ false
one_fails p left word later h fails = ap (λ ws. list_all p ws) (words_are left word later h) ∙ ap (λ (b : Bool). b && list_all p (words_left later)) fails

-- one word more is counted
pub one_more : (all count : ℕ) (left word : List ℕ) (later : Option (List ℕ)) → all ≡ count + length (words left) → (word, later) ≡ cut_at_mark 32 left → all ≡ count + 1 + length (words_left later)
one_more all count left word later so_far h =
    let e : length (words left) ≡ length (word ∷ words_left later) = ap (λ ws. length ws) (words_are left word later h) in
    omega (arith, so_far, e)

pub less_left : (rest : Option (Bor (List ℕ))) (n : ℕ) → IfSome rest (λ later. length later.now < n) → measure (option_map (λ later. later.now) rest) ≤ n
less_left None n h = omega arith
less_left (Some later) n h = omega (arith, h)
