-- Words that are too short to be reserved.
use Rattle.std.proofs.Common.{◌≡◌, ℕ, ◌≤◌, Bool, true, false, List, [], ◌∷◌, None, length, refl, ap, arith}
use Rattle.std.proofs.lemmas.Grind.{common_steps}
use Rattle.std.specs.Prelude.{bytes_eq, find, is_none, option_map}
use Rattle.case_table.specs.Language.{reserved_words}
use Rattle.case_table.specs.Rows.{code_of}

-- every word has two bytes at least
abbrev are_longer : List (List ℕ × ℕ) → Bool
are_longer [] = true
are_longer (([], code) ∷ rows) = false
are_longer ((b ∷ [], code) ∷ rows) = false
are_longer ((b ∷ c ∷ word, code) ∷ rows) = are_longer rows

not_equal : (b c : ℕ) (word : List ℕ) (x : ℕ) → bytes_eq (b ∷ c ∷ word) (x ∷ []) ≡ false
not_equal b c word x = grind (arith, common_steps)

not_found : (rows : List (List ℕ × ℕ)) → are_longer rows ≡ true → (x : ℕ) → find (λ (r : List ℕ × ℕ). bytes_eq r.0 (x ∷ [])) rows ≡ None
not_found [] longer x = refl
not_found (([], code) ∷ rows) longer x = absurd (cc)
not_found ((b ∷ [], code) ∷ rows) longer x = absurd (cc)
not_found ((b ∷ c ∷ word, code) ∷ rows) longer x = rw (not_equal b c word x) (not_found rows longer x)

-- no reserved word has one byte, or none
pub one_byte : (word : List ℕ) → length word ≤ 1 → is_none (code_of reserved_words word) ≡ true
unfolding reserved_words
one_byte [] short = refl
one_byte (b ∷ []) short = ap (λ found. is_none (option_map (λ r. r.1) found)) (not_found reserved_words refl b)
one_byte (b ∷ c ∷ word) short = absurd (omega (arith, short))
