-- For the crates above: a line that begins with a word after its blanks begins with it after all its white space.
use Rattle.std.proofs.Common.{◌≡◌, ℕ, true, false, List, [], ◌∷◌, drop, eqb, sym, ◌∙◌, inl, inr, one-add, arith, ap}
use Rattle.std.proofs.lemmas.Bool.{cases_Bool, and_parts}
use Rattle.std.proofs.lemmas.Bool.Decides.{Decides-eqb, nat_tests}
use Rattle.std.specs.Char.{is_ascii_whitespace}
use Rattle.std.specs.List.{prefix_len}
use Rattle.ftl_lexer.specs.Forms.{after_blanks, is_blank}
use Rattle.command_text.specs.FirstWord.{begins_with}

blank_is_white : (c : ℕ) → is_blank c ≡ true → is_ascii_whitespace c ≡ true
blank_is_white c e = grind (arith, nat_tests)

first_is : (c b : ℕ) (line rest : List ℕ) → begins_with (c ∷ line) (b ∷ rest) ≡ true → b ≡ c
first_is c b line rest h = (Decides-eqb b c).0 (and_parts (eqb b c) (begins_with line rest) h).0

-- the word's first byte is no white space
pub begins_trimmed : (line : List ℕ) (b : ℕ) (rest : List ℕ) → is_ascii_whitespace b ≡ false → begins_with (after_blanks line) (b ∷ rest) ≡ true
    → begins_with (drop (prefix_len is_ascii_whitespace line) line) (b ∷ rest) ≡ true
begins_trimmed [] b rest dark h = h
begins_trimmed (c ∷ line) b rest dark h =
    elim (cases_Bool (is_blank c)) [
      | inl blank ↦
          let later : begins_with (after_blanks line) (b ∷ rest) ≡ true = rw (blank, one-add) at h in
          rw (blank_is_white c blank, one-add) (begins_trimmed line b rest dark later)
      | inr other ↦
          let here : begins_with (c ∷ line) (b ∷ rest) ≡ true = rw other at h in
          let same : b ≡ c = first_is c b line rest here in
          let stays : is_ascii_whitespace c ≡ false = sym (ap is_ascii_whitespace same) ∙ dark in
          rw stays here
    ]
