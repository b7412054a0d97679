-- Texts of rows have no line feed, and are told as rows.
use Rattle.std.proofs.Common.{◌≡◌, ◌∙◌, ℕ, zero, suc, ◌+◌, ◌<◌, ◌≤◌, ◌==◌, Bool, true, false, ◌&&◌, cond, List, [], ◌∷◌, ◌++◌, length, codes, refl, ap, arith, append-nil}
use Rattle.std.proofs.lemmas.Bool.{and_from, and_parts}
use Rattle.std.proofs.lemmas.Bool.Decides.{nat_tests}
use Rattle.std.proofs.lemmas.List.Folds.{list_all-append}
use Rattle.std.proofs.lemmas.List.Splits.{slice_split_at, slice_split_none}
use Rattle.std.specs.Fmt.{decimal, digit_glyph, digits, digits_onto}
use Rattle.std.specs.List.{flat_map, list_all}
use Rattle.std.specs.Prelude.{◌/◌, ◌%◌, if◌then◌else◌, nat_le, nat_lt}
use Rattle.ftl_lexer.specs.Forms.{continues_name}
use Rattle.formula_shape.specs.declared.limits.TheConstants.{OBJECT_LIMIT}
use Rattle.users.specs.Tagged.{is_no_feed}
use Rattle.line_meaning.specs.Reply.{name_text, run_text}
use Rattle.replica.specs.Text.{is_free_name, is_target, words}
use Rattle.replica.proofs.CallerLemmas.{name_continues, name_spaceless}
use Rattle.feeds_laws.specs.Targets.{target_text}
use Rattle.feeds_laws.proofs.ReadingLemmas.{has_no_feed}

-- ---- No line feed

pub free_both : (xs ys : List ℕ) → has_no_feed xs ≡ true → has_no_feed ys ≡ true → has_no_feed (xs ++ ys) ≡ true
free_both xs ys h k = list_all-append is_no_feed xs ys ∙ and_from (has_no_feed xs) (has_no_feed ys) h k

-- of a number of whatever size
glyph_free : (small : Bool) (d : ℕ) → is_no_feed (cond small (48 + d) (87 + d)) ≡ true
glyph_free true d = grind (arith, nat_tests)
glyph_free false d = grind (arith, nat_tests)

onto_free : (k n : ℕ) (later : List ℕ) → has_no_feed later ≡ true → has_no_feed (digits_onto k 10 false n later) ≡ true
onto_free zero n later free = free
onto_free (suc k) n later free =
    let more : has_no_feed (digit_glyph false (n % 10) ∷ later) ≡ true =
    and_from (is_no_feed (digit_glyph false (n % 10))) (has_no_feed later) (glyph_free (nat_lt (n % 10) 10) (n % 10)) free in
    either (n / 10 == 0) (digit_glyph false (n % 10) ∷ later) (digits_onto k 10 false (n / 10) (digit_glyph false (n % 10) ∷ later)) more (onto_free k (n / 10) (digit_glyph false (n % 10) ∷ later) more)
  where
    either : (b : Bool) (xs ys : List ℕ) → has_no_feed xs ≡ true → has_no_feed ys ≡ true → has_no_feed (if b then xs else ys) ≡ true
    either true xs ys h g = h
    either false xs ys h g = g

pub decimal_free : (n : ℕ) → has_no_feed (decimal n) ≡ true
unfolding digits
decimal_free n = onto_free 64 n [] refl

letter_free : (b : ℕ) → continues_name b ≡ true → is_no_feed b ≡ true
letter_free b h = grind (arith, nat_tests)

letters_free : (word : List ℕ) → list_all continues_name word ≡ true → has_no_feed word ≡ true
letters_free [] h = refl
letters_free (b ∷ word) h =
    let both = and_parts (continues_name b) (list_all continues_name word) h in
    and_from (is_no_feed b) (has_no_feed word) (letter_free b both.0) (letters_free word both.1)

pub name_free : (name : List ℕ) → is_free_name name ≡ true → has_no_feed name ≡ true
name_free name is = letters_free name (name_continues name is)

pub names_free : (names : List (List ℕ)) → list_all is_free_name names ≡ true → has_no_feed (flat_map name_text names) ≡ true
names_free [] all = refl
names_free (name ∷ names) all =
    let both = and_parts (is_free_name name) (list_all is_free_name names) all in
    free_both (name_text name) (flat_map name_text names) (name_free name both.0) (names_free names both.1)

run_free : (run : ℕ × ℕ) → has_no_feed (run_text run) ≡ true
run_free run =
    free_both ((codes " " ++ decimal run.0) ++ codes "..") (decimal run.1)
    (free_both (codes " " ++ decimal run.0) (codes "..") (decimal_free run.0) refl) (decimal_free run.1)

pub runs_free : (runs : List (ℕ × ℕ)) → has_no_feed (flat_map run_text runs) ≡ true
runs_free [] = refl
runs_free (run ∷ runs) = free_both (run_text run) (flat_map run_text runs) (run_free run) (runs_free runs)

-- ---- Targets

abbrev is_space : ℕ → Bool
is_space b = b == 32

-- the words of a target are its names
pub target_words : (name : List ℕ) (names : List (List ℕ)) → is_free_name name ≡ true → list_all is_free_name names ≡ true →
    words (target_text (name ∷ names)) ≡ name ∷ names
target_words name [] is all = ap words (append-nil name) ∙ slice_split_none is_space name (name_spaceless name is)
target_words name (next ∷ names) is all =
    let both = and_parts (is_free_name next) (list_all is_free_name names) all in
    slice_split_at is_space name 32 (target_text (next ∷ names)) (name_spaceless name is) refl
    ∙ ap (λ ws. name ∷ ws) (target_words next names both.0 both.1)

-- one to four names
pub record AreTargets (names : List (List ℕ)) : Type 0 where
  pub each : list_all is_free_name names ≡ true
  pub some : 0 < length names
  pub few : length names ≤ OBJECT_LIMIT

pub targets_words : (names : List (List ℕ)) → AreTargets names → words (target_text names) ≡ names
targets_words [] are = absurd (omega (arith, are.some))
targets_words (name ∷ names) are =
    let both = and_parts (is_free_name name) (list_all is_free_name names) are.each in target_words name names both.0 both.1

pub is_told_target : (names : List (List ℕ)) → AreTargets names → is_target (target_text names) ≡ true
is_told_target names are =
    let words_are = targets_words names are in
    let few : nat_le (length names) OBJECT_LIMIT ≡ true = grind (arith, nat_tests, are.few) in
    ap (λ ws. list_all is_free_name ws && nat_le (length ws) OBJECT_LIMIT) words_are ∙ and_from (list_all is_free_name names) (nat_le (length names) OBJECT_LIMIT) are.each few

-- names with a space before each are a space and the target
pub spaced_target : (names : List (List ℕ)) → 0 < length names → flat_map name_text names ≡ 32 ∷ target_text names
spaced_target [] some = absurd (omega arith)
spaced_target (name ∷ names) some = refl
