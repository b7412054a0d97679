-- For this crate and for the crates above: no token of a line is the front of a longer one.
use Rattle.std.proofs.Common.{◌≡◌, ℕ, zero, suc, ◌+◌, ◌-◌, ◌<◌, ◌≤◌, List, [], ◌∷◌, ◌++◌, Option, Some, None, Ok, Err, Result, length, drop, take, Bool, true, false, not, ◌&&◌, refl, sym, ◌∙◌, ap, subst, arith, inl, inr, eqb, ltb}
use Rattle.std.specs.Prelude.{◌==◌, nat_le, option_map, if◌then◌else◌}
use Rattle.std.specs.List.{AllByRecursion, prefix_len, list_all}
use Rattle.std.specs.Option.{option_map_or}
use Rattle.std.specs.Result.{result_unwrap_or}
use Rattle.std.specs.Char.{is_ascii_digit}
use Rattle.std.specs.Str.{bytes_eq}
use Rattle.std.proofs.lemmas.Bool.{cases_Bool, and_from, and_parts}
use Rattle.std.proofs.lemmas.Bool.Decides.{nat_tests, Decides-eqb}
use Rattle.std.proofs.lemmas.List.{drop-drop, drop-take, length-take-le, take-append-drop}
use Rattle.std.proofs.lemmas.Slice.Eq.{bytes_eq-Decides}
use Rattle.std.proofs.Math.Numerals.{one-add}
use borrow.Author.Tests.{ltb-true}
use Rattle.case_table.specs.Rows.{code_of}
use Rattle.case_table.specs.Language.{reserved_words, symbols}
use Rattle.ftl_lexer.specs.declared.kinds.Kind.{Kind}
use Rattle.ftl_lexer.specs.declared.kinds.Kind.TheVariants.{Name, Number, Text, Sym, Key}
use Rattle.ftl_lexer.specs.declared.kinds.Token.{Token}
use Rattle.ftl_lexer.specs.Forms.{is_blank, begins_name, continues_name, is_quote, name_len, digits_len, fraction_len, number_len, text_len, single_symbol, symbol_at, token_at}
use Rattle.ftl_lexer.specs.Cut.{is_word, is_number, IsQuoted, HasForm}
use Rattle.ftl_lexer.specs.Tokens.{lexed, with_first_token, tokens_of, bad_place}
use Rattle.ftl_lexer.specs.Laws.{IsLongest, AreTokens}
use Rattle.ftl_lexer.proofs.Steps.{none_is_some, then_part, else_part, len_is, begins_continues, token_at_within}
use Rattle.ftl_lexer.proofs.Shapes.{prefix_len_take, tokens_have_forms}
use Rattle.ftl_lexer.proofs.Fronts.{quote_is, begins_with_digit, token_number, token_quote, text_len_append}
use Rattle.ftl_lexer.proofs.Spans.{spans_ascend, gaps_are_blank}
use Rattle.exact.proofs.Truths.{false_from_not}

-- ---- a front of which all passes

front_passes : (p : ℕ → Bool) (n : ℕ) (bytes : List ℕ) → n ≤ length bytes → list_all p (take n bytes) ≡ true → n ≤ prefix_len p bytes
front_passes p zero bytes within all = omega arith
front_passes p (suc n) [] within all = absurd (omega arith)
front_passes p (suc n) (b ∷ bytes) within all =
    let parts = and_parts (p b) (list_all p (take n bytes)) all in
    let more : n ≤ prefix_len p bytes = front_passes p n bytes (omega arith) parts.1 in
    rw (parts.0, one-add) (omega (arith, more))

-- a word of some rows passes what each of them passes
pub row_is : (p : List ℕ → Bool) (rows : List (List ℕ × ℕ)) (word : List ℕ) (code : ℕ) → list_all (λ r. p r.0) rows ≡ true
    → code_of rows word ≡ Some code → p word ≡ true
row_is p [] word code all is = let bad : None ≡ Some code = is in absurd (cc)
row_is p (r ∷ rows) word code all is =
    let parts = and_parts (p r.0) (list_all (λ s. p s.0) rows) all in
    elim (cases_Bool (bytes_eq r.0 word)) [
      | inl here ↦ subst (λ (w : List ℕ). p w ≡ true) ((bytes_eq-Decides r.0 word).0 here) parts.0
      | inr other ↦ row_is p rows word code parts.1 (rw other at is)
    ]

-- ---- names and reserved words

word_len : (b : ℕ) (bytes : List ℕ) (kind : Kind) (len : ℕ) → begins_name b ≡ true → token_at (b ∷ bytes) ≡ Some (kind, len) → name_len (b ∷ bytes) ≡ len
unfolding token_at
word_len b bytes kind len begins found = len_is _ kind (name_len (b ∷ bytes)) len (then_part (begins_name b) _ _ _ begins found)

longest_word : (n b : ℕ) (bytes : List ℕ) (kind : Kind) (len : ℕ) → suc n ≤ suc (length bytes) → is_word (b ∷ take n bytes) ≡ true
    → token_at (b ∷ bytes) ≡ Some (kind, len) → suc n ≤ len
longest_word n b bytes kind len within is found =
    let parts = and_parts (begins_name b) (list_all continues_name (take n bytes)) is in
    let all : list_all continues_name (take (suc n) (b ∷ bytes)) ≡ true =
    and_from (continues_name b) (list_all continues_name (take n bytes)) (begins_continues b parts.0) parts.1 in
    let most : suc n ≤ name_len (b ∷ bytes) = front_passes continues_name (suc n) (b ∷ bytes) within all in
    let count : name_len (b ∷ bytes) ≡ len = word_len b bytes kind len parts.0 found in
    omega arith

reserved_is_word : (word : List ℕ) (code : ℕ) → code_of reserved_words word ≡ Some code → is_word word ≡ true
unfolding reserved_words
reserved_is_word word code is = row_is is_word reserved_words word code refl is

-- ---- numbers

fraction_grows : (a b : ℕ) → a ≤ b → (if a == 0 then 0 else 1 + a) ≤ (if b == 0 then 0 else 1 + b)
fraction_grows a b less = grind (arith, nat_tests, less)

front_len : (p : ℕ → Bool) (n : ℕ) (bytes : List ℕ) → prefix_len p (take n bytes) ≤ prefix_len p bytes
front_len p zero bytes = omega arith
front_len p (suc n) [] = omega arith
front_len p (suc n) (b ∷ bytes) =
    let less : prefix_len p (take n bytes) ≤ prefix_len p bytes = front_len p n bytes in
    elim (cases_Bool (p b)) [
      | inl passes ↦ rw passes (omega arith)
      | inr fails ↦ rw fails (omega arith)
    ]

fraction_front : (n : ℕ) (bytes : List ℕ) → fraction_len (take n bytes) ≤ fraction_len bytes
fraction_front zero bytes = omega arith
fraction_front (suc n) [] = omega arith
fraction_front (suc n) (b ∷ bytes) =
    elim (cases_Bool (eqb b 46)) [
      | inl point ↦ rw point (fraction_grows (digits_len (take n bytes)) (digits_len bytes) (front_len is_ascii_digit n bytes))
      | inr other ↦ rw other (omega arith)
    ]

number_past_digits : (bytes : List ℕ) (more : ℕ) → number_len (take (digits_len bytes + more) bytes) ≤ number_len bytes
number_past_digits bytes more =
    let front : List ℕ = take (digits_len bytes + more) bytes in
    let digits : digits_len front ≡ digits_len bytes = prefix_len_take is_ascii_digit bytes more in
    let rest : drop (digits_len bytes) front ≡ take more (drop (digits_len bytes) bytes) = drop-take (digits_len bytes) more bytes in
    let whole : number_len front ≡ digits_len bytes + fraction_len (take more (drop (digits_len bytes) bytes)) =
    ap (λ (d : ℕ). d + fraction_len (drop d front)) digits ∙ ap (λ (x : List ℕ). digits_len bytes + fraction_len x) rest in
    omega (arith, whole, fraction_front more (drop (digits_len bytes) bytes))

number_front : (n : ℕ) (bytes : List ℕ) → n ≤ length bytes → number_len (take n bytes) ≡ n → n ≤ number_len bytes
number_front n bytes within all =
    elim (cases_Bool (ltb (digits_len bytes) n)) [
      | inl past ↦
          let less : digits_len bytes < n = ltb-true (digits_len bytes) n past in
          let count : digits_len bytes + (n - digits_len bytes) ≡ n = omega arith in
          let most : number_len (take n bytes) ≤ number_len bytes =
          subst (λ (m : ℕ). number_len (take m bytes) ≤ number_len bytes) count (number_past_digits bytes (n - digits_len bytes)) in
          omega arith
      | inr among ↦ let few : n ≤ digits_len bytes = grind (arith, nat_tests) in omega arith
    ]

longest_number : (n b : ℕ) (bytes : List ℕ) (kind : Kind) (len : ℕ) → suc n ≤ suc (length bytes) → is_number (b ∷ take n bytes) ≡ true
    → token_at (b ∷ bytes) ≡ Some (kind, len) → suc n ≤ len
longest_number n b bytes kind len within is found =
    let front : List ℕ = b ∷ take n bytes in
    let parts = and_parts (not (digits_len front == 0)) (number_len front == length front) is in
    let digit : is_ascii_digit b ≡ true = begins_with_digit b (take n bytes) parts.0 in
    let all : number_len front ≡ suc (length (take n bytes)) = (Decides-eqb (number_len front) (suc (length (take n bytes)))).0 parts.1 in
    let size : length (take n bytes) ≡ n = length-take-le n bytes (omega arith) in
    let most : suc n ≤ number_len (b ∷ bytes) = number_front (suc n) (b ∷ bytes) within (all ∙ ap suc size) in
    let count : number_len (b ∷ bytes) ≡ len = len_is Number kind (number_len (b ∷ bytes)) len (sym (token_number b bytes digit) ∙ found) in
    omega arith

-- ---- texts

longest_text : (n b : ℕ) (bytes : List ℕ) (kind : Kind) (len : ℕ) → suc n ≤ suc (length bytes) → IsQuoted (b ∷ take n bytes)
    → token_at (b ∷ bytes) ≡ Some (kind, len) → suc n ≤ len
longest_text n b bytes kind len within quoted found =
    let size : length (take n bytes) ≡ n = length-take-le n bytes (omega arith) in
    let closed : text_len bytes ≡ Some (suc (length (take n bytes))) =
    subst (λ (x : List ℕ). text_len x ≡ Some (suc (length (take n bytes)))) (take-append-drop n bytes)
    (text_len_append (take n bytes) (drop n bytes) (suc (length (take n bytes))) quoted.1) in
    let token : token_at (34 ∷ bytes) ≡ Some (Text, suc (length (take n bytes))) = token_quote bytes
    ∙ ap (λ (x : Option ℕ). option_map (λ (m : ℕ). (Text, m)) x) closed in
    let same : token_at (34 ∷ bytes) ≡ Some (kind, len) = subst (λ (q : ℕ). token_at (q ∷ bytes) ≡ Some (kind, len)) (quote_is b quoted.0) found in
    let count : suc (length (take n bytes)) ≡ len = len_is Text kind (suc (length (take n bytes))) len (sym token ∙ same) in
    omega arith

-- ---- symbols

-- a byte or two, the first of which begins no name, no number and no text
abbrev is_symbol : List ℕ → Bool
is_symbol [] = false
is_symbol (b ∷ bytes) = not (begins_name b) && (not (is_ascii_digit b) && (not (is_quote b) && nat_le (length bytes) 1))

symbol_is : (word : List ℕ) (code : ℕ) → code_of symbols word ≡ Some code → is_symbol word ≡ true
unfolding symbols
symbol_is word code is = row_is is_symbol symbols word code refl is

pair_len : (first : ℕ) (found : Option ℕ) (code : ℕ) (kind : Kind) (len : ℕ) → found ≡ Some code
    → option_map_or {U = Option (Kind × ℕ)} (λ code. Some (Sym code, 2)) found (single_symbol first) ≡ Some (kind, len) → 2 ≡ len
pair_len first None code kind len is h = absurd (none_is_some is)
pair_len first (Some c) code kind len is h = len_is (Sym c) kind 2 len h

at_symbol : (b : ℕ) (bytes : List ℕ) (kind : Kind) (len : ℕ) → begins_name b ≡ false → is_ascii_digit b ≡ false → is_quote b ≡ false
    → token_at (b ∷ bytes) ≡ Some (kind, len) → symbol_at b bytes ≡ Some (kind, len)
unfolding token_at
at_symbol b bytes kind len no_name no_digit no_quote found =
    else_part (is_quote b) _ _ _ no_quote (else_part (is_ascii_digit b) _ _ _ no_digit (else_part (begins_name b) _ _ _ no_name found))

longest_symbol : (n b : ℕ) (bytes : List ℕ) (code : ℕ) (kind : Kind) (len : ℕ) → suc n ≤ suc (length bytes)
    → code_of symbols (b ∷ take n bytes) ≡ Some code → token_at (b ∷ bytes) ≡ Some (kind, len) → suc n ≤ len
longest_symbol zero b bytes code kind len within is found = let some = token_at_within (b ∷ bytes) kind len found in omega (arith, some.0)
longest_symbol (suc zero) b [] code kind len within is found = absurd (omega arith)
longest_symbol (suc zero) b (c ∷ bytes) code kind len within is found =
    let name = and_parts (not (begins_name b)) _ (symbol_is (b ∷ c ∷ []) code is) in
    let digit = and_parts (not (is_ascii_digit b)) _ name.1 in
    let quote = and_parts (not (is_quote b)) _ digit.1 in
    let two : 2 ≡ len = pair_len b (code_of symbols (b ∷ c ∷ [])) code kind len is
    (at_symbol b (c ∷ bytes) kind len (false_from_not (begins_name b) name.0) (false_from_not (is_ascii_digit b) digit.0) (false_from_not (is_quote b) quote.0) found) in
    omega arith
longest_symbol (suc (suc n)) b bytes code kind len within is found =
    let front : List ℕ = take (suc (suc n)) bytes in
    let size : length front ≡ suc (suc n) = length-take-le (suc (suc n)) bytes (omega arith) in
    let name = and_parts (not (begins_name b)) _ (symbol_is (b ∷ front) code is) in
    let digit = and_parts (not (is_ascii_digit b)) _ name.1 in
    let quote = and_parts (not (is_quote b)) (nat_le (length front) 1) digit.1 in
    let few : length front ≤ 1 = grind (arith, nat_tests, quote.1) in
    absurd (omega arith)

-- ---- each token is the longest

longest_front : (b : ℕ) (bytes : List ℕ) (kind : Kind) (len : ℕ) → token_at (b ∷ bytes) ≡ Some (kind, len) → (n : ℕ) (other : Kind) → suc n
    ≤ suc (length bytes) → HasForm other (b ∷ take n bytes) → suc n ≤ len
longest_front b bytes kind len found n Name within form = longest_word n b bytes kind len within form.0 found
longest_front b bytes kind len found n (Key code) within form = longest_word n b bytes kind len within (reserved_is_word (b ∷ take n bytes) code form) found
longest_front b bytes kind len found n Number within form = longest_number n b bytes kind len within form found
longest_front b bytes kind len found n Text within form = longest_text n b bytes kind len within form found
longest_front b bytes kind len found n (Sym code) within form = longest_symbol n b bytes code kind len within form found

longest : (bytes : List ℕ) (kind : Kind) (len : ℕ) → token_at bytes ≡ Some (kind, len) → (n : ℕ) (other : Kind) → n ≤ length bytes
    → HasForm other (take n bytes) → n ≤ len
longest bytes kind len found zero other within form = omega arith
longest [] kind len found (suc n) other within form = absurd (omega arith)
longest (b ∷ bytes) kind len found (suc n) other within form = longest_front b bytes kind len found n other within form

-- ---- the tokens of a line

abbrev kept : Result (List Token) ℕ → List Token
kept r = result_unwrap_or r []

-- each token is the one that begins at its place
abbrev BeginThere : List ℕ → List Token → Type 0
BeginThere line = AllByRecursion (λ t. token_at (drop t.lo line) ≡ Some (t.kind, t.hi - t.lo))

begin_before : (line : List ℕ) (token : Token) (rest : Result (List Token) ℕ) → token_at (drop token.lo line)
    ≡ Some (token.kind, token.hi - token.lo) → BeginThere line (kept rest) → BeginThere line (kept (with_first_token token rest))
begin_before line token (Ok tokens) here later = (here, later)
begin_before line token (Err place) here later = tt

begin_token : (line : List ℕ) (place b : ℕ) (bytes : List ℕ) (found : Option (Kind × ℕ)) → b ∷ bytes ≡ drop place line
    → token_at (b ∷ bytes) ≡ found → ((n : ℕ) → BeginThere line (kept (lexed n (place + 1) bytes)))
    → BeginThere line (kept (option_map_or (λ t. with_first_token (record { kind = t.0; lo = place; hi = place + t.1 })
    (lexed (t.1 - 1) (place + 1) bytes)) found (Err place)))
begin_token line place b bytes None e h behind = tt
begin_token line place b bytes (Some t) e h behind =
    let token : Token = record { kind = t.0; lo = place; hi = place + t.1 } in
    let count : t.1 ≡ place + t.1 - place = omega arith in
    let here : token_at (drop place line) ≡ Some (t.0, place + t.1 - place) = ap token_at (sym e) ∙ (h ∙ ap (λ (n : ℕ). Some (t.0, n)) count) in
    begin_before line token (lexed (t.1 - 1) (place + 1) bytes) here (behind (t.1 - 1))

begin_lexed : (line : List ℕ) (skip place : ℕ) (bytes : List ℕ) → bytes ≡ drop place line → BeginThere line (kept (lexed skip place bytes))
unfolding lexed
begin_lexed line skip place [] e = tt
begin_lexed line (suc skip) place (b ∷ bytes) e = begin_lexed line skip (place + 1) bytes (ap (drop 1) e ∙ drop-drop 1 place line)
begin_lexed line zero place (b ∷ bytes) e =
    let later : bytes ≡ drop (place + 1) line = ap (drop 1) e ∙ drop-drop 1 place line in
    elim (cases_Bool (is_blank b)) [
      | inl blank ↦ rw blank (begin_lexed line 0 (place + 1) bytes later)
      | inr other ↦ rw other (begin_token line place b bytes (token_at (b ∷ bytes)) e refl (λ n. begin_lexed line n (place + 1) bytes later))
    ]

all_longest : (line : List ℕ) (tokens : List Token) → BeginThere line tokens → AllByRecursion (λ t. IsLongest (drop t.lo line) (t.hi - t.lo)) tokens
all_longest line [] there = tt
all_longest line (t ∷ tokens) there = (longest (drop t.lo line) t.kind (t.hi - t.lo) there.0, all_longest line tokens there.1)

pub tokens_are_tokens : (line : List ℕ) → bad_place line ≡ None → AreTokens line (tokens_of line)
tokens_are_tokens line good = record {
  spans = spans_ascend line;
  forms = tokens_have_forms line;
  gaps = gaps_are_blank line good;
  longest = all_longest line (tokens_of line) (begin_lexed line 0 0 line refl);
}
