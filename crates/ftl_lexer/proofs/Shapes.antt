-- For this crate and for the crates above: each token has the form of its kind.
use Rattle.std.proofs.Common.{◌≡◌, ℕ, zero, suc, ◌+◌, ◌-◌, ◌<◌, List, [], ◌∷◌, Option, Some, None, length, drop, take, Bool, true, false, not, refl, sym, ◌∙◌, ap, subst, arith, inl, inr, eqb, ltb, add-zero, ne_eqb, eq-eqb, lt-ltb, Ok, Err, Result, map}
use Rattle.std.specs.Prelude.{option_map, option_and_then, slice_get}
use Rattle.std.specs.List.{prefix_len, position_or_len}
use Rattle.std.specs.Option.{option_map_or}
use Rattle.std.specs.Char.{is_ascii_digit}
use Rattle.std.proofs.lemmas.Bool.{cases_Bool, and_from}
use Rattle.std.proofs.lemmas.List.{length-take-le, drop-take, take_all}
use Rattle.std.proofs.Math.Numerals.{one-add}
use Rattle.case_table.specs.Rows.{code_of}
use Rattle.case_table.specs.Language.{reserved_words, symbols}
use Rattle.ftl_lexer.specs.declared.kinds.Kind.{Kind}
use Rattle.ftl_lexer.specs.declared.kinds.Kind.TheVariants.{Name, Text, Sym, Key}
use Rattle.ftl_lexer.specs.Forms.{is_blank, begins_name, continues_name, is_quote, name_len, digits_len, fraction_len, number_len, text_len, single_symbol, symbol_at, token_at}
use Rattle.ftl_lexer.specs.Cut.{Lexeme, cut, is_word, is_number, IsQuoted, HasForm}
use Rattle.ftl_lexer.specs.Laws.{HaveForms}
use Rattle.ftl_lexer.specs.declared.kinds.Token.{Token}
use Rattle.ftl_lexer.specs.Tokens.{lexed, lexemes, tokens_of, texts_of_tokens, bytes_of_token}
use Rattle.std.proofs.lemmas.Option.{slice_get-map}
use Rattle.ftl_lexer.proofs.Cuts.{bare, cut_is}
use Rattle.std.specs.Result.{result_ok, result_unwrap_or}
use borrow.Author.Tests.{ltb-true}
use Rattle.ftl_lexer.proofs.Steps.{then_part, else_part, none_is_some, begins_continues, number_len_within, prefix_len_first}
use Rattle.exact.proofs.Items.{front_passes}

-- ---- how many pass, in a front that is long enough

none_pass : (p : ℕ → Bool) (b : ℕ) (bytes : List ℕ) (n : ℕ) → p b ≡ false → prefix_len p (take n (b ∷ bytes)) ≡ 0
none_pass p b bytes zero h = refl
none_pass p b bytes (suc n) h = rw h refl

pub prefix_len_take : (p : ℕ → Bool) (bytes : List ℕ) (more : ℕ) → prefix_len p (take (prefix_len p bytes + more) bytes) ≡ prefix_len p bytes
prefix_len_take p [] more = ap (prefix_len p) (take_all (0 + more) [] (omega arith))
prefix_len_take p (b ∷ bytes) more =
    elim (cases_Bool (p b)) [
      | inl passes ↦
          let count : 1 + prefix_len p bytes + more ≡ suc (prefix_len p bytes + more) = omega arith in
          rw (passes, count, passes, prefix_len_take p bytes more) refl
      | inr fails ↦ rw fails (none_pass p b bytes (0 + more) fails)
    ]

prefix_len_front : (p : ℕ → Bool) (bytes : List ℕ) → prefix_len p (take (prefix_len p bytes) bytes) ≡ prefix_len p bytes
prefix_len_front p bytes = rw add-zero at (prefix_len_take p bytes 0)

-- ---- the forms

word_form : (word : List ℕ) (found : Option ℕ) → is_word word ≡ true → code_of reserved_words word ≡ found
    → HasForm (option_map_or (λ code. Key code) found Name) word
word_form word None h e = (h, e)
word_form word (Some code) h e = e

word_is : (b : ℕ) (bytes : List ℕ) → begins_name b ≡ true → is_word (take (name_len (b ∷ bytes)) (b ∷ bytes)) ≡ true
word_is b bytes h = rw (begins_continues b h, one-add) (and_from (begins_name b) _ h (front_passes continues_name bytes))

fraction_len_take : (bytes : List ℕ) → fraction_len (take (fraction_len bytes) bytes) ≡ fraction_len bytes
fraction_len_take [] = refl
fraction_len_take (b ∷ bytes) =
    elim (cases_Bool (eqb b 46)) [
      | inl point ↦
          elim (cases_Bool (eqb (digits_len bytes) 0)) [
            | inl none ↦ rw (point, none) refl
            | inr some ↦ rw (point, some, one-add, point, prefix_len_front is_ascii_digit bytes, some) (one-add (digits_len bytes))
          ]
      | inr other ↦ rw other refl
    ]

number_is : (bytes : List ℕ) → 0 < digits_len bytes → is_number (take (number_len bytes) bytes) ≡ true
number_is bytes h =
    let digits : digits_len (take (number_len bytes) bytes) ≡ digits_len bytes =
    prefix_len_take is_ascii_digit bytes (fraction_len (drop (digits_len bytes) bytes)) in
    let rest : drop (digits_len bytes) (take (number_len bytes) bytes) ≡ take (fraction_len (drop (digits_len bytes) bytes)) (drop (digits_len bytes) bytes) =
    drop-take (digits_len bytes) (fraction_len (drop (digits_len bytes) bytes)) bytes in
    let fraction : fraction_len (drop (digits_len bytes) (take (number_len bytes) bytes)) ≡ fraction_len (drop (digits_len bytes) bytes) =
    ap fraction_len rest ∙ fraction_len_take (drop (digits_len bytes) bytes) in
    let whole : number_len (take (number_len bytes) bytes) ≡ number_len bytes =
    ap (λ d. d + fraction_len (drop d (take (number_len bytes) bytes))) digits ∙ ap (λ f. digits_len bytes + f) fraction in
    let all : length (take (number_len bytes) bytes) ≡ number_len bytes = length-take-le (number_len bytes) bytes (number_len_within bytes) in
    let some : eqb (digits_len (take (number_len bytes) bytes)) 0 ≡ false = ap (λ d. eqb d 0) digits ∙ ne_eqb (digits_len bytes) 0 (λ e. omega arith) in
    and_from _ _ (ap not some) (eq-eqb _ _ (whole ∙ sym all))

pub some_is : {X : Type 0} {x y : X} → Some x ≡ Some y → x ≡ y
some_is h = cc

pub text_len_at : (bytes : List ℕ) (place : ℕ) → position_or_len is_quote bytes ≡ place → place < length bytes → text_len bytes ≡ Some (place + 2)
text_len_at bytes place e h = rw (e, lt-ltb place (length bytes) h) refl

quoted_is : (bytes : List ℕ) (n : ℕ) → text_len bytes ≡ Some n → (0 < n) × (text_len (take (n - 1) bytes) ≡ Some (suc (length (take (n - 1) bytes))))
quoted_is bytes n h =
    elim (cases_Bool (ltb (position_or_len is_quote bytes) (length bytes))) [
      | inl closed ↦
          let within : position_or_len is_quote bytes < length bytes = ltb-true (position_or_len is_quote bytes) (length bytes) closed in
          let found : position_or_len is_quote bytes + 2 ≡ n = some_is (rw closed at h) in
          let front : n - 1 ≡ position_or_len is_quote bytes + 1 = omega arith in
          let same : position_or_len is_quote (take (position_or_len is_quote bytes + 1) bytes) ≡ position_or_len is_quote bytes =
          prefix_len_take (λ x. not (is_quote x)) bytes 1 in
          let all : length (take (position_or_len is_quote bytes + 1) bytes) ≡ position_or_len is_quote bytes + 1 =
          length-take-le (position_or_len is_quote bytes + 1) bytes (omega arith) in
          let closed_at : text_len (take (position_or_len is_quote bytes + 1) bytes) ≡ Some (position_or_len is_quote bytes + 2) =
          text_len_at (take (position_or_len is_quote bytes + 1) bytes) (position_or_len is_quote bytes) same (omega arith) in
          let count : position_or_len is_quote bytes + 2 ≡ suc (length (take (position_or_len is_quote bytes + 1) bytes)) = omega arith in
          (omega arith, rw front (closed_at ∙ ap (λ m. Some m) count))
      | inr none ↦ absurd (none_is_some (rw none at h))
    ]

-- ---- a token's form

text_form : (b : ℕ) (bytes : List ℕ) (found : Option ℕ) (t : Kind × ℕ) → is_quote b ≡ true → text_len bytes ≡ found
    → option_map {U = Kind × ℕ} (λ n. (Text, n)) found ≡ Some t → HasForm t.0 (take t.1 (b ∷ bytes))
text_form b bytes None t q e h = absurd (none_is_some h)
text_form b bytes (Some n) t q e h =
    let quoted = quoted_is bytes n e in
    let count : n ≡ suc (n - 1) = omega (arith, quoted.0) in
    subst (λ (u : Kind × ℕ). HasForm u.0 (take u.1 (b ∷ bytes))) (some_is h)
    (subst (λ m. IsQuoted (take m (b ∷ bytes))) (sym count) (q, quoted.1))

single_form : (first : ℕ) (bytes : List ℕ) (found : Option ℕ) (t : Kind × ℕ) → code_of symbols (first ∷ []) ≡ found
    → option_map {U = Kind × ℕ} (λ code. (Sym code, 1)) found ≡ Some t → HasForm t.0 (take t.1 (first ∷ bytes))
single_form first bytes None t e h = absurd (none_is_some h)
single_form first bytes (Some code) t e h = subst (λ (u : Kind × ℕ). HasForm u.0 (take u.1 (first ∷ bytes))) (some_is h) e

pair_form : (first second : ℕ) (bytes : List ℕ) (found : Option ℕ) (t : Kind × ℕ) → code_of symbols (first ∷ second ∷ []) ≡ found
    → option_map_or {U = Option (Kind × ℕ)} (λ code. Some (Sym code, 2)) found (single_symbol first) ≡ Some t
    → HasForm t.0 (take t.1 (first ∷ second ∷ bytes))
pair_form first second bytes None t e h = single_form first (second ∷ bytes) (code_of symbols (first ∷ [])) t refl h
pair_form first second bytes (Some code) t e h = subst (λ (u : Kind × ℕ). HasForm u.0 (take u.1 (first ∷ second ∷ bytes))) (some_is h) e

symbol_form : (first : ℕ) (bytes : List ℕ) (t : Kind × ℕ) → symbol_at first bytes ≡ Some t → HasForm t.0 (take t.1 (first ∷ bytes))
symbol_form first [] t h = single_form first [] (code_of symbols (first ∷ [])) t refl h
symbol_form first (second ∷ bytes) t h = pair_form first second bytes (code_of symbols (first ∷ second ∷ [])) t refl h

token_form : (bytes : List ℕ) (t : Kind × ℕ) → token_at bytes ≡ Some t → HasForm t.0 (take t.1 bytes)
unfolding token_at
token_form [] t h = absurd (none_is_some h)
token_form (b ∷ bytes) t h =
    elim (cases_Bool (begins_name b)) [
      | inl name ↦
          let word = take (name_len (b ∷ bytes)) (b ∷ bytes) in
          subst (λ (u : Kind × ℕ). HasForm u.0 (take u.1 (b ∷ bytes))) (some_is (then_part (begins_name b) _ _ _ name h))
          (word_form word (code_of reserved_words word) (word_is b bytes name) refl)
      | inr no_name ↦
          let h_digit = else_part (begins_name b) _ _ _ no_name h in
          elim (cases_Bool (is_ascii_digit b)) [
            | inl digit ↦
                subst (λ (u : Kind × ℕ). HasForm u.0 (take u.1 (b ∷ bytes))) (some_is (then_part (is_ascii_digit b) _ _ _ digit h_digit))
                (number_is (b ∷ bytes) (prefix_len_first is_ascii_digit b bytes digit))
            | inr no_digit ↦
                let h_quote = else_part (is_ascii_digit b) _ _ _ no_digit h_digit in
                elim (cases_Bool (is_quote b)) [
                  | inl quote ↦ text_form b bytes (text_len bytes) t quote refl (then_part (is_quote b) _ _ _ quote h_quote)
                  | inr no_quote ↦ symbol_form b bytes t (else_part (is_quote b) _ _ _ no_quote h_quote)
                ]
          ]
    ]

-- ---- the tokens of a line

form_before : (first : Lexeme) (rest : Option (List Lexeme)) (all : List Lexeme) → HasForm first.0 first.1
    → option_map (λ later. first ∷ later) rest ≡ Some all → ((later : List Lexeme) → rest ≡ Some later → HaveForms later) → HaveForms all
form_before first None all f h behind = absurd (none_is_some h)
form_before first (Some later) all f h behind = subst HaveForms (some_is h) (f, behind later refl)

form_found : (b : ℕ) (bytes : List ℕ) (found : Option (Kind × ℕ)) (all : List Lexeme) → token_at (b ∷ bytes) ≡ found
    → option_and_then (λ t. option_map (λ rest. (t.0, take t.1 (b ∷ bytes)) ∷ rest) (cut (t.1 - 1) bytes)) found ≡ Some all
    → ((n : ℕ) (later : List Lexeme) → cut n bytes ≡ Some later → HaveForms later) → HaveForms all
form_found b bytes None all e h behind = absurd (none_is_some h)
form_found b bytes (Some t) all e h behind = form_before (t.0, take t.1 (b ∷ bytes)) (cut (t.1 - 1) bytes) all (token_form (b ∷ bytes) t e) h (behind (t.1 - 1))

forms_of : (skip : ℕ) (bytes : List ℕ) (all : List Lexeme) → cut skip bytes ≡ Some all → HaveForms all
unfolding cut
forms_of skip [] all h = subst HaveForms (some_is h) tt
forms_of (suc skip) (b ∷ bytes) all h = forms_of skip bytes all h
forms_of zero (b ∷ bytes) all h =
    elim (cases_Bool (is_blank b)) [
      | inl blank ↦ forms_of 0 bytes all (then_part (is_blank b) _ _ _ blank h)
      | inr other ↦ form_found b bytes (token_at (b ∷ bytes)) all refl (else_part (is_blank b) _ _ _ other h) (λ n later e. forms_of n bytes later e)
    ]

forms_kept : (line : List ℕ) (r : Result (List Token) ℕ) → lexed 0 0 line ≡ r → HaveForms (map (bare line) (result_unwrap_or r []))
forms_kept line (Ok tokens) e = forms_of 0 line (map (bare line) tokens) (cut_is line ∙ ap (λ r. option_map (map (bare line)) (result_ok r)) e)
forms_kept line (Err place) e = tt

pub tokens_have_forms : (line : List ℕ) → HaveForms (lexemes line)
tokens_have_forms line = forms_kept line (lexed 0 0 line) refl

-- one of them
pub form_at : (all : List Lexeme) (i : ℕ) (l : Lexeme) → HaveForms all → slice_get all i ≡ Some l → HasForm l.0 l.1
form_at [] i l f h = absurd (none_is_some h)
form_at (x ∷ all) zero l f h = subst (λ (u : Lexeme). HasForm u.0 u.1) (some_is h) f.0
form_at (x ∷ all) (suc i) l f h = form_at all i l f.1 h

pub lexeme_form : (line : List ℕ) (i : ℕ) (token : Token) (text : List ℕ) → slice_get (tokens_of line) i ≡ Some token
    → slice_get (texts_of_tokens line) i ≡ Some text → HasForm token.kind text
lexeme_form line i token text found bytes =
    let same : bytes_of_token line token ≡ text =
    some_is (ap (option_map (bytes_of_token line)) (sym found) ∙ (sym (slice_get-map (bytes_of_token line) (tokens_of line) i) ∙ bytes)) in
    let here : slice_get (lexemes line) i ≡ Some (token.kind, bytes_of_token line token) =
    slice_get-map (λ t. (t.kind, bytes_of_token line t)) (tokens_of line) i ∙ ap (option_map (λ (t : Token). (t.kind, bytes_of_token line t))) found in
    subst (HasForm token.kind) same (form_at (lexemes line) i (token.kind, bytes_of_token line token) (tokens_have_forms line) here)
