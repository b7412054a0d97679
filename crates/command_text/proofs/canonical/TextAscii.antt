-- Which bytes tokens have, and lines that are cut into such tokens.
use Rattle.command_text.proofs.Names.{◌≡◌, ℕ, zero, suc, ◌+◌, ◌-◌, ◌<◌, Bool, true, ◌||◌, not, List, [], ◌∷◌, ◌++◌, take, length, map, Option, None, Some, IsTrue, refl, sym, ap, ap₂, subst, ◌∙◌, arith, eqb, inl, inr, take-append-drop, length-drop, option_map, option_and_then, AllByRecursion, list_all, is_ascii_digit, cases_Bool, and_parts, or_parts, nat_tests, Decides-eqb, take_all, code_of, reserved_words, symbols, Kind, Token, is_blank, begins_name, continues_name, digits_len, fraction_len, number_len, token_at, lexemes, tokens_of, bytes_of_token, Lexeme, cut, HasForm, is_word, is_number, IsQuoted, is_ascii, has_other_byte, IsAscii}
use Rattle.std.proofs.Common.{drop}
use Rattle.std.proofs.lemmas.List.Folds.{list_any-append}
use Rattle.ftl_lexer.specs.declared.kinds.Kind.TheVariants as kinds
use Rattle.ftl_lexer.proofs.Shapes.{some_is}
use Rattle.ftl_lexer.proofs.Fronts.{unquoted_parts}
use Rattle.ftl_lexer.proofs.Steps.{then_part, else_part, none_is_some, token_at_within}
use Rattle.ftl_lexer.proofs.Longest.{row_is}
use Rattle.ftl_parser.specs.Piece as query
use Rattle.exact.proofs.Truths.{false_from_not}
use Rattle.exact.proofs.Items.{front_passes}

-- ---- parts of bytes

pub joined_ascii : (xs ys : List ℕ) → IsAscii xs → IsAscii ys → IsAscii (xs ++ ys)
joined_ascii xs ys front back = list_any-append (λ b. not (is_ascii b)) xs ys ∙ ap₂ (λ x y. x || y) front back

pub front_ascii : (xs ys : List ℕ) → IsAscii (xs ++ ys) → IsAscii xs
front_ascii xs ys both = (or_parts (has_other_byte xs) (has_other_byte ys) (sym (list_any-append (λ b. not (is_ascii b)) xs ys) ∙ both)).0

pub back_ascii : (xs ys : List ℕ) → IsAscii (xs ++ ys) → IsAscii ys
back_ascii xs ys both = (or_parts (has_other_byte xs) (has_other_byte ys) (sym (list_any-append (λ b. not (is_ascii b)) xs ys) ∙ both)).1

take_ascii : (n : ℕ) (xs : List ℕ) → IsAscii xs → IsAscii (take n xs)
take_ascii n xs all = front_ascii (take n xs) (drop n xs) (subst IsAscii (sym (take-append-drop n xs)) all)

drop_ascii : (n : ℕ) (xs : List ℕ) → IsAscii xs → IsAscii (drop n xs)
drop_ascii n xs all = back_ascii (take n xs) (drop n xs) (subst IsAscii (sym (take-append-drop n xs)) all)

-- a byte before others
before_ascii : (b : ℕ) (bytes : List ℕ) → is_ascii b ≡ true → IsAscii bytes → IsAscii (b ∷ bytes)
before_ascii b bytes this others = ap₂ (λ x y. not x || y) this others

-- ---- bytes of a kind

each_ascii : (p : ℕ → Bool) → ((b : ℕ) → p b ≡ true → is_ascii b ≡ true) → (bytes : List ℕ) → list_all p bytes ≡ true → IsAscii bytes
each_ascii p each [] all = refl
each_ascii p each (b ∷ bytes) all =
    let parts = and_parts (p b) (list_all p bytes) all in
    before_ascii b bytes (each b parts.0) (each_ascii p each bytes parts.1)

digit_ascii : (b : ℕ) → is_ascii_digit b ≡ true → is_ascii b ≡ true
digit_ascii b is = grind (arith, nat_tests)

begins_ascii : (b : ℕ) → begins_name b ≡ true → is_ascii b ≡ true
begins_ascii b is = grind (arith, nat_tests)

continues_ascii : (b : ℕ) → continues_name b ≡ true → is_ascii b ≡ true
continues_ascii b is = grind (arith, nat_tests)

blank_ascii : (b : ℕ) → is_blank b ≡ true → is_ascii b ≡ true
blank_ascii b is = grind (arith, nat_tests)

-- ---- tokens

pub word_ascii : (word : List ℕ) → IsTrue (is_word word) → IsAscii word
word_ascii [] is = refl
word_ascii (b ∷ bytes) is =
    let parts = and_parts (begins_name b) (list_all continues_name bytes) is in
    before_ascii b bytes (begins_ascii b parts.0) (each_ascii continues_name continues_ascii bytes parts.1)

digits_ascii : (bytes : List ℕ) → digits_len bytes ≡ length bytes → IsAscii bytes
digits_ascii bytes all =
    let front : take (digits_len bytes) bytes ≡ bytes = ap (λ n. take n bytes) all ∙ take_all (length bytes) bytes (omega arith) in
    each_ascii is_ascii_digit digit_ascii bytes (subst (λ (xs : List ℕ). list_all is_ascii_digit xs ≡ true) front (front_passes is_ascii_digit bytes))

fraction_ascii : (bytes : List ℕ) → fraction_len bytes ≡ length bytes → IsAscii bytes
fraction_ascii [] all = refl
fraction_ascii (b ∷ bytes) all =
    elim (cases_Bool (eqb b 46)) [
      | inl point ↦
          elim (cases_Bool (eqb (digits_len bytes) 0)) [
            | inl none ↦ let bad : 0 ≡ suc (length bytes) = rw (point, none) at all in absurd (omega arith)
            | inr some ↦
                let same : 1 + digits_len bytes ≡ suc (length bytes) = rw (point, some) at all in
                before_ascii b bytes (ap is_ascii ((Decides-eqb b 46).0 point)) (digits_ascii bytes (omega arith))
          ]
      | inr other ↦ let bad : 0 ≡ suc (length bytes) = rw other at all in absurd (omega arith)
    ]

number_ascii : (bytes : List ℕ) → IsTrue (is_number bytes) → IsAscii bytes
number_ascii bytes is =
    let parts = and_parts (not (eqb (digits_len bytes) 0)) (eqb (number_len bytes) (length bytes)) is in
    let all : number_len bytes ≡ length bytes = (Decides-eqb (number_len bytes) (length bytes)).0 parts.1 in
    let rest : List ℕ = drop (digits_len bytes) bytes in
    let back : fraction_len rest ≡ length rest = omega (arith, all, length-drop (digits_len bytes) bytes) in
    subst IsAscii (take-append-drop (digits_len bytes) bytes)
    (joined_ascii (take (digits_len bytes) bytes) rest (each_ascii is_ascii_digit digit_ascii (take (digits_len bytes) bytes)
    (front_passes is_ascii_digit bytes)) (fraction_ascii rest back))

key_ascii : (word : List ℕ) (code : ℕ) → code_of reserved_words word ≡ Some code → IsAscii word
unfolding reserved_words
key_ascii word code is = false_from_not (has_other_byte word) (row_is (λ w. not (has_other_byte w)) reserved_words word code refl is)

symbol_ascii : (word : List ℕ) (code : ℕ) → code_of symbols word ≡ Some code → IsAscii word
unfolding symbols
symbol_ascii word code is = false_from_not (has_other_byte word) (row_is (λ w. not (has_other_byte w)) symbols word code refl is)

-- a text, by what stands between its quotes
text_ascii : (text : List ℕ) → IsQuoted text → IsAscii (query.unquoted text) → IsAscii text
text_ascii text quoted inner =
    let same : length text - 1 - 1 ≡ length text - 2 = omega arith in
    let whole : text ≡ 34 ∷ query.unquoted text ++ 34 ∷ [] =
    subst (λ (n : ℕ). text ≡ 34 ∷ take n (drop 1 text) ++ 34 ∷ []) same (unquoted_parts text quoted).0 in
    subst IsAscii (sym whole) (joined_ascii (query.unquoted text) (34 ∷ []) inner refl)

pub inside_ascii : (text : List ℕ) → IsAscii text → IsAscii (query.unquoted text)
inside_ascii text all = take_ascii (length text - 2) (drop 1 text) (drop_ascii 1 text all)

-- the text in a token of that kind
abbrev pub inner : Kind → List ℕ → List ℕ
inner kinds.Text bytes = query.unquoted bytes
inner kind bytes = []

pub form_ascii : (kind : Kind) (bytes : List ℕ) → HasForm kind bytes → IsAscii (inner kind bytes) → IsAscii bytes
form_ascii kinds.Name bytes form text = word_ascii bytes form.0
form_ascii kinds.Number bytes form text = number_ascii bytes form
form_ascii kinds.Text bytes form text = text_ascii bytes form text
form_ascii (kinds.Sym code) bytes form text = symbol_ascii bytes code form
form_ascii (kinds.Key code) bytes form text = key_ascii bytes code form

-- ---- from the line to its tokens

abbrev pub AreAscii : List Lexeme → Type 0
AreAscii = AllByRecursion (λ (l : Lexeme). IsAscii l.1)

slices_ascii : (line : List ℕ) (tokens : List Token) → IsAscii line → AreAscii (map (λ t. (t.kind, bytes_of_token line t)) tokens)
slices_ascii line [] all = tt
slices_ascii line (t ∷ tokens) all = (take_ascii (t.hi - t.lo) (drop t.lo line) (drop_ascii t.lo line all), slices_ascii line tokens all)

pub tokens_ascii : (line : List ℕ) → IsAscii line → AreAscii (lexemes line)
tokens_ascii line all = slices_ascii line (tokens_of line) all

-- ---- and back

put_ascii : (b : ℕ) (bytes : List ℕ) (t : Kind × ℕ) (rest : Option (List Lexeme)) (all : List Lexeme) → 0 < t.1
    → option_map (λ later. (t.0, take t.1 (b ∷ bytes)) ∷ later) rest ≡ Some all → AreAscii all
    → ((later : List Lexeme) → rest ≡ Some later → AreAscii later → IsAscii (drop (t.1 - 1) bytes)) → IsAscii (b ∷ bytes)
put_ascii b bytes t None all some h are behind = absurd (none_is_some h)
put_ascii b bytes t (Some later) all some h are behind =
    let both : AreAscii ((t.0, take t.1 (b ∷ bytes)) ∷ later) = subst AreAscii (sym (some_is h)) are in
    let count : t.1 ≡ suc (t.1 - 1) = omega arith in
    let rest : drop t.1 (b ∷ bytes) ≡ drop (t.1 - 1) bytes = ap (λ n. drop n (b ∷ bytes)) count in
    subst IsAscii (take-append-drop t.1 (b ∷ bytes))
    (joined_ascii (take t.1 (b ∷ bytes)) (drop t.1 (b ∷ bytes)) both.0 (subst IsAscii (sym rest) (behind later refl both.1)))

found_ascii : (b : ℕ) (bytes : List ℕ) (found : Option (Kind × ℕ)) (all : List Lexeme) → token_at (b ∷ bytes) ≡ found
    → option_and_then (λ t. option_map (λ later. (t.0, take t.1 (b ∷ bytes)) ∷ later) (cut (t.1 - 1) bytes)) found ≡ Some all → AreAscii all
    → ((n : ℕ) (later : List Lexeme) → cut n bytes ≡ Some later → AreAscii later → IsAscii (drop n bytes)) → IsAscii (b ∷ bytes)
found_ascii b bytes None all e h are behind = absurd (none_is_some h)
found_ascii b bytes (Some t) all e h are behind =
    put_ascii b bytes t (cut (t.1 - 1) bytes) all (token_at_within (b ∷ bytes) t.0 t.1 e).0 h are (behind (t.1 - 1))

skipped_ascii : (skip : ℕ) (bytes : List ℕ) (all : List Lexeme) → cut skip bytes ≡ Some all → AreAscii all → IsAscii (drop skip bytes)
unfolding cut
skipped_ascii zero [] all h are = refl
skipped_ascii (suc skip) [] all h are = refl
skipped_ascii (suc skip) (b ∷ bytes) all h are = skipped_ascii skip bytes all h are
skipped_ascii zero (b ∷ bytes) all h are =
    elim (cases_Bool (is_blank b)) [
      | inl blank ↦ before_ascii b bytes (blank_ascii b blank) (skipped_ascii 0 bytes all (then_part (is_blank b) _ _ _ blank h) are)
      | inr other ↦ found_ascii b bytes (token_at (b ∷ bytes)) all refl (else_part (is_blank b) _ _ _ other h) are
          (λ n later e l. skipped_ascii n bytes later e l)
    ]

pub cut_ascii : (bytes : List ℕ) (all : List Lexeme) → cut 0 bytes ≡ Some all → AreAscii all → IsAscii bytes
cut_ascii bytes all h are = skipped_ascii 0 bytes all h are
