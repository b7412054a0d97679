-- For this crate and for the crates above: what stands at the front of a text is read back, whatever comes after
-- it.
use Rattle.std.proofs.Common.{◌≡◌, ℕ, zero, suc, ◌+◌, ◌-◌, ◌<◌, List, [], ◌∷◌, ◌++◌, Some, length, get_or, drop, take, Bool, true, false, not, refl, sym, ◌∙◌, ap, subst, arith, inl, inr, eqb, ltb, cond, IsTrue, ne_eqb}
use Rattle.std.specs.Prelude.{option_map, codes}
use Rattle.std.specs.List.{prefix_len, position_or_len, list_all, list_any}
use Rattle.std.specs.Char.{is_ascii_digit}
use Rattle.std.proofs.lemmas.Bool.{cases_Bool, and_from, and_parts}
use Rattle.std.proofs.lemmas.Bool.Decides.{nat_tests, Decides-eqb}
use Rattle.std.proofs.lemmas.List.{take_at, drop_at, drop-append-le, length-append, take_all, take_more}
use Rattle.std.proofs.lemmas.List.Sums.{prefix_len-le-length, prefix_len_stops}
use Rattle.std.proofs.lemmas.List.Folds.{prefix_len-append}
use Rattle.std.proofs.Math.Numerals.{one-add}
use Rattle.case_table.specs.Rows.{code_of}
use Rattle.case_table.specs.Language.{symbols}
use Rattle.ftl_lexer.specs.declared.kinds.Kind.{Kind}
use Rattle.ftl_lexer.specs.declared.kinds.Kind.TheVariants.{Number, Text, Sym}
use Rattle.ftl_lexer.specs.Forms.{is_blank, begins_name, continues_name, is_quote, name_len, digits_len, fraction_len, number_len, text_len, word_kind, single_symbol, token_at}
use Rattle.ftl_lexer.specs.Cut.{cut, put_before, is_word, is_number, has_no_quote, IsQuoted, stands_alone}
use Rattle.ftl_lexer.proofs.Steps.{none_is_some, begins_continues}
use Rattle.ftl_lexer.proofs.Shapes.{text_len_at, some_is}
use borrow.Author.Tests.{ltb-true}
use Rattle.exact.proofs.Truths.{true_from_not}
use Rattle.exact.proofs.Items.{front_passes}

-- ---- bytes of different kinds

name_is_no_blank : (b : ℕ) → begins_name b ≡ true → is_blank b ≡ false
name_is_no_blank b h = grind (arith, nat_tests)

digit_is_no_blank : (b : ℕ) → is_ascii_digit b ≡ true → is_blank b ≡ false
digit_is_no_blank b h = grind (arith, nat_tests)

digit_is_no_name : (b : ℕ) → is_ascii_digit b ≡ true → begins_name b ≡ false
digit_is_no_name b h = grind (arith, nat_tests)

pub quote_is : (b : ℕ) → is_quote b ≡ true → b ≡ 34
quote_is b h = grind (arith, nat_tests)

-- the part of a choice that its test picks
chosen : {X : Type 0} (b : Bool) (x y : X) → b ≡ true → cond b x y ≡ x
chosen b x y h = rw h refl

passed : {X : Type 0} (b : Bool) (x y : X) → b ≡ false → cond b x y ≡ y
passed b x y h = rw h refl

-- ---- a token at the front of a text

cut_skip : (skip : ℕ) (bytes : List ℕ) → cut skip bytes ≡ cut 0 (drop skip bytes)
unfolding cut
cut_skip zero bytes = refl
cut_skip (suc skip) [] = refl
cut_skip (suc skip) (b ∷ bytes) = cut_skip skip bytes

cut_front : (b : ℕ) (bytes rest : List ℕ) (kind : Kind) → is_blank b ≡ false → token_at (b ∷ bytes ++ rest)
    ≡ Some (kind, suc (length bytes)) → cut 0 (b ∷ bytes ++ rest) ≡ put_before (kind, b ∷ bytes) (cut 0 rest)
unfolding cut
cut_front b bytes rest kind blank h =
    let less : suc (length bytes) - 1 ≡ length bytes = omega arith in
    let behind : cut (length bytes) (bytes ++ rest) ≡ cut 0 rest = cut_skip (length bytes) (bytes ++ rest)
    ∙ ap (cut 0) (drop_at bytes rest (length bytes) refl) in
    rw (blank, h, less, behind, take_at bytes rest (length bytes) refl) refl

-- ---- names and reserved words

-- where all of one list passes and none of the next
prefix_len_all : (p : ℕ → Bool) (bytes rest : List ℕ) → list_all p bytes ≡ true → prefix_len p rest ≡ 0 → prefix_len p (bytes ++ rest) ≡ length bytes
prefix_len_all p [] rest h e = e
prefix_len_all p (b ∷ bytes) rest h e =
    let parts = and_parts (p b) (list_all p bytes) h in
    rw (parts.0, prefix_len_all p bytes rest parts.1 e) (one-add (length bytes))

token_word : (b : ℕ) (bytes rest : List ℕ) → begins_name b ≡ true → list_all continues_name bytes ≡ true → name_len rest ≡ 0
    → token_at (b ∷ bytes ++ rest) ≡ Some (word_kind (b ∷ bytes), suc (length bytes))
unfolding token_at
token_word b bytes rest begins all e =
    let word : token_at (b ∷ bytes ++ rest) ≡ Some (word_kind (take (name_len (b ∷ bytes ++ rest)) (b ∷ bytes ++ rest)), name_len (b ∷ bytes ++ rest)) =
    chosen (begins_name b) _ _ begins in
    let count : name_len (b ∷ bytes ++ rest) ≡ suc (length bytes) =
    prefix_len_all continues_name (b ∷ bytes) rest (and_from (continues_name b) (list_all continues_name bytes) (begins_continues b begins) all) e in
    word
    ∙ (ap (λ n. Some (word_kind (take n (b ∷ bytes ++ rest)), n)) count
    ∙ ap (λ w. Some (word_kind w, suc (length bytes))) (take_at (b ∷ bytes) rest (suc (length bytes)) refl))

pub cut_word : (word rest : List ℕ) → IsTrue (is_word word) → name_len rest ≡ 0 → cut 0 (word ++ rest) ≡ put_before (word_kind word, word) (cut 0 rest)
cut_word [] rest h e = let bad : false ≡ true = h in cc
cut_word (b ∷ bytes) rest h e =
    let parts = and_parts (begins_name b) (list_all continues_name bytes) h in
    cut_front b bytes rest (word_kind (b ∷ bytes)) (name_is_no_blank b parts.0) (token_word b bytes rest parts.0 parts.1 e)

-- ---- numbers

digits_len_append : (bytes rest : List ℕ) → digits_len rest ≡ 0 → digits_len (bytes ++ rest) ≡ digits_len bytes
digits_len_append [] rest d = d
digits_len_append (b ∷ bytes) rest d =
    elim (cases_Bool (is_ascii_digit b)) [
      | inl digit ↦ rw (digit, digits_len_append bytes rest d) refl
      | inr other ↦ rw other refl
    ]

fraction_len_append : (bytes rest : List ℕ) → digits_len rest ≡ 0 → fraction_len rest ≡ 0 → fraction_len (bytes ++ rest) ≡ fraction_len bytes
fraction_len_append [] rest d f = f
fraction_len_append (b ∷ bytes) rest d f = rw (digits_len_append bytes rest d) refl

number_len_append : (bytes rest : List ℕ) → digits_len rest ≡ 0 → fraction_len rest ≡ 0 → number_len (bytes ++ rest) ≡ number_len bytes
number_len_append bytes rest d f =
    ap (λ n. n + fraction_len (drop n (bytes ++ rest))) (digits_len_append bytes rest d)
    ∙ (ap (λ x. digits_len bytes + fraction_len x) (drop-append-le (digits_len bytes) bytes rest (prefix_len-le-length is_ascii_digit bytes))
    ∙ ap (λ n. digits_len bytes + n) (fraction_len_append (drop (digits_len bytes) bytes) rest d f))

pub token_number : (b : ℕ) (bytes : List ℕ) → is_ascii_digit b ≡ true → token_at (b ∷ bytes) ≡ Some (Number, number_len (b ∷ bytes))
unfolding token_at
token_number b bytes h = passed (begins_name b) _ _ (digit_is_no_name b h) ∙ chosen (is_ascii_digit b) _ _ h

pub begins_with_digit : (b : ℕ) (bytes : List ℕ) → not (eqb (digits_len (b ∷ bytes)) 0) ≡ true → is_ascii_digit b ≡ true
begins_with_digit b bytes h =
    elim (cases_Bool (is_ascii_digit b)) [
      | inl digit ↦ digit
      | inr other ↦ let bad : false ≡ true = rw other at h in cc
    ]

pub cut_number : (number rest : List ℕ) → IsTrue (is_number number) → digits_len rest ≡ 0 → fraction_len rest ≡ 0 → cut 0 (number ++ rest)
    ≡ put_before (Number, number) (cut 0 rest)
cut_number [] rest h d f = let bad : false ≡ true = h in cc
cut_number (b ∷ bytes) rest h d f =
    let parts = and_parts (not (eqb (digits_len (b ∷ bytes)) 0)) (eqb (number_len (b ∷ bytes)) (length (b ∷ bytes))) h in
    let digit = begins_with_digit b bytes parts.0 in
    let all : number_len (b ∷ bytes) ≡ suc (length bytes) = (Decides-eqb (number_len (b ∷ bytes)) (suc (length bytes))).0 parts.1 in
    cut_front b bytes rest Number (digit_is_no_blank b digit)
    (token_number b (bytes ++ rest) digit ∙ ap (λ n. Some (Number, n)) (number_len_append (b ∷ bytes) rest d f ∙ all))

-- ---- texts

stops_at_quote : (bytes : List ℕ) → position_or_len is_quote bytes < length bytes → is_quote (get_or bytes (position_or_len is_quote bytes) 0) ≡ true
stops_at_quote bytes h = true_from_not _ (prefix_len_stops (λ b. not (is_quote b)) bytes 0 h)

pub text_len_append : (bytes rest : List ℕ) (n : ℕ) → text_len bytes ≡ Some n → text_len (bytes ++ rest) ≡ Some n
text_len_append bytes rest n h =
    elim (cases_Bool (ltb (position_or_len is_quote bytes) (length bytes))) [
      | inl closed ↦
          let within : position_or_len is_quote bytes < length bytes = ltb-true (position_or_len is_quote bytes) (length bytes) closed in
          let found : position_or_len is_quote bytes + 2 ≡ n = some_is (rw closed at h) in
          let inside : eqb (position_or_len is_quote bytes) (length bytes) ≡ false =
          ne_eqb (position_or_len is_quote bytes) (length bytes) (λ e. omega arith) in
          let same : position_or_len is_quote (bytes ++ rest) ≡ position_or_len is_quote bytes =
          prefix_len-append (λ x. not (is_quote x)) bytes rest ∙ passed (eqb (position_or_len is_quote bytes) (length bytes)) _ _ inside in
          let more : position_or_len is_quote bytes < length (bytes ++ rest) = omega (arith, length-append bytes rest) in
          text_len_at (bytes ++ rest) (position_or_len is_quote bytes) same more ∙ ap (λ m. Some m) found
      | inr none ↦ absurd (none_is_some (rw none at h))
    ]

pub token_quote : (bytes : List ℕ) → token_at (34 ∷ bytes) ≡ option_map (λ n. (Text, n)) (text_len bytes)
unfolding token_at
token_quote bytes = refl

pub cut_text : (text rest : List ℕ) → IsQuoted text → cut 0 (text ++ rest) ≡ put_before (Text, text) (cut 0 rest)
cut_text [] rest h = absurd h
cut_text (b ∷ bytes) rest h =
    let quote : 34 ≡ b = sym (quote_is b h.0) in
    let token : token_at (34 ∷ bytes ++ rest) ≡ Some (Text, suc (length bytes)) =
    token_quote (bytes ++ rest) ∙ ap (λ found. option_map (λ n. (Text, n)) found) (text_len_append bytes rest (suc (length bytes)) h.1) in
    subst (λ q. cut 0 (q ∷ bytes ++ rest) ≡ put_before (Text, q ∷ bytes) (cut 0 rest)) quote
    (cut_front 34 bytes rest Text refl token)

pub quoted_form : (inner : List ℕ) → IsTrue (has_no_quote inner) → IsQuoted (34 ∷ inner ++ 34 ∷ [])
quoted_form inner h =
    let place : position_or_len is_quote (inner ++ 34 ∷ []) ≡ length inner = prefix_len_all (λ b. not (is_quote b)) inner (34 ∷ []) h refl in
    let all : length (inner ++ 34 ∷ []) ≡ length inner + 1 = length-append inner (34 ∷ []) in
    let count : length inner + 2 ≡ suc (length (inner ++ 34 ∷ [])) = omega arith in
    (refl, text_len_at (inner ++ 34 ∷ []) (length inner) place (omega arith) ∙ ap (λ m. Some m) count)

-- what stands between the quotes
pub inside_quotes : (bytes : List ℕ) → text_len bytes ≡ Some (suc (length bytes)) → (bytes ≡ take (length bytes - 1) bytes ++ 34 ∷ [])
    × IsTrue (has_no_quote (take (length bytes - 1) bytes)) × (0 < length bytes)
inside_quotes bytes h =
    elim (cases_Bool (ltb (position_or_len is_quote bytes) (length bytes))) [
      | inl closed ↦
          let within : position_or_len is_quote bytes < length bytes = ltb-true (position_or_len is_quote bytes) (length bytes) closed in
          let found : position_or_len is_quote bytes + 2 ≡ suc (length bytes) = some_is (rw closed at h) in
          let last : position_or_len is_quote bytes + 1 ≡ length bytes = omega arith in
          let inside : position_or_len is_quote bytes ≡ length bytes - 1 = omega arith in
          let stop : get_or bytes (position_or_len is_quote bytes) 0 ≡ 34 = quote_is _ (stops_at_quote bytes within) in
          let split : bytes ≡ take (position_or_len is_quote bytes) bytes ++ 34 ∷ [] =
          sym (take_all (position_or_len is_quote bytes + 1) bytes (omega arith))
          ∙ (take_more bytes (position_or_len is_quote bytes) 0 within
          ∙ ap (λ b. take (position_or_len is_quote bytes) bytes ++ b ∷ []) stop) in
          subst (λ n. (bytes ≡ take n bytes ++ 34 ∷ []) × IsTrue (has_no_quote (take n bytes)) × (0 < length bytes)) inside
          (split, front_passes (λ b. not (is_quote b)) bytes, omega arith)
      | inr none ↦ absurd (none_is_some (rw none at h))
    ]

-- ---- symbols that begin no longer one

-- P holds of each
abbrev OfEach : (ℕ → Type 0) → List ℕ → Type 0
OfEach P [] = Unit {0}
OfEach P (x ∷ xs) = P x × OfEach P xs

of_each : (P : ℕ → Type 0) (xs : List ℕ) (b : ℕ) → OfEach P xs → list_any (λ s. eqb s b) xs ≡ true → P b
of_each P [] b each h = let bad : false ≡ true = h in cc
of_each P (x ∷ xs) b each h =
    elim (cases_Bool (eqb x b)) [
      | inl same ↦ subst P ((Decides-eqb x b).0 same) each.0
      | inr other ↦ of_each P xs b each.1 (rw other at h)
    ]

-- a symbol that begins no longer one, whatever stands after it
alone : (rest : List ℕ) → OfEach (λ b. token_at (b ∷ rest) ≡ single_symbol b) (codes "()[],.+-*=")
unfolding token_at symbols
alone [] = (refl, (refl, (refl, (refl, (refl, (refl, (refl, (refl, (refl, (refl, tt))))))))))
alone (c ∷ rest) = (refl, (refl, (refl, (refl, (refl, (refl, (refl, (refl, (refl, (refl, tt))))))))))

pub cut_symbol : (symbol : ℕ) (rest : List ℕ) (code : ℕ) → IsTrue (stands_alone symbol) → code_of symbols (symbol ∷ []) ≡ Some code
    → cut 0 (symbol ∷ rest) ≡ put_before (Sym code, symbol ∷ []) (cut 0 rest)
cut_symbol symbol rest code h e =
    let blank : is_blank symbol ≡ false = of_each (λ b. is_blank b ≡ false) (codes "()[],.+-*=") symbol
    (refl, (refl, (refl, (refl, (refl, (refl, (refl, (refl, (refl, (refl, tt)))))))))) h in
    let token : token_at (symbol ∷ rest) ≡ Some (Sym code, 1) =
    of_each (λ b. token_at (b ∷ rest) ≡ single_symbol b) (codes "()[],.+-*=") symbol (alone rest) h ∙ ap (λ found. option_map (λ c. (Sym c, 1)) found) e in
    cut_front symbol [] rest (Sym code) blank token

-- ---- blanks

pub cut_blank : (b : ℕ) (rest : List ℕ) → IsTrue (is_blank b) → cut 0 (b ∷ rest) ≡ cut 0 rest
unfolding cut
cut_blank b rest h = rw h refl

pub unquoted_parts : (text : List ℕ) → IsQuoted text → (text ≡ 34 ∷ take (length text - 1 - 1) (drop 1 text) ++ 34 ∷ [])
    × IsTrue (has_no_quote (take (length text - 1 - 1) (drop 1 text)))
unquoted_parts [] h = absurd h
unquoted_parts (b ∷ bytes) h =
    let parts = inside_quotes bytes h.1 in
    let count : suc (length bytes) - 1 - 1 ≡ length bytes - 1 = omega arith in
    rw count (subst (λ q. q ∷ bytes ≡ 34 ∷ take (length bytes - 1) bytes ++ 34 ∷ []) (sym (quote_is b h.0)) (ap (λ rest. 34 ∷ rest) parts.0), parts.1)
