-- What the reader's tests say of words and symbols, by their codes.
use Rattle.command_text.proofs.Names.{◌≡◌, ℕ, zero, suc, ◌+◌, ◌<◌, ◌≤◌, Bool, true, false, ◌==◌, List, [], ◌∷◌, Option, Some, None, length, refl, sym, ap, ◌∙◌, arith, inl, inr, cases_Bool, eqb-true, if◌then◌else◌, nat_tests, nat_le, ltb, codes, bytes_eq, bytes_eq-Decides, slice_get, slice_get_past, slice_get_within, unwrap_or, is_short, short_word, WORD_LIMIT, Piece, NUMBER, ARROW, NAME, TEXT, WORD, RETRIEVE, reserved, signs, is_key, is_sign, sign_code, kind_in, kind_by_code, name_in, number_in, text_in, Reader, by_key, by_name, by_token, Kind, piece_of, ASSIGN, CLASS}
use Rattle.ftl_lexer.specs.declared.kinds.Kind.TheVariants as kinds
use Rattle.ftl_parser.proofs.reader.TableLemmas.{is_fixed, in_table, sign_fixed, word_fixed}

-- ---- symbols

-- the codes of symbols in the order of a table
abbrev AscendFrom : ℕ → List Piece → Type 0
AscendFrom n [] = Unit {0}
AscendFrom n (p ∷ table) = (sign_code p ≡ n) × AscendFrom (suc n) table

code_at : (table : List Piece) (n k : ℕ) → AscendFrom n table → k < length table → sign_code (unwrap_or (slice_get table k) ARROW) ≡ n + k
code_at [] n k all h = absurd (omega arith)
code_at (p ∷ table) n zero all h = all.0 ∙ omega arith
code_at (p ∷ table) n (suc k) all h = code_at table (suc n) k all.1 (omega arith) ∙ omega arith

signs_ascend : AscendFrom 0 signs
signs_ascend = (refl, (refl, (refl, (refl, (refl, (refl, (refl, (refl, (refl, (refl, (refl, (refl, (refl, (refl, (refl, (refl, tt))))))))))))))))

-- a symbol has the code of its place; past the table stands the last one
pub sign_of_sign : (code k : ℕ) → code < ASSIGN → is_sign code (unwrap_or (slice_get signs k) ARROW) ≡ (k == code)
sign_of_sign code k low =
    elim (cases_Bool (ltb k (length signs))) [
      | inl within ↦ ap (λ (n : ℕ). n == code) (code_at signs 0 k signs_ascend (grind (arith, nat_tests, within)) ∙ omega arith)
      | inr past ↦
          let all : length signs ≤ k = grind (arith, nat_tests, past) in
          let last : sign_code (unwrap_or (slice_get signs k) ARROW) ≡ ASSIGN = ap (λ (o : Option Piece). sign_code (unwrap_or o ARROW)) (slice_get_past signs k all) in
          ap (λ (n : ℕ). n == code) last ∙ unlike code k low all
    ]
  where
    unlike : (code k : ℕ) → code < ASSIGN → length signs ≤ k → (ASSIGN == code) ≡ (k == code)
    unlike code k low all = grind (arith, nat_tests, low, all)

-- no other token is a symbol
pub no_sign : (code : ℕ) (kind : Kind) (bytes : List ℕ) → code < ASSIGN → ((k : ℕ) → kind ≡ kinds.Sym k → ⊥) → is_sign code (piece_of kind bytes) ≡ false
no_sign code kind bytes low other = ap (λ (n : ℕ). n == code) (none kind other) ∙ unlike code low
  where
    none : (kind : Kind) → ((k : ℕ) → kind ≡ kinds.Sym k → ⊥) → sign_code (piece_of kind bytes) ≡ length signs
    none kinds.Name other = refl
    none kinds.Number other = refl
    none kinds.Text other = refl
    none (kinds.Sym k) other = absurd (other k refl)
    none (kinds.Key k) other = eqb-true (sign_code (piece_of (kinds.Key k) bytes)) (length signs) (in_table (λ p. sign_code p == length signs) reserved k (WORD k) refl refl)

    unlike : (code : ℕ) → code < ASSIGN → (length signs == code) ≡ false
    unlike code low = grind (arith, nat_tests, low)

-- ---- words

-- no word by its code
abbrev no_word : Piece → Bool
no_word (WORD k) = false
no_word p = true

-- what is told of a word is told of those of queries and of those by their codes
by_word : {X : Type 0} (f : Piece → X) (g : ℕ → X) (k : ℕ) → ((p : Piece) → is_fixed p ≡ true → no_word p ≡ true → k < CLASS → f p ≡ g k)
    → f (WORD k) ≡ g k → f (unwrap_or (slice_get reserved k) (WORD k)) ≡ g k
by_word f g k first other = by_row (slice_get reserved k) refl
  where
    by_row : (o : Option Piece) → slice_get reserved k ≡ o → f (unwrap_or o (WORD k)) ≡ g k
    by_row None e = other
    by_row (Some p) e =
        let here : unwrap_or (slice_get reserved k) RETRIEVE ≡ p = ap (λ (o : Option Piece). unwrap_or o RETRIEVE) e in
        first p (ap is_fixed (sym here) ∙ in_table is_fixed reserved k RETRIEVE refl refl)
        (ap no_word (sym here) ∙ in_table no_word reserved k RETRIEVE refl refl) (slice_get_within reserved k p e)

-- and no symbol is one
sign_is_no_word : (k : ℕ) → no_word (unwrap_or (slice_get signs k) ARROW) ≡ true
sign_is_no_word k = in_table no_word signs k ARROW refl refl

pub sign_is_other : (code k : ℕ) → unwrap_or (slice_get signs k) ARROW ≡ WORD code → ⊥
sign_is_other code k e = let bad : true ≡ false = sym (sign_is_no_word k) ∙ ap no_word e in absurd (cc)

-- a word by its code has this code
pub word_is_coded : (code k : ℕ) → unwrap_or (slice_get reserved k) (WORD k) ≡ WORD code → k ≡ code
word_is_coded code k = by_row (slice_get reserved k) refl
  where
    by_row : (o : Option Piece) → slice_get reserved k ≡ o → unwrap_or o (WORD k) ≡ WORD code → k ≡ code
    by_row None e same = cc
    by_row (Some p) e same =
        let old : no_word (unwrap_or (slice_get reserved k) RETRIEVE) ≡ true = in_table no_word reserved k RETRIEVE refl refl in
        let bad : true ≡ false = sym old ∙ ap (λ (o : Option Piece). no_word (unwrap_or o RETRIEVE)) e ∙ ap no_word same in
        absurd (cc)

no_key : (code : ℕ) (p : Piece) → no_word p ≡ true → is_key code p ≡ false
no_key code (WORD k) h = absurd (cc)
no_key code p h = refl

pub key_of_word : (code k : ℕ) → CLASS ≤ code → is_key code (unwrap_or (slice_get reserved k) (WORD k)) ≡ (k == code)
key_of_word code k high = by_word (is_key code) (λ n. n == code) k (λ p fixed old low. no_key code p old ∙ unlike code k high low) refl
  where
    unlike : (code k : ℕ) → CLASS ≤ code → k < CLASS → false ≡ (k == code)
    unlike code k high low = grind (arith, nat_tests, high, low)

pub key_of_sign : (code k : ℕ) → is_key code (unwrap_or (slice_get signs k) ARROW) ≡ false
key_of_sign code k = no_key code (unwrap_or (slice_get signs k) ARROW) (sign_is_no_word k)

no_kind : (p : Piece) → no_word p ≡ true → kind_in p ≡ None
no_kind (WORD k) h = absurd (cc)
no_kind p h = refl

pub kind_of_word : (k : ℕ) → kind_in (unwrap_or (slice_get reserved k) (WORD k)) ≡ kind_by_code k
kind_of_word k = by_word kind_in kind_by_code k (λ p fixed old low. no_kind p old ∙ none_low k low) refl
  where
    none_low : (k : ℕ) → k < CLASS → None ≡ kind_by_code k
    none_low k low = grind (arith, nat_tests, low)

pub kind_not_in : (kind : Kind) (bytes : List ℕ) → ((k : ℕ) → kind ≡ kinds.Key k → ⊥) → kind_in (piece_of kind bytes) ≡ None
kind_not_in kinds.Name bytes other = refl
kind_not_in kinds.Number bytes other = refl
kind_not_in kinds.Text bytes other = refl
kind_not_in (kinds.Sym k) bytes other = no_kind (unwrap_or (slice_get signs k) ARROW) (sign_is_no_word k)
kind_not_in (kinds.Key k) bytes other = absurd (other k refl)

-- ---- no symbol and no word is a name, a number or a text

no_name : (p : Piece) → is_fixed p ≡ true → name_in p ≡ None
no_name (NAME n) h = absurd (cc)
no_name p h = refl

no_number : (p : Piece) → is_fixed p ≡ true → number_in p ≡ None
no_number (NUMBER n) h = absurd (cc)
no_number p h = refl

no_text : (p : Piece) → is_fixed p ≡ true → text_in p ≡ None
no_text (TEXT t) h = absurd (cc)
no_text p h = refl

pub name_not_in : (kind : Kind) (bytes : List ℕ) → (kind ≡ kinds.Name → ⊥) → name_in (piece_of kind bytes) ≡ None
name_not_in kinds.Name bytes other = absurd (other refl)
name_not_in kinds.Number bytes other = refl
name_not_in kinds.Text bytes other = refl
name_not_in (kinds.Sym k) bytes other = no_name (unwrap_or (slice_get signs k) ARROW) (sign_fixed k)
name_not_in (kinds.Key k) bytes other = no_name (unwrap_or (slice_get reserved k) (WORD k)) (word_fixed k)

pub number_not_in : (kind : Kind) (bytes : List ℕ) → (kind ≡ kinds.Number → ⊥) → number_in (piece_of kind bytes) ≡ None
number_not_in kinds.Name bytes other = refl
number_not_in kinds.Number bytes other = absurd (other refl)
number_not_in kinds.Text bytes other = refl
number_not_in (kinds.Sym k) bytes other = no_number (unwrap_or (slice_get signs k) ARROW) (sign_fixed k)
number_not_in (kinds.Key k) bytes other = no_number (unwrap_or (slice_get reserved k) (WORD k)) (word_fixed k)

pub text_not_in : (kind : Kind) (bytes : List ℕ) → (kind ≡ kinds.Text → ⊥) → text_in (piece_of kind bytes) ≡ None
text_not_in kinds.Name bytes other = refl
text_not_in kinds.Number bytes other = refl
text_not_in kinds.Text bytes other = absurd (other refl)
text_not_in (kinds.Sym k) bytes other = no_text (unwrap_or (slice_get signs k) ARROW) (sign_fixed k)
text_not_in (kinds.Key k) bytes other = no_text (unwrap_or (slice_get reserved k) (WORD k)) (word_fixed k)

pub ruleset token_tests = (sign_of_sign, no_sign, key_of_sign, key_of_word, kind_of_word, kind_not_in, name_not_in, number_not_in, text_not_in)

-- ---- the command that a first token begins

none_begins : (p : Piece) (s : Reader) → is_fixed p ≡ true → no_word p ≡ true → by_token p s ≡ None
none_begins (NAME n) s fixed old = absurd (cc)
none_begins (WORD k) s fixed old = absurd (cc)
none_begins p s fixed old = refl

pub key_begins : (code : ℕ) (s : Reader) → by_token (unwrap_or (slice_get reserved code) (WORD code)) s ≡ by_key code s
key_begins code s =
    by_word (λ p. by_token p s) (λ k. by_key k s) code (λ p fixed old low. none_begins p s fixed old ∙ none_low code s low) refl
  where
    none_low : (k : ℕ) (s : Reader) → k < CLASS → None ≡ by_key k s
    none_low k s low = grind (arith, nat_tests, low)

pub sign_begins : (code : ℕ) (s : Reader) → by_token (unwrap_or (slice_get signs code) ARROW) s ≡ None
sign_begins code s = none_begins (unwrap_or (slice_get signs code) ARROW) s (sign_fixed code) (sign_is_no_word code)

-- a word that is too long is none of these
unlike_short : (word other : List ℕ) → is_short word ≡ false → length other ≤ WORD_LIMIT → bytes_eq word other ≡ false
unlike_short word other long short =
    elim (cases_Bool (bytes_eq word other)) [
      | inl same ↦
          let size : length word ≡ length other = ap length ((bytes_eq-Decides word other).0 same) in
          absurd (past (length word) long (omega (arith, size, short)))
      | inr unlike ↦ unlike
    ]
  where
    past : (n : ℕ) → nat_le n WORD_LIMIT ≡ false → n ≤ WORD_LIMIT → ⊥
    past n long short = grind (arith, nat_tests, long, short)

skip : {X : Type 0} (b : Bool) (x y : X) → b ≡ false → (if b then x else y) ≡ y
skip b x y h = ap (λ b. if b then x else y) h

long_begins : (word : List ℕ) (s : Reader) → is_short word ≡ false → by_name word s ≡ None
long_begins word s long =
    skip (bytes_eq word (codes "nearest")) _ _ (unlike_short word (codes "nearest") long (omega arith))
    ∙ skip (bytes_eq word (codes "must")) _ _ (unlike_short word (codes "must") long (omega arith))
    ∙ skip (bytes_eq word (codes "may")) _ _ (unlike_short word (codes "may") long (omega arith))
    ∙ skip (bytes_eq word (codes "index")) _ _ (unlike_short word (codes "index") long (omega arith))
    ∙ skip (bytes_eq word (codes "range")) _ _ (unlike_short word (codes "range") long (omega arith))

pub name_begins : (word : List ℕ) (s : Reader) → by_token (NAME (short_word word)) s ≡ by_name word s
name_begins word s =
    elim (cases_Bool (is_short word)) [
      | inl short ↦ ap (λ b. by_name (if b then word else []) s) short
      | inr long ↦ ap (λ b. by_name (if b then word else []) s) long ∙ sym (long_begins word s long)
    ]
