-- For this crate and for the crates above: how the tokens of a line follow one another.
use Rattle.std.proofs.Common.{◌≡◌, ℕ, zero, suc, ◌+◌, ◌-◌, ◌<◌, ◌≤◌, inl, inr, Bool, List, [], ◌∷◌, ◌++◌, Option, Some, None, Result, Ok, Err, length, drop, true, false, refl, sym, ◌∙◌, ap, subst, arith, lit≤, cond, ltb, eqb}
use Rattle.std.specs.Prelude.{option_map}
use Rattle.std.specs.List.{prefix_len, position_or_len}
use Rattle.std.specs.Option.{option_map_or}
use Rattle.std.specs.Char.{is_ascii_digit}
use Rattle.std.proofs.lemmas.Bool.{cases_Bool}
use Rattle.std.proofs.lemmas.Bool.Decides.{nat_tests}
use Rattle.std.proofs.lemmas.List.{drop-drop, length-drop, drop_all}
use Rattle.std.proofs.lemmas.List.Sums.{prefix_len-le-length}
use Rattle.std.proofs.Math.Numerals.{one-add, add-one}
use Rattle.std.proofs.Common.{add-zero}
use borrow.Author.Tests.{ltb-true}
use Rattle.case_table.specs.Rows.{code_of}
use Rattle.case_table.specs.Language.{symbols}
use Rattle.ftl_lexer.specs.declared.kinds.Kind.{Kind}
use Rattle.ftl_lexer.specs.declared.kinds.Kind.TheVariants.{Number, Text, Sym}
use Rattle.ftl_lexer.specs.declared.kinds.Token.{Token}
use Rattle.ftl_lexer.specs.Forms.{is_blank, begins_name, continues_name, is_quote, name_len, digits_len, fraction_len, number_len, text_len, single_symbol, symbol_at, token_at}
use Rattle.ftl_lexer.specs.Tokens.{lexed, with_first_token, tokens_of, bad_place}

-- ---- what a token's kind and length are

pub none_is_some : {X : Type 0} {x : X} → None ≡ Some x → ⊥
none_is_some h = cc

-- the part of a choice that its test picks
pub then_part : {X : Type 0} (b : Bool) (x y z : X) → b ≡ true → cond b x y ≡ z → x ≡ z
then_part b x y z t h = rw t at h

pub else_part : {X : Type 0} (b : Bool) (x y z : X) → b ≡ false → cond b x y ≡ z → y ≡ z
else_part b x y z t h = rw t at h

-- the length in an answer
length_in : {K : Type 0} → Option (K × ℕ) → ℕ
length_in None = 0
length_in (Some t) = t.1

pub len_is : {K : Type 0} (k kind : K) (n len : ℕ) → ◌≡◌ {A = Option (K × ℕ)} (Some (k, n)) (Some (kind, len)) → n ≡ len
unfolding length_in
len_is k kind n len h = ap length_in h

-- what begins a name may stand in it
pub begins_continues : (b : ℕ) → begins_name b ≡ true → continues_name b ≡ true
begins_continues b h = grind (arith, nat_tests)

-- the first byte counts where it passes
pub prefix_len_first : (p : ℕ → Bool) (b : ℕ) (bytes : List ℕ) → p b ≡ true → 0 < prefix_len p (b ∷ bytes)
prefix_len_first p b bytes h = rw (h, one-add) (omega arith)

pub fraction_len_within : (bytes : List ℕ) → fraction_len bytes ≤ length bytes
fraction_len_within [] = omega arith
fraction_len_within (b ∷ bytes) =
    let digits : digits_len bytes ≤ length bytes = prefix_len-le-length is_ascii_digit bytes in
    elim (cases_Bool (eqb b 46)) [
      | inl point ↦
          elim (cases_Bool (eqb (digits_len bytes) 0)) [
            | inl none ↦ rw (point, none) (omega arith)
            | inr some ↦ rw (point, some) (omega arith)
          ]
      | inr other ↦ rw other (omega arith)
    ]

pub number_len_within : (bytes : List ℕ) → number_len bytes ≤ length bytes
number_len_within bytes =
    let whole : digits_len bytes ≤ length bytes = prefix_len-le-length is_ascii_digit bytes in
    omega (arith, fraction_len_within (drop (digits_len bytes) bytes), length-drop (digits_len bytes) bytes)

pub text_len_within : (bytes : List ℕ) (len : ℕ) → text_len bytes ≡ Some len → (0 < len) × (len ≤ length bytes + 1)
text_len_within bytes len h =
    elim (cases_Bool (ltb (position_or_len is_quote bytes) (length bytes))) [
      | inl closed ↦
          let found : Some (position_or_len is_quote bytes + 2) ≡ Some len = rw closed at h in
          let within : position_or_len is_quote bytes < length bytes = ltb-true (position_or_len is_quote bytes) (length bytes) closed in
          let len_of : position_or_len is_quote bytes + 2 ≡ len = cc in
          (omega arith, omega arith)
      | inr open_text ↦ let bad : None ≡ Some len = rw open_text at h in cc
    ]

one_byte : (found : Option ℕ) (kind : Kind) (len : ℕ) → option_map {U = Kind × ℕ} (λ code. (Sym code, 1)) found ≡ Some (kind, len) → len ≡ 1
one_byte None kind len h = absurd (none_is_some h)
one_byte (Some code) kind len h = sym (len_is (Sym code) kind 1 len h)

pub single_symbol_within : (first : ℕ) (kind : Kind) (len : ℕ) → single_symbol first ≡ Some (kind, len) → len ≡ 1
single_symbol_within first kind len h = one_byte (code_of symbols (first ∷ [])) kind len h

two_bytes : (first : ℕ) (found : Option ℕ) (kind : Kind) (len more : ℕ)
    → option_map_or {U = Option (Kind × ℕ)} (λ code. Some (Sym code, 2)) found (single_symbol first) ≡ Some (kind, len) → (0 < len)
    × (len ≤ suc more + 1)
two_bytes first None kind len more h = let one = single_symbol_within first kind len h in (omega arith, omega arith)
two_bytes first (Some code) kind len more h = let two : 2 ≡ len = len_is (Sym code) kind 2 len h in (omega arith, omega arith)

pub symbol_at_within : (first : ℕ) (bytes : List ℕ) (kind : Kind) (len : ℕ) → symbol_at first bytes ≡ Some (kind, len) → (0 < len) × (len ≤ length bytes + 1)
symbol_at_within first [] kind len h = let one = single_symbol_within first kind len h in (omega arith, omega arith)
symbol_at_within first (second ∷ bytes) kind len h = two_bytes first (code_of symbols (first ∷ second ∷ [])) kind len (length bytes) h

text_within : (found : Option ℕ) (bytes : List ℕ) (kind : Kind) (len : ℕ) → text_len bytes ≡ found
    → option_map {U = Kind × ℕ} (λ n. (Text, n)) found ≡ Some (kind, len) → (0 < len) × (len ≤ suc (length bytes))
text_within None bytes kind len e h = absurd (none_is_some h)
text_within (Some n) bytes kind len e h =
    let parts = len_is Text kind n len h in
    let within = text_len_within bytes n e in
    (omega arith, omega arith)

-- a token has a byte, and no more than there are
pub token_at_within : (bytes : List ℕ) (kind : Kind) (len : ℕ) → token_at bytes ≡ Some (kind, len) → (0 < len) × (len ≤ length bytes)
unfolding token_at
token_at_within [] kind len h = absurd (none_is_some h)
token_at_within (b ∷ bytes) kind len h =
    elim (cases_Bool (begins_name b)) [
      | inl name ↦
          let parts = len_is _ kind (name_len (b ∷ bytes)) len (then_part (begins_name b) _ _ _ name h) in
          let some = prefix_len_first continues_name b bytes (begins_continues b name) in
          let within = prefix_len-le-length continues_name (b ∷ bytes) in
          (rw (← parts) some, rw (← parts) within)
      | inr no_name ↦
          let h_digit = else_part (begins_name b) _ _ _ no_name h in
          elim (cases_Bool (is_ascii_digit b)) [
            | inl digit ↦
                let parts = len_is Number kind (number_len (b ∷ bytes)) len (then_part (is_ascii_digit b) _ _ _ digit h_digit) in
                let some = prefix_len_first is_ascii_digit b bytes digit in
                let within = number_len_within (b ∷ bytes) in
                (omega arith, rw (← parts) within)
            | inr no_digit ↦
                let h_quote = else_part (is_ascii_digit b) _ _ _ no_digit h_digit in
                elim (cases_Bool (is_quote b)) [
                  | inl quote ↦ text_within (text_len bytes) bytes kind len refl (then_part (is_quote b) _ _ _ quote h_quote)
                  | inr no_quote ↦ rw add-one at (symbol_at_within b bytes kind len (else_part (is_quote b) _ _ _ no_quote h_quote))
                ]
          ]
    ]

-- ---- what stands after blanks, and after a token

-- skipped bytes only move the place
pub lexed_skip : (skip place : ℕ) (bytes : List ℕ) → skip ≤ length bytes → lexed skip place bytes ≡ lexed 0 (place + skip) (drop skip bytes)
unfolding lexed
lexed_skip zero place bytes h = ap (λ p. lexed 0 p bytes) (omega arith)
lexed_skip (suc skip) place [] h = absurd (omega arith)
lexed_skip (suc skip) place (b ∷ bytes) h =
    let shorter : skip ≤ length bytes = omega arith in
    lexed_skip skip (place + 1) bytes shorter ∙ ap (λ p. lexed 0 p (drop skip bytes)) (omega arith)

-- blanks only move the place
lexed_blanks_by : (place : ℕ) (bytes : List ℕ) (n : ℕ) → prefix_len is_blank bytes ≡ n → lexed 0 place bytes ≡ lexed 0 (place + n) (drop n bytes)
unfolding lexed
lexed_blanks_by place [] n e = subst (λ m. lexed 0 place [] ≡ lexed 0 (place + m) (drop m [])) e refl
lexed_blanks_by place (b ∷ bytes) n e =
    elim (cases_Bool (is_blank b)) [
      | inl blank ↦
          let count : suc (prefix_len is_blank bytes) ≡ n = rw (blank, one-add) at e in
          let moved : place + 1 + prefix_len is_blank bytes ≡ place + suc (prefix_len is_blank bytes) = omega arith in
          subst (λ m. lexed 0 place (b ∷ bytes) ≡ lexed 0 (place + m) (drop m (b ∷ bytes))) count
          (rw blank (lexed_blanks_by (place + 1) bytes (prefix_len is_blank bytes) refl ∙ ap (λ p. lexed 0 p (drop (prefix_len is_blank bytes) bytes)) moved))
      | inr other ↦
          let count : 0 ≡ n = rw other at e in
          subst (λ m. lexed 0 place (b ∷ bytes) ≡ lexed 0 (place + m) (drop m (b ∷ bytes))) count (ap (λ p. lexed 0 p (b ∷ bytes)) (sym (add-zero place)))
    ]

pub lexed_blanks : (place : ℕ) (bytes : List ℕ) → lexed 0 place bytes ≡ lexed 0 (place + prefix_len is_blank bytes) (drop (prefix_len is_blank bytes) bytes)
lexed_blanks place bytes = lexed_blanks_by place bytes (prefix_len is_blank bytes) refl

-- after the first blanks stands no blank
pub blanks_end : (bytes : List ℕ) → prefix_len is_blank (drop (prefix_len is_blank bytes) bytes) ≡ 0
blanks_end [] = refl
blanks_end (b ∷ bytes) =
    elim (cases_Bool (is_blank b)) [
      | inl blank ↦ rw (blank, one-add) (blanks_end bytes)
      | inr other ↦ rw (other, other) refl
    ]

-- where no blank stands at the front
front_is_no_blank : (b : ℕ) (bytes : List ℕ) → prefix_len is_blank (b ∷ bytes) ≡ 0 → is_blank b ≡ false
front_is_no_blank b bytes front =
    elim (cases_Bool (is_blank b)) [
      | inl blank ↦ let bad : 1 + prefix_len is_blank bytes ≡ 0 = rw blank at front in absurd (omega arith)
      | inr other ↦ other
    ]

-- a token's bytes are skipped
behind : (place b : ℕ) (bytes : List ℕ) (len : ℕ) → 0 < len → len ≤ suc (length bytes) → lexed (len - 1) (place + 1) bytes
    ≡ lexed 0 (place + len) (drop len (b ∷ bytes))
behind place b bytes zero some within = absurd (omega arith)
behind place b bytes (suc len) some within =
    let less : suc len - 1 ≡ len = omega arith in
    let shorter : len ≤ length bytes = omega arith in
    let moved : place + 1 + len ≡ place + suc len = omega arith in
    rw less (lexed_skip len (place + 1) bytes shorter ∙ ap (λ p. lexed 0 p (drop len bytes)) moved)

-- some tokens before those of the rest
abbrev pub after : List Token → Result (List Token) ℕ → Result (List Token) ℕ
after first (Ok tokens) = Ok (first ++ tokens)
after first (Err place) = Err place

-- a token stands before those after it
pub lexed_token : (place : ℕ) (bytes : List ℕ) (kind : Kind) (len : ℕ) → 0 < length bytes → prefix_len is_blank bytes ≡ 0 → token_at bytes
    ≡ Some (kind, len) → lexed 0 place bytes ≡ with_first_token (record { kind = kind; lo = place; hi = place + len })
    (lexed 0 (place + len) (drop len bytes))
unfolding lexed
lexed_token place [] kind len full front h = absurd (omega arith)
lexed_token place (b ∷ bytes) kind len full front h =
    let other = front_is_no_blank b bytes front in
    let within = token_at_within (b ∷ bytes) kind len h in
    rw (other, h) (ap (with_first_token (record { kind = kind; lo = place; hi = place + len })) (behind place b bytes len within.0 within.1))

pub lexed_bad : (place : ℕ) (bytes : List ℕ) → 0 < length bytes → prefix_len is_blank bytes ≡ 0 → token_at bytes ≡ None → lexed 0 place bytes ≡ Err place
unfolding lexed
lexed_bad place [] full front h = absurd (omega arith)
lexed_bad place (b ∷ bytes) full front h = rw (front_is_no_blank b bytes front, h) refl

-- ---- one step along a line

-- nothing but blanks stand from a place on
pub step_end : (line : List ℕ) (from blanks : ℕ) → blanks ≡ prefix_len is_blank (drop from line) → from + blanks ≡ length line
    → lexed 0 from (drop from line) ≡ Ok []
unfolding lexed
step_end line from blanks e h =
    lexed_blanks from (drop from line) ∙ rw (← e, drop-drop blanks from line, drop_all (from + blanks) line (omega arith)) refl

-- the length of what stands from a place on
rest_full : (line : List ℕ) (at : ℕ) → at < length line → 0 < length (drop at line)
rest_full line at h = rw length-drop (omega arith)

-- after the blanks from a place on stands no blank
rest_front : (line : List ℕ) (from blanks : ℕ) → blanks ≡ prefix_len is_blank (drop from line) → prefix_len is_blank (drop (from + blanks) line) ≡ 0
rest_front line from blanks e = rw (← drop-drop blanks from line, e) (blanks_end (drop from line))

pub step_within : (line : List ℕ) (at : ℕ) (kind : Kind) (len : ℕ) → at ≤ length line → token_at (drop at line) ≡ Some (kind, len)
    → (0 < len) × (at + len ≤ length line)
step_within line at kind len h found =
    let within = token_at_within (drop at line) kind len found in
    (within.0, omega (arith, within.1, length-drop at line))

pub step_token : (line : List ℕ) (from blanks : ℕ) (kind : Kind) (len : ℕ) → blanks ≡ prefix_len is_blank (drop from line)
    → from + blanks < length line → token_at (drop (from + blanks) line) ≡ Some (kind, len) → lexed 0 from (drop from line)
    ≡ with_first_token (record { kind = kind; lo = from + blanks; hi = from + blanks + len })
    (lexed 0 (from + blanks + len) (drop (from + blanks + len) line))
step_token line from blanks kind len e h found =
    let within = step_within line (from + blanks) kind len (omega arith) found in
    lexed_blanks from (drop from line)
    ∙ (ap (λ n. lexed 0 (from + n) (drop n (drop from line))) (sym e)
    ∙ (ap (lexed 0 (from + blanks)) (drop-drop blanks from line)
    ∙ (lexed_token (from + blanks) (drop (from + blanks) line) kind len (rest_full line (from + blanks) h) (rest_front line from blanks e) found
    ∙ ap (λ rest. with_first_token (record { kind = kind; lo = from + blanks; hi = from + blanks + len }) (lexed 0 (from + blanks + len) rest))
    (drop-drop len (from + blanks) line))))

pub step_bad : (line : List ℕ) (from blanks : ℕ) → blanks ≡ prefix_len is_blank (drop from line) → from + blanks < length line
    → token_at (drop (from + blanks) line) ≡ None → lexed 0 from (drop from line) ≡ Err (from + blanks)
step_bad line from blanks e h none =
    lexed_blanks from (drop from line)
    ∙ (ap (λ n. lexed 0 (from + n) (drop n (drop from line))) (sym e)
    ∙ (ap (lexed 0 (from + blanks)) (drop-drop blanks from line)
    ∙ lexed_bad (from + blanks) (drop (from + blanks) line) (rest_full line (from + blanks) h) (rest_front line from blanks e) none))

-- ---- the empty line

pub nothing_lexed : (line : List ℕ) (tokens : List Token) → line ≡ [] → tokens ≡ [] → (tokens ≡ tokens_of line) × (bad_place line ≡ None)
    × (length line ≤ 16384)
unfolding lexed
nothing_lexed line tokens l t = (t ∙ sym (ap tokens_of l), ap bad_place l, rw l (lit≤ tt))
