-- For this crate and for the crates above: the tokens of a line, with their places and without.
use Rattle.std.proofs.Common.{◌≡◌, ℕ, zero, suc, ◌+◌, ◌-◌, List, [], ◌∷◌, Option, Some, None, Ok, Err, Result, drop, take, map, refl, sym, ◌∙◌, ap, arith, inl, inr}
use Rattle.std.specs.Prelude.{option_map, option_and_then}
use Rattle.std.specs.Option.{option_map_or}
use Rattle.std.specs.Result.{result_ok, result_err, result_unwrap_or}
use Rattle.std.proofs.lemmas.Bool.{cases_Bool}
use Rattle.std.proofs.lemmas.List.{drop-drop}
use Rattle.ftl_lexer.specs.declared.kinds.Kind.{Kind}
use Rattle.ftl_lexer.specs.declared.kinds.Token.{Token}
use Rattle.ftl_lexer.specs.Forms.{is_blank, token_at}
use Rattle.ftl_lexer.specs.Tokens.{lexed, with_first_token, bad_place, bytes_of_token, lexemes}
use Rattle.ftl_lexer.specs.Cut.{Lexeme, cut}

-- a token of a line without its place
abbrev pub bare : List ℕ → Token → Lexeme
bare line t = (t.kind, bytes_of_token line t)

cut_before : (line : List ℕ) (token : Token) (rest : Result (List Token) ℕ)
    → option_map (λ later. bare line token ∷ later) (option_map (map (bare line)) (result_ok rest))
    ≡ option_map (map (bare line)) (result_ok (with_first_token token rest))
cut_before line token (Ok tokens) = refl
cut_before line token (Err place) = refl

cut_token : (line : List ℕ) (place b : ℕ) (bytes : List ℕ) (found : Option (Kind × ℕ)) → b ∷ bytes ≡ drop place line → token_at (b ∷ bytes)
    ≡ found → ((n : ℕ) → cut n bytes ≡ option_map (map (bare line)) (result_ok (lexed n (place + 1) bytes)))
    → option_and_then (λ t. option_map (λ rest. (t.0, take t.1 (b ∷ bytes)) ∷ rest) (cut (t.1 - 1) bytes)) found
    ≡ option_map (map (bare line)) (result_ok (option_map_or
    (λ t. with_first_token (record { kind = t.0; lo = place; hi = place + t.1 }) (lexed (t.1 - 1) (place + 1) bytes)) found (Err place)))
cut_token line place b bytes None e h behind = refl
cut_token line place b bytes (Some t) e h behind =
    let token : Token = record { kind = t.0; lo = place; hi = place + t.1 } in
    let bytes_of : take t.1 (b ∷ bytes) ≡ bytes_of_token line token =
    let count : place + t.1 - place ≡ t.1 = omega arith in
    rw (count, ← e) refl in
    rw (bytes_of, behind (t.1 - 1)) (cut_before line token (lexed (t.1 - 1) (place + 1) bytes))

cut_lexed : (line : List ℕ) (skip place : ℕ) (bytes : List ℕ) → bytes ≡ drop place line → cut skip bytes
    ≡ option_map (map (bare line)) (result_ok (lexed skip place bytes))
unfolding lexed cut
cut_lexed line skip place [] e = refl
cut_lexed line (suc skip) place (b ∷ bytes) e = cut_lexed line skip (place + 1) bytes (ap (drop 1) e ∙ drop-drop 1 place line)
cut_lexed line zero place (b ∷ bytes) e =
    let later : bytes ≡ drop (place + 1) line = ap (drop 1) e ∙ drop-drop 1 place line in
    elim (cases_Bool (is_blank b)) [
      | inl blank ↦ rw blank (cut_lexed line 0 (place + 1) bytes later)
      | inr other ↦ rw other (cut_token line place b bytes (token_at (b ∷ bytes)) e refl (λ n. cut_lexed line n (place + 1) bytes later))
    ]

pub cut_is : (line : List ℕ) → cut 0 line ≡ option_map (map (bare line)) (result_ok (lexed 0 0 line))
cut_is line = cut_lexed line 0 0 line refl

from_some : (f : List Token → List Lexeme) (r : Result (List Token) ℕ) (all : List Lexeme) → option_map f (result_ok r) ≡ Some all
    → (result_err r ≡ None) × (f (result_unwrap_or r []) ≡ all)
from_some f (Ok tokens) all h = let same : f tokens ≡ all = cc in (refl, same)
from_some f (Err place) all h = let bad : None ≡ Some all = h in cc

to_some : (f : List Token → List Lexeme) (r : Result (List Token) ℕ) → result_err r ≡ None → option_map f (result_ok r) ≡ Some (f (result_unwrap_or r []))
to_some f (Ok tokens) h = refl
to_some f (Err place) h = let bad : Some place ≡ None = h in cc

-- what a text is cut into are its tokens
pub lexemes_from_cut : (line : List ℕ) (all : List Lexeme) → cut 0 line ≡ Some all → (bad_place line ≡ None) × (lexemes line ≡ all)
lexemes_from_cut line all h = from_some (map (bare line)) (lexed 0 0 line) all (sym (cut_is line) ∙ h)

-- where no byte is bad, a line is cut into its tokens
pub cut_from_good : (line : List ℕ) → bad_place line ≡ None → cut 0 line ≡ Some (lexemes line)
cut_from_good line h = cut_is line ∙ to_some (map (bare line)) (lexed 0 0 line) h
