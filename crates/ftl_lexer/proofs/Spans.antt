-- For this crate and for the crates above: the spans of the tokens ascend and lie in the line, and nothing but blanks stands between them.
use Rattle.std.proofs.Common.{◌≡◌, ℕ, zero, suc, ◌+◌, ◌-◌, ◌<◌, ◌≤◌, List, [], ◌∷◌, Option, Some, None, Ok, Err, Result, length, get_or, take, drop, true, refl, sym, ◌∙◌, ap, subst, arith, inl, inr}
use Rattle.std.specs.Prelude.{slice_get, map}
use Rattle.std.specs.List.{list_all}
use Rattle.std.specs.Option.{option_map_or}
use Rattle.std.specs.Result.{result_err, result_unwrap_or}
use Rattle.std.proofs.lemmas.Bool.{cases_Bool, and_from}
use Rattle.std.proofs.lemmas.List.{drop-drop, take_all}
use Rattle.ftl_lexer.specs.declared.kinds.Kind.{Kind}
use Rattle.ftl_lexer.specs.declared.kinds.Token.{Token}
use Rattle.ftl_lexer.specs.Forms.{is_blank, token_at}
use Rattle.ftl_lexer.specs.Laws.{SpansAscend, AreBlanks, GapsAreBlank}
use Rattle.ftl_lexer.specs.Tokens.{lexed, with_first_token, tokens_of, bad_place, texts_of_tokens, bytes_of_token}
use Rattle.ftl_lexer.proofs.Steps.{token_at_within}

abbrev kept : Result (List Token) ℕ → List Token
kept r = result_unwrap_or r []

-- an earlier start serves too
ascend_from : (low from end : ℕ) (tokens : List Token) → low ≤ from → SpansAscend from end tokens → SpansAscend low end tokens
ascend_from low from end [] h s = tt
ascend_from low from end (t ∷ tokens) h s = (omega (arith, s.0), s.1, s.2, s.3)

ascend_before : (end : ℕ) (token : Token) (rest : Result (List Token) ℕ) (low : ℕ) → low ≤ token.lo → token.lo < token.hi → token.hi ≤ end
    → SpansAscend token.hi end (kept rest) → SpansAscend low end (kept (with_first_token token rest))
ascend_before end token (Ok tokens) low a b c s = (a, b, c, s)
ascend_before end token (Err place) low a b c s = tt

-- a token, before those after it
ascend_token : (end place b : ℕ) (bytes : List ℕ) (found : Option (Kind × ℕ)) → place + suc (length bytes) ≡ end → token_at (b ∷ bytes)
    ≡ found → ((n : ℕ) → n ≤ length bytes → SpansAscend (place + 1 + n) end (kept (lexed n (place + 1) bytes)))
    → SpansAscend place end (kept (option_map_or (λ t. with_first_token (record { kind = t.0; lo = place; hi = place + t.1 })
    (lexed (t.1 - 1) (place + 1) bytes)) found (Err place)))
ascend_token end place b bytes None e h behind = tt
ascend_token end place b bytes (Some t) e h behind =
    let within = token_at_within (b ∷ bytes) t.0 t.1 h in
    let shorter : t.1 - 1 ≤ length bytes = omega (arith, within.0, within.1) in
    let start : place + 1 + (t.1 - 1) ≡ place + t.1 = omega (arith, within.0) in
    ascend_before end (record { kind = t.0; lo = place; hi = place + t.1 }) (lexed (t.1 - 1) (place + 1) bytes) place
    (omega arith) (omega (arith, within.0)) (omega (arith, within.1))
    (subst (λ low. SpansAscend low end (kept (lexed (t.1 - 1) (place + 1) bytes))) start (behind (t.1 - 1) shorter))

ascend_lexed : (end skip place : ℕ) (bytes : List ℕ) → place + length bytes ≡ end → skip ≤ length bytes
    → SpansAscend (place + skip) end (kept (lexed skip place bytes))
unfolding lexed
ascend_lexed end skip place [] e h = tt
ascend_lexed end (suc skip) place (b ∷ bytes) e h =
    let start : place + 1 + skip ≡ place + suc skip = omega arith in
    subst (λ low. SpansAscend low end (kept (lexed skip (place + 1) bytes))) start (ascend_lexed end skip (place + 1) bytes (omega arith) (omega arith))
ascend_lexed end zero place (b ∷ bytes) e h =
    let behind : (n : ℕ) → n ≤ length bytes → SpansAscend (place + 1 + n) end (kept (lexed n (place + 1) bytes)) =
    λ n m. ascend_lexed end n (place + 1) bytes (omega arith) m in
    let start : place ≡ place + 0 = omega arith in
    subst (λ low. SpansAscend low end (kept (lexed 0 place (b ∷ bytes)))) start
    (elim (cases_Bool (is_blank b)) [
      | inl blank ↦ rw blank (ascend_from place (place + 1 + 0) end (kept (lexed 0 (place + 1) bytes)) (omega arith) (behind 0 (omega arith)))
      | inr other ↦ rw other (ascend_token end place b bytes (token_at (b ∷ bytes)) (omega arith) refl behind)
    ])

pub spans_ascend : (line : List ℕ) → SpansAscend 0 (length line) (tokens_of line)
spans_ascend line = ascend_lexed (length line) 0 0 line (omega arith) (omega arith)

-- ---- what stands between them

abbrev GapsIn : List ℕ → ℕ → Result (List Token) ℕ → Type 0
GapsIn line from (Ok tokens) = GapsAreBlank line from tokens
GapsIn line from (Err place) = Unit {0}

nothing_between : (line : List ℕ) (place : ℕ) → AreBlanks line place place
nothing_between line place =
    let none : place - place ≡ 0 = omega arith in
    ap (λ (n : ℕ). list_all is_blank (take n (drop place line))) none

nothing_behind : (line : List ℕ) (place : ℕ) → [] ≡ drop place line → AreBlanks line place (length line)
nothing_behind line place e =
    ap (λ (bytes : List ℕ). list_all is_blank (take (length line - place) bytes)) (sym e)
    ∙ ap (list_all is_blank) (take_all (length line - place) [] (omega arith))

-- a blank before others
one_more_blank : (line bytes : List ℕ) (place to b : ℕ) → b ∷ bytes ≡ drop place line → is_blank b ≡ true → place < to
    → AreBlanks line (place + 1) to → AreBlanks line place to
one_more_blank line bytes place to b e blank less are =
    let rest : bytes ≡ drop (place + 1) line = ap (drop 1) e ∙ drop-drop 1 place line in
    let count : to - place ≡ suc (to - (place + 1)) = omega arith in
    let later : list_all is_blank (take (to - (place + 1)) bytes) ≡ true = ap (λ (x : List ℕ). list_all is_blank (take (to - (place + 1)) x)) rest ∙ are in
    ap (λ (x : List ℕ). list_all is_blank (take (to - place) x)) (sym e)
    ∙ (ap (λ (n : ℕ). list_all is_blank (take n (b ∷ bytes))) count
    ∙ and_from (is_blank b) (list_all is_blank (take (to - (place + 1)) bytes)) blank later)

gaps_from : (line bytes : List ℕ) (place b : ℕ) (tokens : List Token) → b ∷ bytes ≡ drop place line → is_blank b ≡ true → place < length line
    → SpansAscend (place + 1) (length line) tokens → GapsAreBlank line (place + 1) tokens → GapsAreBlank line place tokens
gaps_from line bytes place b [] e blank within spans gaps = one_more_blank line bytes place (length line) b e blank within gaps
gaps_from line bytes place b (t ∷ tokens) e blank within spans gaps = (one_more_blank line bytes place t.lo b e blank (omega (arith, spans.0)) gaps.0, gaps.1)

gaps_after_blank : (line bytes : List ℕ) (place b : ℕ) (rest : Result (List Token) ℕ) → b ∷ bytes ≡ drop place line → is_blank b ≡ true → place < length line
    → SpansAscend (place + 1) (length line) (kept rest) → GapsIn line (place + 1) rest → GapsIn line place rest
gaps_after_blank line bytes place b (Ok tokens) e blank within spans gaps = gaps_from line bytes place b tokens e blank within spans gaps
gaps_after_blank line bytes place b (Err bad) e blank within spans gaps = tt

gaps_before : (line : List ℕ) (token : Token) (rest : Result (List Token) ℕ) → GapsIn line token.hi rest → GapsIn line token.lo (with_first_token token rest)
gaps_before line token (Ok tokens) gaps = (nothing_between line token.lo, gaps)
gaps_before line token (Err place) gaps = tt

gaps_token : (line : List ℕ) (place b : ℕ) (bytes : List ℕ) (found : Option (Kind × ℕ)) → token_at (b ∷ bytes) ≡ found
    → ((n : ℕ) → n ≤ length bytes → GapsIn line (place + 1 + n) (lexed n (place + 1) bytes))
    → GapsIn line place (option_map_or (λ t. with_first_token (record { kind = t.0; lo = place; hi = place + t.1 })
    (lexed (t.1 - 1) (place + 1) bytes)) found (Err place))
gaps_token line place b bytes None h behind = tt
gaps_token line place b bytes (Some t) h behind =
    let within = token_at_within (b ∷ bytes) t.0 t.1 h in
    let shorter : t.1 - 1 ≤ length bytes = omega (arith, within.0, within.1) in
    let start : place + 1 + (t.1 - 1) ≡ place + t.1 = omega (arith, within.0) in
    gaps_before line (record { kind = t.0; lo = place; hi = place + t.1 }) (lexed (t.1 - 1) (place + 1) bytes)
    (subst (λ (low : ℕ). GapsIn line low (lexed (t.1 - 1) (place + 1) bytes)) start (behind (t.1 - 1) shorter))

gaps_lexed : (line : List ℕ) (skip place : ℕ) (bytes : List ℕ) → bytes ≡ drop place line → place + length bytes ≡ length line → skip
    ≤ length bytes → GapsIn line (place + skip) (lexed skip place bytes)
unfolding lexed
gaps_lexed line skip place [] e all h =
    let start : place ≡ place + skip = omega arith in
    subst (λ (low : ℕ). GapsIn line low (Ok [])) start (nothing_behind line place e)
gaps_lexed line (suc skip) place (b ∷ bytes) e all h =
    let start : place + 1 + skip ≡ place + suc skip = omega arith in
    let later : bytes ≡ drop (place + 1) line = ap (drop 1) e ∙ drop-drop 1 place line in
    subst (λ (low : ℕ). GapsIn line low (lexed skip (place + 1) bytes)) start (gaps_lexed line skip (place + 1) bytes later (omega arith) (omega arith))
gaps_lexed line zero place (b ∷ bytes) e all h =
    let later : bytes ≡ drop (place + 1) line = ap (drop 1) e ∙ drop-drop 1 place line in
    let behind : (n : ℕ) → n ≤ length bytes → GapsIn line (place + 1 + n) (lexed n (place + 1) bytes) =
    λ n m. gaps_lexed line n (place + 1) bytes later (omega arith) m in
    let start : place ≡ place + 0 = omega arith in
    let next : place + 1 + 0 ≡ place + 1 = omega arith in
    let spans : SpansAscend (place + 1) (length line) (kept (lexed 0 (place + 1) bytes)) =
    subst (λ (low : ℕ). SpansAscend low (length line) (kept (lexed 0 (place + 1) bytes))) next
    (ascend_lexed (length line) 0 (place + 1) bytes (omega arith) (omega arith)) in
    let gaps : GapsIn line (place + 1) (lexed 0 (place + 1) bytes) =
    subst (λ (low : ℕ). GapsIn line low (lexed 0 (place + 1) bytes)) next (behind 0 (omega arith)) in
    subst (λ (low : ℕ). GapsIn line low (lexed 0 place (b ∷ bytes))) start
    (elim (cases_Bool (is_blank b)) [
      | inl blank ↦ rw blank (gaps_after_blank line bytes place b (lexed 0 (place + 1) bytes) e blank (omega arith) spans gaps)
      | inr other ↦ rw other (gaps_token line place b bytes (token_at (b ∷ bytes)) refl behind)
    ])

gaps_kept : (line : List ℕ) (r : Result (List Token) ℕ) → result_err r ≡ None → GapsIn line 0 r → GapsAreBlank line 0 (kept r)
gaps_kept line (Ok tokens) good gaps = gaps
gaps_kept line (Err place) good gaps = let bad : Some place ≡ None = good in absurd (cc)

pub gaps_are_blank : (line : List ℕ) → bad_place line ≡ None → GapsAreBlank line 0 (tokens_of line)
gaps_are_blank line good = gaps_kept line (lexed 0 0 line) good (gaps_lexed line 0 0 line refl (omega arith) (omega arith))

kept_none : (r : Result (List Token) ℕ) (place : ℕ) → result_err r ≡ Some place → kept r ≡ []
kept_none (Ok tokens) place bad = let none : None ≡ Some place = bad in absurd (cc)
kept_none (Err at) place bad = refl

-- a line that has a byte at which no token begins has no tokens
pub no_tokens : (line : List ℕ) (place : ℕ) → bad_place line ≡ Some place → tokens_of line ≡ []
no_tokens line place bad = kept_none (lexed 0 0 line) place bad

-- ---- one token by its place

-- one of them
pub span_at : (from end : ℕ) (tokens : List Token) (i : ℕ) (d : Token) → SpansAscend from end tokens → i < length tokens
    → ((get_or tokens i d).lo < (get_or tokens i d).hi) × ((get_or tokens i d).hi ≤ end)
span_at from end [] i d s h = absurd (omega arith)
span_at from end (t ∷ tokens) zero d s h = (s.1, s.2)
span_at from end (t ∷ tokens) (suc i) d s h = span_at t.hi end tokens i d s.3 (omega arith)

-- an element of a list that is made element by element
pub slice_get_map : {X Y : Type 0} (f : X → Y) (xs : List X) (i : ℕ) (d : X) → i < length xs → slice_get (map f xs) i ≡ Some (f (get_or xs i d))
slice_get_map f [] i d h = absurd (omega arith)
slice_get_map f (x ∷ xs) zero d h = refl
slice_get_map f (x ∷ xs) (suc i) d h = slice_get_map f xs i d (omega arith)

-- the token that is stored at a place
pub stored_span : (line : List ℕ) (stored : List Token) (i : ℕ) (token : Token) → stored ≡ tokens_of line → token ≡ get_or stored i token
    → i < length (tokens_of line) → (token.lo ≤ token.hi) × (token.hi ≤ length line)
stored_span line stored i token e t h =
    let span = span_at 0 (length line) (tokens_of line) i token (spans_ascend line) h in
    let same : token ≡ get_or (tokens_of line) i token = t ∙ ap (λ tokens. get_or tokens i token) e in
    subst (λ x. (x.lo ≤ x.hi) × (x.hi ≤ length line)) (sym same) (omega (arith, span.0), span.1)

pub stored_text : (line : List ℕ) (stored : List Token) (i : ℕ) (token : Token) → stored ≡ tokens_of line → token ≡ get_or stored i token
    → i < length (tokens_of line) → slice_get (texts_of_tokens line) i ≡ Some (bytes_of_token line token)
stored_text line stored i token e t h =
    let same : token ≡ get_or (tokens_of line) i token = t ∙ ap (λ tokens. get_or tokens i token) e in
    slice_get_map (bytes_of_token line) (tokens_of line) i token h ∙ ap (λ x. Some (bytes_of_token line x)) (sym same)
