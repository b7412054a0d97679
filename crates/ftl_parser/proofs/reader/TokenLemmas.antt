-- The tokens of a line, one after the other.
use Rattle.ftl_parser.proofs.Names.{◌≡◌, ℕ, zero, suc, ◌+◌, ◌≤◌, Bool, true, false, List, [], ◌∷◌, ◌||◌, length, drop, Option, None, Some, option_map, position, slice_get, refl, sym, ap, ◌∙◌, arith, add-one, add-zero, nat_tests, length-map, slice_get_within, lexemes, tokens_of, Lexeme, Coming, Piece, piece_of, pieces, pieces_from, lexemes_from, is_long, has_long, coming, mark, scan, first_from, ◌-◌, Kind, not, length-take, is_short, unquoted, WORD_LIMIT}
use Rattle.std.proofs.lemmas.List.{length-drop}
use Rattle.std.specs.Prelude.{nat_le}
use Rattle.ftl_lexer.specs.declared.kinds.Kind.TheVariants as kinds

-- a token, and those after it
drop-pieces : (l : List Lexeme) (at : ℕ) (p : Piece) → slice_get (pieces l) at ≡ Some p → pieces (drop at l) ≡ p ∷ pieces (drop (suc at) l)
drop-pieces [] at p h = absurd (omega (arith, slice_get_within [] at p h))
drop-pieces (t ∷ l) zero p h =
    let e : piece_of t.0 t.1 ≡ p = cc in
    ap (λ x. x ∷ pieces l) e
drop-pieces (t ∷ l) (suc at) p h = drop-pieces l at p h

pub pieces_from-step : (line : List ℕ) (at : ℕ) (p : Piece) → slice_get (pieces (lexemes line)) at ≡ Some p → pieces_from at line
    ≡ p ∷ pieces_from (at + 1) line
pieces_from-step line at p h = rw add-one (drop-pieces (lexemes line) at p h)

drop-past : (l : List Lexeme) (at : ℕ) → length l ≤ at → drop at l ≡ []
drop-past [] zero h = refl
drop-past [] (suc at) h = refl
drop-past (t ∷ l) zero h = absurd (omega arith)
drop-past (t ∷ l) (suc at) h = drop-past l at (omega arith)

pub pieces_from-end : (line : List ℕ) (at : ℕ) → length (tokens_of line) ≤ at → pieces_from at line ≡ []
pieces_from-end line at h =
    let short : length (lexemes line) ≤ at = simp length-map h in
    ap pieces (drop-past (lexemes line) at short)

-- a place after one without a mark
position-later : (marks : List Bool) → position (λ mark. mark) (false ∷ marks) ≡ option_map suc (position (λ mark. mark) marks)
position-later marks = grind (arith, nat_tests)

position-here : (marks : List Bool) → position (λ mark. mark) (true ∷ marks) ≡ Some 0
position-here marks = grind (arith, nat_tests)

later : (at : ℕ) (o : Option ℕ) → option_map (λ n. (at + 1) + n) o ≡ option_map (λ n. at + n) (option_map suc o)
later at None = refl
later at (Some n) = ap Some (omega arith)

-- the first mark by its place
pub first_from-position : (at : ℕ) (marks : List Bool) → first_from at marks ≡ option_map (λ n. at + n) (position (λ mark. mark) marks)
first_from-position at [] = refl
first_from-position at (true ∷ marks) = ap Some (sym (add-zero at)) ∙ ap (option_map (λ n. at + n)) (sym (position-here marks))
first_from-position at (false ∷ marks) =
    first_from-position (at + 1) marks ∙ later at (position (λ mark. mark) marks) ∙ ap (option_map (λ n. at + n)) (sym (position-later marks))

-- one more token of a scan
pub scan-step : (line : List ℕ) (from at : ℕ) (c start : Coming) (p : Piece) → slice_get (pieces (lexemes line)) at ≡ Some p →
    mark c p (pieces_from (at + 1) line) ≡ false →
    first_from at (scan c (pieces_from at line)) ≡ first_from from (scan start (pieces_from from line)) →
    first_from (at + 1) (scan (coming c p) (pieces_from (at + 1) line)) ≡ first_from from (scan start (pieces_from from line))
scan-step line from at c start p token clear before =
    sym (ap (λ tokens. first_from at (scan c tokens)) (pieces_from-step line at p token)
    ∙ ap (λ m. first_from at (m ∷ scan (coming c p) (pieces_from (at + 1) line))) clear) ∙ before

drop-lexemes : (l : List Lexeme) (at : ℕ) (t : Lexeme) → slice_get l at ≡ Some t → drop at l ≡ t ∷ drop (suc at) l
drop-lexemes [] at t h = absurd (omega (arith, slice_get_within [] at t h))
drop-lexemes (u ∷ l) zero t h =
    let e : u ≡ t = cc in
    ap (λ x. x ∷ l) e
drop-lexemes (u ∷ l) (suc at) t h = drop-lexemes l at t h

lexemes_from-step : (line : List ℕ) (at : ℕ) (t : Lexeme) → slice_get (lexemes line) at ≡ Some t → lexemes_from at line ≡ t ∷ lexemes_from (at + 1) line
lexemes_from-step line at t h = rw add-one (drop-lexemes (lexemes line) at t h)

-- one more token that isn't long
pub has_long-step : (line : List ℕ) (from at : ℕ) (t : Lexeme) → slice_get (lexemes line) at ≡ Some t → is_long t.0 t.1 ≡ false →
    has_long (lexemes_from at line) ≡ has_long (lexemes_from from line) → has_long (lexemes_from (at + 1) line) ≡ has_long (lexemes_from from line)
has_long-step line from at t token short before =
    sym (ap has_long (lexemes_from-step line at t token) ∙ ap (λ b. b || has_long (lexemes_from (at + 1) line)) short) ∙ before

-- no token is left
pub has_long-end : (line : List ℕ) (at : ℕ) → length (tokens_of line) ≤ at → has_long (lexemes_from at line) ≡ false
has_long-end line at h =
    let short : length (lexemes line) ≤ at = simp length-map h in
    ap has_long (drop-past (lexemes line) at short)

-- a token of no more bytes than a word is not long, nor is a text with what stands between its quotes
pub few_bytes : (kind : Kind) (bytes : List ℕ) → is_short bytes ≡ true → is_long kind bytes ≡ false
few_bytes kinds.Name bytes few = ap not few
few_bytes kinds.Number bytes few = refl
few_bytes kinds.Text bytes few =
    let inner : length (unquoted bytes) ≤ length bytes = omega (arith, length-take (length bytes - 2) (drop 1 bytes), length-drop 1 bytes) in
    ap not (within (length (unquoted bytes)) (length bytes) inner few)
  where
    within : (n m : ℕ) → n ≤ m → nat_le m WORD_LIMIT ≡ true → nat_le n WORD_LIMIT ≡ true
    within n m h few = grind (arith, nat_tests, h, few)
few_bytes (kinds.Sym code) bytes few = refl
few_bytes (kinds.Key code) bytes few = refl

-- a long token
pub has_long-found : (line : List ℕ) (at : ℕ) (t : Lexeme) → slice_get (lexemes line) at ≡ Some t → is_long t.0 t.1 ≡ true
    → has_long (lexemes_from at line) ≡ true
has_long-found line at t token long =
    ap has_long (lexemes_from-step line at t token) ∙ ap (λ b. b || has_long (lexemes_from (at + 1) line)) long

pub ruleset token_steps = (pieces_from-step, pieces_from-end, has_long-end, has_long-found)
