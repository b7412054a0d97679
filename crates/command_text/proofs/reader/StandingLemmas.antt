-- A reader at a place of the tokens, and one after the token there.
use Rattle.command_text.proofs.Names.{◌≡◌, ℕ, zero, suc, ◌+◌, ◌≤◌, [], ◌∷◌, List, length, None, Some, option_map, slice_get, refl, ap, add-one, slice_get_past, Lexeme, Piece, piece_of, lexemes, At, front, next, standing, has_short_words, ◌&&◌}
use Rattle.std.proofs.Common.{drop}
use Rattle.ftl_parser.specs.Piece as token

-- a token at a place, and those after it
pub front_some : (ts : List Lexeme) (place : ℕ) (t : Lexeme) → slice_get ts place ≡ Some t →
    front (drop place (token.pieces ts)) ≡ Some (piece_of t.0 t.1, drop (place + 1) (token.pieces ts))
front_some [] place t e = cc
front_some (x ∷ ts) zero t e = let same : x ≡ t = cc in ap (λ t. Some (piece_of t.0 t.1, token.pieces ts)) same
front_some (x ∷ ts) (suc n) t e = rw add-one (rw add-one at (front_some ts n t e))

-- no token at a place
pub front_none : (ts : List Lexeme) (place : ℕ) → slice_get ts place ≡ None →
    front (drop place (token.pieces ts)) ≡ None
front_none [] zero e = refl
front_none [] (suc n) e = refl
front_none (x ∷ ts) zero e = cc
front_none (x ∷ ts) (suc n) e = front_none ts n e

pub front_past : (ts : List Lexeme) (place : ℕ) → length ts ≤ place →
    front (drop place (token.pieces ts)) ≡ None
front_past ts place h = front_none ts place (slice_get_past ts place h)

-- the token where a reader of the program stands
pub next_some : (line : List ℕ) (at : At) (t : Lexeme) → slice_get (lexemes line) at.place ≡ Some t →
    next (standing line at) ≡ Some (piece_of t.0 t.1, standing line (record { place = at.place + 1; fit = at.fit; small = at.small }))
unfolding next
next_some line at t e =
    ap (option_map (λ (r : Piece × List Piece). (r.0, record { rest = r.1; fit = at.fit; small = has_short_words line && at.small }))) (front_some (lexemes line) at.place t e)

pub next_none : (line : List ℕ) (at : At) → slice_get (lexemes line) at.place ≡ None → next (standing line at) ≡ None
unfolding next
next_none line at e =
    ap (option_map (λ (r : Piece × List Piece). (r.0, record { rest = r.1; fit = at.fit; small = has_short_words line && at.small }))) (front_none (lexemes line) at.place e)

pub next_past : (line : List ℕ) (at : At) → length (lexemes line) ≤ at.place → next (standing line at) ≡ None
next_past line at h = next_none line at (slice_get_past (lexemes line) at.place h)

pub ruleset next_token = (next_some, next_none, next_past)
