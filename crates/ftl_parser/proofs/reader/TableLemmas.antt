-- For this crate and for the crates above: words and symbols by their tables. No name, number or text is among them.
use Rattle.ftl_parser.proofs.Names.{◌≡◌, ℕ, zero, suc, Bool, true, false, List, [], ◌∷◌, unwrap_or, slice_get, refl, arith, and_parts, list_all, Kind, Coming, Piece, piece_of, signs, reserved, NAME, NUMBER, TEXT, ARROW, WORD, mark}
use Rattle.ftl_lexer.specs.declared.kinds.Kind.TheVariants as kinds

-- neither a name nor a number nor a text
abbrev pub is_fixed : Piece → Bool
is_fixed (NAME n) = false
is_fixed (NUMBER n) = false
is_fixed (TEXT t) = false
is_fixed p = true

-- what holds of each token of a table and of the one that stands for others
pub in_table : (test : Piece → Bool) (table : List Piece) (code : ℕ) (other : Piece) → test other ≡ true → list_all test table ≡ true
    → test (unwrap_or (slice_get table code) other) ≡ true
in_table test [] code other e h = e
in_table test (p ∷ table) zero other e h = (and_parts (test p) (list_all test table) h).0
in_table test (p ∷ table) (suc code) other e h = in_table test table code other e (and_parts (test p) (list_all test table) h).1

pub sign_fixed : (code : ℕ) → is_fixed (unwrap_or (slice_get signs code) ARROW) ≡ true
sign_fixed code = in_table is_fixed signs code ARROW refl refl

pub word_fixed : (code : ℕ) → is_fixed (unwrap_or (slice_get reserved code) (WORD code)) ≡ true
word_fixed code = in_table is_fixed reserved code (WORD code) refl refl

unmarked : (c : Coming) (p : Piece) (rest : List Piece) → is_fixed p ≡ true → mark c p rest ≡ false
unmarked c (NUMBER n) rest h = grind (arith, h)
unmarked c p rest h = refl

-- a token that is no number has no mark
pub unmarked-token : (c : Coming) (kind : Kind) (bytes : List ℕ) (rest : List Piece) → (kind ≡ kinds.Number → ⊥) → mark c (piece_of kind bytes) rest ≡ false
unmarked-token c kinds.Name bytes rest other = refl
unmarked-token c kinds.Number bytes rest other = absurd (other refl)
unmarked-token c kinds.Text bytes rest other = refl
unmarked-token c (kinds.Sym code) bytes rest other = unmarked c _ rest (sign_fixed code)
unmarked-token c (kinds.Key code) bytes rest other = unmarked c _ rest (word_fixed code)
