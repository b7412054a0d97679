-- The tokens of a line.
use Rattle.std.specs.Prelude.{ℕ, zero, suc, ◌+◌, ◌-◌, List, [], ◌∷◌, Option, Result, Ok, Err, map, slice_range, if◌then◌else◌}
use Rattle.std.specs.Option.{option_map_or}
use Rattle.std.specs.Result.{result_err, result_unwrap_or}
use Rattle.ftl_lexer.specs.declared.kinds.Kind.{Kind}
use Rattle.ftl_lexer.specs.declared.kinds.Token.{Token}
use Rattle.ftl_lexer.specs.Forms.{is_blank, token_at}

-- a token before those of the rest
abbrev pub with_first_token : Token → Result (List Token) ℕ → Result (List Token) ℕ
with_first_token token (Ok tokens) = Ok (token ∷ tokens)
with_first_token token (Err place) = Err place

-- the tokens of the bytes that stand at a place and after the ones to skip; an error is the first place at which no token begins
unfoldable pub lexed : ℕ → ℕ → List ℕ → Result (List Token) ℕ
lexed skip place [] = Ok []
lexed (suc skip) place (b ∷ bytes) = lexed skip (place + 1) bytes
lexed zero place (b ∷ bytes) =
    if is_blank b then lexed 0 (place + 1) bytes
    else option_map_or (λ t. with_first_token (record { kind = t.0; lo = place; hi = place + t.1 }) (lexed (t.1 - 1) (place + 1) bytes))
    (token_at (b ∷ bytes)) (Err place)

-- the tokens of a line, where each byte belongs to one or is blank
abbrev pub tokens_of : List ℕ → List Token
tokens_of line = result_unwrap_or (lexed 0 0 line) []

-- the first place of a line at which no token begins
abbrev pub bad_place : List ℕ → Option ℕ
bad_place line = result_err (lexed 0 0 line)

-- the bytes of a token
abbrev pub bytes_of_token : List ℕ → Token → List ℕ
bytes_of_token line token = slice_range line token.lo token.hi

-- the bytes of each token
abbrev pub texts_of_tokens : List ℕ → List (List ℕ)
texts_of_tokens line = map (bytes_of_token line) (tokens_of line)

-- the tokens of a line, each by its kind and its bytes
abbrev pub lexemes : List ℕ → List (Kind × List ℕ)
lexemes line = map (λ t. (t.kind, bytes_of_token line t)) (tokens_of line)
