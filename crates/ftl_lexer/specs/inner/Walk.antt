-- One step along a line.
use Rattle.std.specs.Prelude.{◌≡◌, ℕ, ◌<◌, ◌≤◌, List, [], drop, length, Ok, Err}
use Rattle.ftl_lexer.specs.declared.walk.Step.{Step}
use Rattle.ftl_lexer.specs.declared.walk.Step.TheVariants.{End, Token, Bad}
use Rattle.ftl_lexer.specs.Tokens.{lexed, with_first_token}

-- from a place on the line has no token, or this token and those after it, or no token begins at this byte
abbrev pub ComesNext : List ℕ → ℕ → Step → Type 0
ComesNext line from End = lexed 0 from (drop from line) ≡ Ok []
ComesNext line from (Token kind lo hi) =
    (from ≤ lo) × (lo < hi) × (hi ≤ length line)
    × (lexed 0 from (drop from line) ≡ with_first_token (record { kind = kind; lo = lo; hi = hi }) (lexed 0 hi (drop hi line)))
ComesNext line from (Bad place) = lexed 0 from (drop from line) ≡ Err place
