-- Why a line has no tokens, and what stands then.
use Rattle.std.specs.Prelude.{◌≡◌, ℕ, ◌<◌, List, [], length, Some, None}
use Rattle.ftl_lexer.specs.declared.fault.LexFault.{LexFault}
use Rattle.ftl_lexer.specs.declared.fault.LexFault.TheVariants.{BadToken, NoMemory}
use Rattle.ftl_lexer.specs.Tokens.{bad_place}

-- the first place at which no token begins; want of memory is told only where there is none, and of no empty line
abbrev pub ExplainsBytes : List ℕ → LexFault → Type 0
ExplainsBytes line (BadToken place) = bad_place line ≡ Some place
ExplainsBytes line NoMemory = (bad_place line ≡ None) × (0 < length line)

-- the empty line after a bad token, and after want of memory what stood before
abbrev pub StandsAfter : List ℕ → List ℕ → LexFault → Type 0
StandsAfter old new (BadToken place) = new ≡ []
StandsAfter old new NoMemory = new ≡ old
