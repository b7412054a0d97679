-- The buffers of a line and of its tokens: what they have room for, and what stands in them.
use Rattle.std.specs.Prelude.{◌≡◌, ℕ, ◌≤◌, List, [], Vec, None, length, min, vec_items, vec_capacity}
use Rattle.std.specs.declared.alloc.Global.{Global}
use Rattle.ftl_lexer.specs.declared.fault.LexFault.{LexFault}
use Rattle.ftl_lexer.specs.declared.fault.LexFault.TheVariants.{BadToken, NoMemory}
use Rattle.ftl_lexer.specs.declared.kinds.Token.{Token}
use Rattle.ftl_lexer.specs.Tokens.{bad_place, tokens_of}

-- the most bytes of a line that takes no memory to read: it has no more tokens than bytes
abbrev pub room_of : Vec ℕ Global → Vec Token Global → ℕ
room_of held tokens = min (vec_capacity held) (vec_capacity tokens)

-- they hold a line and its tokens, and the tokens would have room if each byte were one
abbrev pub HoldLine : List ℕ → Vec ℕ Global → Vec Token Global → Type 0
HoldLine line held tokens =
    (vec_items held ≡ line) × (vec_items tokens ≡ tokens_of line) × (bad_place line ≡ None) × (length line ≤ vec_capacity tokens)

-- they are empty after a bad token; after want of memory they hold what they held, and have no less room
abbrev pub BuffersStandAfter : Vec ℕ Global → Vec Token Global → Vec ℕ Global → Vec Token Global → LexFault → Type 0
BuffersStandAfter held tokens held' tokens' (BadToken place) = (vec_items held' ≡ []) × (vec_items tokens' ≡ [])
BuffersStandAfter held tokens held' tokens' NoMemory =
    (vec_items held' ≡ vec_items held) × (vec_items tokens' ≡ vec_items tokens) × (vec_capacity tokens ≤ vec_capacity tokens')
