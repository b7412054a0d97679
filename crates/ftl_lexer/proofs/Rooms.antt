-- What is true of the buffers of a line and of its tokens stays true.
use Rattle.std.proofs.Common.{◌≡◌, ℕ, ◌≤◌, List, [], Result, Ok, Err, Vec, None, length, OnOk, IfErr, refl, ap, arith, vec_items, vec_capacity}
use Rattle.std.specs.declared.alloc.Global.{Global}
use Rattle.ftl_lexer.specs.declared.fault.LexFault.{LexFault}
use Rattle.ftl_lexer.specs.declared.fault.LexFault.TheVariants.{BadToken, NoMemory}
use Rattle.ftl_lexer.specs.declared.kinds.Token.{Token}
use Rattle.ftl_lexer.specs.inner.Room.{HoldLine, BuffersStandAfter}
use Rattle.ftl_lexer.specs.Tokens.{bad_place, tokens_of}
use Rattle.ftl_lexer.proofs.Steps.{nothing_lexed}

-- the invariant of `Tokens`, by its line, its tokens and the room for tokens
abbrev pub Agree : List ℕ → List Token → ℕ → Type 0
Agree line tokens room = (tokens ≡ tokens_of line) × (bad_place line ≡ None) × (length line ≤ 16384) × (length line ≤ room)

pub nothing_held : (line : List ℕ) (tokens : List Token) (room : ℕ) → line ≡ [] → tokens ≡ [] → Agree line tokens room
nothing_held line tokens room l t =
    let lexed = nothing_lexed line tokens l t in
    (lexed.0, lexed.1, lexed.2, omega (arith, ap length l))

-- the same line and tokens, with no less room
pub still_held : (line line' : List ℕ) (tokens tokens' : List Token) (room room' : ℕ) → line' ≡ line → tokens' ≡ tokens → room ≤ room'
    → Agree line tokens room → Agree line' tokens' room'
still_held line line' tokens tokens' room room' l t more agree =
    rw (l, t) (agree.0, agree.1, agree.2, omega (arith, agree.3, more))

pub agree_after : {X : Type 0} (result : Result X LexFault) (line : List ℕ) (held : Vec ℕ Global) (tokens : Vec Token Global)
    (held' : Vec ℕ Global) (tokens' : Vec Token Global)
    → length line ≤ 16384 → Agree (vec_items held) (vec_items tokens) (vec_capacity tokens)
    → OnOk result (HoldLine line held' tokens') → IfErr result (BuffersStandAfter held tokens held' tokens')
    → Agree (vec_items held') (vec_items tokens') (vec_capacity tokens')
agree_after (Ok x) line held tokens held' tokens' short agree ok err =
    still_held line (vec_items held') (tokens_of line) (vec_items tokens') (length line) (vec_capacity tokens') ok.0 ok.1 ok.3
    (refl, ok.2, short, omega arith)
agree_after (Err (BadToken place)) line held tokens held' tokens' short agree ok err =
    nothing_held (vec_items held') (vec_items tokens') (vec_capacity tokens') err.0 err.1
agree_after (Err NoMemory) line held tokens held' tokens' short agree ok err =
    still_held (vec_items held) (vec_items held') (vec_items tokens) (vec_items tokens') (vec_capacity tokens) (vec_capacity tokens')
    err.0 err.1 err.2 agree
