-- A piece of the input, of which some bytes are taken: one line more, and the end.
use Rattle.std.proofs.Common.{◌≡◌, ℕ, ◌+◌, ◌<◌, ◌≤◌, List, [], ◌∷◌, ◌++◌, ◌∙◌, ◌==◌, ap, sym, subst, length, take, drop, arith, append-nil, Some, None}
use Rattle.std.proofs.lemmas.Grind.{common_steps}
use Rattle.std.proofs.lemmas.List.{take-append-drop, length-drop}
use Rattle.std.proofs.Math.Seq.{take-add}
use Rattle.std.specs.List.{position, position_or_len}
use Rattle.std.specs.Str.Lines.{strip_carriage_return}
use Rattle.line_loop.specs.Lines.{ended_from, open_from, line_feed_byte}
use Rattle.line_loop.proofs.LinesLemmas.{ended_from-append, open_from-append, ended_from-first, open_from-first, ended_from-none, open_from-none}

position-within : (xs : List ℕ) (i : ℕ) → position (λ b. b == 10) xs ≡ Some i → (i ≡ position_or_len (λ b. b == 10) xs) × (i < length xs)
position-within xs i e = grind (arith, common_steps)

position-none : (xs : List ℕ) → position (λ b. b == 10) xs ≡ None → length xs ≤ position_or_len (λ b. b == 10) xs
position-none xs e = grind (arith, common_steps)

module _ (begun piece rest : List ℕ) (at : ℕ) (within : at ≤ length piece) (is : rest ≡ drop at piece) where
  module _ (len : ℕ) (found : position (λ b. b == line_feed_byte) rest ≡ Some len) where
    pub next-within : at + (len + 1) ≤ length piece
    next-within = omega (arith, (position-within rest len found).1, ap length is, length-drop at piece)

    taken : take (at + (len + 1)) piece ≡ take at piece ++ take (len + 1) rest
    taken = take-add at (len + 1) piece ∙ ap (λ r. take at piece ++ take (len + 1) r) (sym is)

    pub next-ended : ended_from begun (take (at + (len + 1)) piece)
        ≡ ended_from begun (take at piece) ++ strip_carriage_return (open_from begun (take at piece) ++ take len rest) ∷ []
    next-ended =
        let h : (len ≡ position_or_len (λ b. b == 10) rest) × (len < length rest) = position-within rest len found in
        let first : position_or_len (λ b. b == 10) rest < length rest = omega arith in
        ap (ended_from begun) taken ∙ ended_from-append begun (take at piece) (take (len + 1) rest)
        ∙ ap (λ ls. ended_from begun (take at piece) ++ ls)
        (subst (λ n. ended_from (open_from begun (take at piece)) (take (n + 1) rest) ≡ strip_carriage_return (open_from begun (take at piece) ++ take n rest) ∷ [])
        (sym h.0) (ended_from-first (open_from begun (take at piece)) rest first))

    pub next-open : open_from begun (take (at + (len + 1)) piece) ≡ []
    next-open =
        let h : (len ≡ position_or_len (λ b. b == 10) rest) × (len < length rest) = position-within rest len found in
        let first : position_or_len (λ b. b == 10) rest < length rest = omega arith in
        ap (open_from begun) taken ∙ open_from-append begun (take at piece) (take (len + 1) rest)
        ∙ subst (λ n. open_from (open_from begun (take at piece)) (take (n + 1) rest) ≡ []) (sym h.0) (open_from-first (open_from begun (take at piece)) rest first)

    -- the lines of the piece: those before, the next one, and those after
    pub lines-split : ended_from begun piece ≡ (ended_from begun (take at piece) ++ strip_carriage_return (open_from begun (take at piece) ++ take len rest) ∷ [])
        ++ ended_from (open_from begun (take (at + (len + 1)) piece)) (drop (at + (len + 1)) piece)
    lines-split = ap (ended_from begun) (sym (take-append-drop (at + (len + 1)) piece))
        ∙ ended_from-append begun (take (at + (len + 1)) piece) (drop (at + (len + 1)) piece)
        ∙ ap (λ ls. ls ++ ended_from (open_from begun (take (at + (len + 1)) piece)) (drop (at + (len + 1)) piece)) next-ended

  module _ (none : position (λ b. b == line_feed_byte) rest ≡ None) where
    all : piece ≡ take at piece ++ rest
    all = sym (take-append-drop at piece) ∙ ap (λ r. take at piece ++ r) (sym is)

    pub last-ended : ended_from begun piece ≡ ended_from begun (take at piece)
    last-ended = ap (ended_from begun) all ∙ ended_from-append begun (take at piece) rest
        ∙ ap (λ ls. ended_from begun (take at piece) ++ ls) (ended_from-none (open_from begun (take at piece)) rest (position-none rest none))
        ∙ append-nil (ended_from begun (take at piece))

    pub last-open : open_from begun piece ≡ open_from begun (take at piece) ++ rest
    last-open = ap (open_from begun) all ∙ open_from-append begun (take at piece) rest
        ∙ open_from-none (open_from begun (take at piece)) rest (position-none rest none)
