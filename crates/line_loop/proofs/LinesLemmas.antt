-- How the lines of bytes in two parts follow from those of the parts.
use Rattle.std.proofs.Common.{◌≡◌, ℕ, ◌+◌, ◌<◌, ◌≤◌, List, [], ◌∷◌, ◌++◌, ◌∙◌, ◌==◌, ◌⊎◌, inl, inr, ap, sym, refl, length, take, drop, arith, subst, suc, add-one, append_assoc, min, ◌-◌, if◌then◌else◌, true, false, leb, Option, None, Some, Result, Ok, Err, OnOk, is_err}
use Rattle.std.proofs.lemmas.Grind.{common_steps}
use Rattle.std.proofs.lemmas.List.{take_all, take-take, take-append-le, length-take, take_min}
use Rattle.std.proofs.Math.Seq.{take-append-add, take-add, take-nil}
use Rattle.std.specs.List.{position_or_len}
use Rattle.std.specs.Str.Lines.{strip_carriage_return}
use Rattle.line_loop.specs.Lines.{ended_from, open_from, last_line}
use Rattle.line_loop.specs.Kept.{IsKeptLine, kept_part}

le_or_lt : (a b : ℕ) → (a ≤ b) ⊎ (b < a)
le_or_lt a b = elim (leb a b) as (λ t. leb a b ≡ t → (a ≤ b) ⊎ (b < a)) [ true ↦ λ e. inl (grind (arith, e)) | false ↦ λ e. inr (grind (arith, e)) ] refl

pub open_from-append : (begun xs ys : List ℕ) → open_from begun (xs ++ ys) ≡ open_from (open_from begun xs) ys
open_from-append begun [] ys = refl
open_from-append begun (x ∷ xs) ys =
    elim (x == 10) as (λ b. (if b then open_from [] (xs ++ ys) else open_from (begun ++ x ∷ []) (xs ++ ys)) ≡ open_from (if b then open_from [] xs else open_from (begun ++ x ∷ []) xs) ys)
    [ true ↦ open_from-append [] xs ys | false ↦ open_from-append (begun ++ x ∷ []) xs ys ]

pub ended_from-append : (begun xs ys : List ℕ) →
    ended_from begun (xs ++ ys) ≡ ended_from begun xs ++ ended_from (open_from begun xs) ys
ended_from-append begun [] ys = refl
ended_from-append begun (x ∷ xs) ys =
    elim (x == 10) as (λ b. (if b then strip_carriage_return begun ∷ ended_from [] (xs ++ ys) else ended_from (begun ++ x ∷ []) (xs ++ ys))
    ≡ (if b then strip_carriage_return begun ∷ ended_from [] xs else ended_from (begun ++ x ∷ []) xs) ++ ended_from (if b then open_from [] xs else open_from (begun ++ x ∷ []) xs) ys)
    [ true ↦ ap (λ ls. strip_carriage_return begun ∷ ls) (ended_from-append [] xs ys) | false ↦ ended_from-append (begun ++ x ∷ []) xs ys ]

-- bytes without a line feed end no line
pub open_from-none : (begun xs : List ℕ) → length xs ≤ position_or_len (λ b. b == 10) xs → open_from begun xs ≡ begun ++ xs
open_from-none begun [] h = grind (arith, common_steps)
open_from-none begun (x ∷ xs) h = grind (arith, common_steps, open_from-none (begun ++ x ∷ []) xs)

pub ended_from-none : (begun xs : List ℕ) → length xs ≤ position_or_len (λ b. b == 10) xs → ended_from begun xs ≡ []
ended_from-none begun [] h = refl
ended_from-none begun (x ∷ xs) h = grind (arith, common_steps, ended_from-none (begun ++ x ∷ []) xs)

-- bytes up to the first line feed end one line
pub open_from-first : (begun xs : List ℕ) → position_or_len (λ b. b == 10) xs < length xs →
    open_from begun (take (position_or_len (λ b. b == 10) xs + 1) xs) ≡ []
open_from-first begun [] h = absurd (omega arith)
open_from-first begun (x ∷ xs) h = grind (arith, common_steps, open_from-first (begun ++ x ∷ []) xs)

ended_from-here : (begun xs : List ℕ) (x : ℕ) → (x == 10) ≡ true → ended_from begun (take (position_or_len (λ b. b == 10) (x ∷ xs) + 1) (x ∷ xs))
    ≡ strip_carriage_return (begun ++ take (position_or_len (λ b. b == 10) (x ∷ xs)) (x ∷ xs)) ∷ []
ended_from-here begun xs x e =
    let here : position_or_len (λ b. b == 10) (x ∷ xs) ≡ 0 = rw e in
    grind (arith, common_steps, here, e)

ended_from-later : (begun xs : List ℕ) (x first n : ℕ) → (x == 10) ≡ false → first ≡ suc n →
    ended_from (begun ++ x ∷ []) (take (n + 1) xs) ≡ strip_carriage_return ((begun ++ x ∷ []) ++ take n xs) ∷ [] →
    ended_from begun (take (first + 1) (x ∷ xs)) ≡ strip_carriage_return (begun ++ take first (x ∷ xs)) ∷ []
ended_from-later begun xs x first n e is rest =
    let ends : ended_from (begun ++ x ∷ []) (take (suc n) xs) ≡ strip_carriage_return ((begun ++ x ∷ []) ++ take n xs) ∷ [] = rw (← add-one n) rest in
    let whole : ended_from begun (take (suc n + 1) (x ∷ xs)) ≡ strip_carriage_return (begun ++ take (suc n) (x ∷ xs)) ∷ [] =
    rw add-one (rw e (ends ∙ ap (λ l. strip_carriage_return l ∷ []) (append_assoc begun (x ∷ []) (take n xs)))) in
    subst (λ k. ended_from begun (take (k + 1) (x ∷ xs)) ≡ strip_carriage_return (begun ++ take k (x ∷ xs)) ∷ []) (sym is) whole

pub ended_from-first : (begun xs : List ℕ) → position_or_len (λ b. b == 10) xs < length xs →
    ended_from begun (take (position_or_len (λ b. b == 10) xs + 1) xs) ≡ strip_carriage_return (begun ++ take (position_or_len (λ b. b == 10) xs) xs) ∷ []
ended_from-first begun [] h = absurd (omega arith)
ended_from-first begun (x ∷ xs) h =
    elim (x == 10) as (λ b. (x == 10) ≡ b → ended_from begun (take (position_or_len (λ b. b == 10) (x ∷ xs) + 1) (x ∷ xs))
    ≡ strip_carriage_return (begun ++ take (position_or_len (λ b. b == 10) (x ∷ xs)) (x ∷ xs)) ∷ []) [
      | true ↦ λ e. ended_from-here begun xs x e
      | false ↦ λ e.
          let is : position_or_len (λ b. b == 10) (x ∷ xs) ≡ suc (position_or_len (λ b. b == 10) xs) = grind (arith, common_steps, e) in
          let within : position_or_len (λ b. b == 10) xs < length xs = omega (arith, h, is) in
          ended_from-later begun xs x _ _ e is (ended_from-first (begun ++ x ∷ []) xs within)
    ] refl

-- the kept part of a line that ended
length-strip : (line : List ℕ) → length line ≤ length (strip_carriage_return line) + 1
length-strip line = grind (arith, common_steps)

pub kept_ended : (longest : Option ℕ) (line : List ℕ) → IsKeptLine longest (strip_carriage_return (kept_part longest line)) (strip_carriage_return line)
kept_ended None line = inl refl
kept_ended (Some longest) line =
    elim (le_or_lt (length line) (longest + 2)) [
      | inl le ↦ inl (ap strip_carriage_return (take_all (longest + 2) line le))
      | inr lt ↦ inr (omega (arith, length-strip line, length-strip (take (longest + 2) line), length-take (longest + 2) line), omega (arith, length-strip line))
    ]

pub kept_unended : (longest : Option ℕ) (line : List ℕ) → IsKeptLine longest (kept_part longest line) line
kept_unended None line = inl refl
kept_unended (Some longest) line =
    elim (le_or_lt (length line) (longest + 2)) [
      | inl le ↦ inl (take_all (longest + 2) line le)
      | inr lt ↦ inr (omega (arith, length-take (longest + 2) line), omega arith)
    ]

take-kept : (most : ℕ) (line more : List ℕ) → take most (take most line ++ more) ≡ take most (line ++ more)
take-kept most line more =
    elim (le_or_lt (length line) most) [
      | inl le ↦ ap (λ front. take most (front ++ more)) (take_all most line le)
      | inr lt ↦
          let le : most ≤ length (take most line) = omega (arith, length-take most line) in
          let le' : most ≤ length line = omega arith in
          take-append-le most (take most line) more le ∙ take-take most most line (omega arith) ∙ sym (take-append-le most line more le')
    ]

-- more of a line of which a part was kept
pub kept_more : (longest : Option ℕ) (line more : List ℕ) → kept_part longest (kept_part longest line ++ more) ≡ kept_part longest (line ++ more)
kept_more None line more = refl
kept_more (Some longest) line more = take-kept (longest + 2) line more

pub kept_nil : (longest : Option ℕ) → kept_part longest [] ≡ []
kept_nil None = refl
kept_nil (Some longest) = take-nil (longest + 2)

-- where nothing is kept, nothing has come
pub kept_none : (longest : Option ℕ) (line : List ℕ) → kept_part longest line ≡ [] → line ≡ []
kept_none None line none = none
kept_none (Some longest) [] none = refl
kept_none (Some longest) (x ∷ xs) none = absurd (omega (arith, ap length none, length-take (longest + 2) (x ∷ xs)))

pub extended : (most n : ℕ) (line more : List ℕ) → length line ≤ most → n ≡ min (length more) (most - length line) →
    line ++ take n more ≡ take most (line ++ more)
extended most n line more le is =
    let whole : most ≡ length line + (most - length line) = omega arith in
    let front : take n more ≡ take (most - length line) more = grind (arith, common_steps, take_min (most - length line) more) in
    ap (λ t. line ++ t) front ∙ sym (ap (λ k. take k (line ++ more)) whole ∙ take-append-add line more (most - length line))

-- what was written after some bytes, and then after n more
pub grown : (written bytes : List ℕ) (at n : ℕ) → n ≤ length bytes - at →
    (written ++ take at bytes) ++ take n (take (length bytes - at) (drop at bytes)) ≡ written ++ take (at + n) bytes
grown written bytes at n le =
    append_assoc written (take at bytes) (take n (take (length bytes - at) (drop at bytes)))
    ∙ ap (λ t. written ++ t) (ap (λ t. take at bytes ++ t) (take-take n (length bytes - at) (drop at bytes) le) ∙ sym (take-add at n bytes))

-- the line whose last bytes came, of which a part was kept before
pub kept_line : (longest : Option ℕ) (old end begun whole : List ℕ) → old ≡ kept_part longest begun → whole ≡ strip_carriage_return (kept_part longest (old ++ end)) →
    IsKeptLine longest whole (strip_carriage_return (begun ++ end))
kept_line longest old end begun whole part is =
    subst (λ w. IsKeptLine longest w (strip_carriage_return (begun ++ end)))
    (sym (is ∙ ap strip_carriage_return (ap (λ l. kept_part longest (l ++ end)) part ∙ kept_more longest begun end)))
    (kept_ended longest (begun ++ end))

-- where something is kept, the last line is one
pub last_is : (longest : Option ℕ) (kept begun : List ℕ) → kept ≡ kept_part longest begun → (length kept == 0) ≡ false → last_line begun ≡ begun ∷ []
last_is longest kept [] is some =
    let none : (length kept == 0) ≡ true = ap (λ l. length l == 0) (is ∙ kept_nil longest) in absurd (cc)
last_is longest kept (x ∷ xs) is some = refl

-- what a call that took memory promised
pub ok_is : {T E P : Type 0} (r : Result T E) → is_err r ≡ false → OnOk r P → P
ok_is (Ok x) not h = h
ok_is (Err e) not h = absurd (cc)

pub ok_anyway : {T E P : Type 0} (r : Result T E) → P → OnOk r P
ok_anyway (Ok x) h = h
ok_anyway (Err e) h = tt
