-- For this crate and for the crates above: the text of a journal, entry by entry.
use Rattle.std.proofs.Common.{◌≡◌, ℕ, zero, suc, ◌+◌, ◌^◌, ◌<◌, ◌≤◌, ◌==◌, ◌∙◌, ◌&&◌, not, leb, Bool, true, false, cond, List, [], ◌∷◌, ◌++◌, length, take, drop, get_or, codes, slice_get, option_map, Option, Some, None, refl, ap, sym, arith, append_assoc, append-nil, take-append-drop}
use Rattle.std.proofs.lemmas.Grind.{common_steps, flat_map-append}
use Rattle.std.proofs.lemmas.Bool.Decides.{nat_tests}
use Rattle.std.proofs.lemmas.List.Sums.{sum_by-append, sum_by-cons}
use Rattle.std.proofs.lemmas.Option.{same_Some, none-some}
use Rattle.std.proofs.lemmas.Fmt.{decimal_digit, first_decimal, decimal_is_IsNumeral, length-decimal-le}
use Rattle.std.proofs.Math.Seq.{take-append_seam, drop-append_seam}
use Rattle.std.specs.Char.{is_ascii_digit}
use Rattle.std.specs.Fmt.{decimal}
use Rattle.std.specs.List.{flat_map, prefix_len}
use Rattle.std.specs.Str.{bytes_eq}
use Rattle.std.specs.Str.Parse.{AllDigits, digits_value}
use Rattle.exact.specs.Options.{◌>>=◌}
use Rattle.exact.proofs.Naturals.{is_digit_by_value}
use Rattle.fixed_point.specs.Decimal.{AreDigits, digits_at}
use Rattle.fixed_point.specs.Digits.{has_spare_zero}
use Rattle.command_text.specs.Tree
use Rattle.command_text.specs.Tree.{CommandTree}
use Rattle.command_text.specs.Journal.{Accepted, clock, line_told, ticks_of}
use Rattle.command_text.specs.Text.{text_of}
use Rattle.session_file.specs.Counts.{counts_line, whole_in_front}
use Rattle.session_file.specs.Reading.{header}
use Rattle.session_file.specs.Text.{counts_in, ended_line, entry_text, session_text}

-- ---- Whole numbers as they are printed

abbrev IsNoDigit : List ℕ → Type 0
IsNoDigit [] = Unit {0}
IsNoDigit (byte ∷ bytes) = is_ascii_digit byte ≡ false

none_in_front : (rest : List ℕ) → IsNoDigit rest → prefix_len is_ascii_digit rest ≡ 0
none_in_front [] h = refl
none_in_front (byte ∷ rest) h = rw h refl

count_of_digits : (digits rest : List ℕ) → AllDigits 10 digits → IsNoDigit rest → prefix_len is_ascii_digit (digits ++ rest) ≡ length digits
count_of_digits [] rest are none = none_in_front rest none
count_of_digits (digit ∷ digits) rest are none =
    ap (λ b. cond b (1 + prefix_len is_ascii_digit (digits ++ rest)) 0) (is_digit_by_value digit are.0)
    ∙ ap (λ n. 1 + n) (count_of_digits digits rest are.1 none) ∙ omega arith

split_again : (digits rest : List ℕ) → AreDigits 1 10 digits → IsNoDigit rest → digits_at 10 (digits ++ rest) ≡ Some (digits, rest)
split_again digits rest are none =
    let enough : leb 1 (length digits) ≡ true = grind (arith, nat_tests, are.enough) in
    let few : leb (length digits) 10 ≡ true = grind (arith, nat_tests, are.few) in
    rw (count_of_digits digits rest are.digits none, take-append_seam digits rest, drop-append_seam digits rest, enough, few) refl

printed_digits : (n : ℕ) → n < 10 ^ 10 → AreDigits 1 10 (decimal n)
printed_digits n small =
    let number = decimal_is_IsNumeral n (omega arith) in
    record { digits = number.0.1; enough = number.0.0; few = length-decimal-le 10 n (omega arith) (omega arith) (omega arith) }

no_spare_zero : (n : ℕ) → n < 10 ^ 10 → has_spare_zero (decimal n) ≡ false
no_spare_zero zero small = ap has_spare_zero (decimal_digit 0 (omega arith))
no_spare_zero (suc n) small =
    let first : 48 < get_or (decimal (suc n)) 0 0 = first_decimal (suc n) (omega arith) (omega arith) in
    let other : (get_or (decimal (suc n)) 0 0 == 48) ≡ false = grind (arith, nat_tests, first) in
    ap (λ b. b && not (length (decimal (suc n)) == 1)) other

pub whole_again : (most n : ℕ) (rest : List ℕ) → n ≤ most → n < 10 ^ 10 → IsNoDigit rest → whole_in_front most (decimal n ++ rest) ≡ Some (n, rest)
unfolding whole_in_front
whole_again most n rest within small none =
    let value : digits_value 10 (decimal n) ≡ n = (decimal_is_IsNumeral n (omega arith)).1 in
    let fits : leb n most ≡ true = grind (arith, nat_tests, within) in
    ap (λ (o : Option (List ℕ × List ℕ)). o >>= (λ parts. cond (not (has_spare_zero parts.0) && leb (digits_value 10 parts.0) most) (Some (digits_value 10 parts.0, parts.1)) None))
    (split_again (decimal n) rest (printed_digits n small) none)
    ∙ ap (λ b. cond (not b && leb (digits_value 10 (decimal n)) most) (Some (digits_value 10 (decimal n), rest)) None) (no_spare_zero n small)
    ∙ ap (λ (v : ℕ). cond (leb v most) (Some (v, rest)) None) value
    ∙ ap (λ b. cond b (Some (n, rest)) None) fits

-- ---- Ticks

abbrev is_tick : CommandTree → Bool
is_tick (Tree.Tick k) = true
is_tick _ = false

-- the canonical line of a tick begins with its word, and no other does
tick_word : (c : CommandTree) → bytes_eq (take 5 (text_of c)) (codes "tick ") ≡ is_tick c
unfolding text_of
tick_word Tree.Nothing = refl
tick_word Tree.Listing = refl
tick_word Tree.Quit = refl
tick_word (Tree.Class n k b attrs) = refl
tick_word (Tree.Region n ps) = refl
tick_word (Tree.Insert c n p ss) = refl
tick_word (Tree.Update n p ss) = refl
tick_word (Tree.Remove n) = refl
tick_word (Tree.Tick k) = refl
tick_word (Tree.Ask k q) = refl
tick_word (Tree.Watch n k q) = refl
tick_word (Tree.Keep n k q) = refl
tick_word (Tree.Show n) = refl
tick_word (Tree.Drop n) = refl
tick_word (Tree.Save t) = refl
tick_word (Tree.Import n t) = refl
tick_word (Tree.Export n t) = refl
tick_word (Tree.Nearest s k o c) = refl
tick_word (Tree.Must e k q) = refl
tick_word (Tree.May e k q) = refl
tick_word (Tree.Index c a w) = refl
tick_word (Tree.Range k c a l g) = refl

tick_number : (k : ℕ) → k ≤ 10 ^ 9 → whole_in_front (10 ^ 9) (drop 5 (text_of (Tree.Tick k))) ≡ Some (k, [])
unfolding text_of
tick_number k small = ap (whole_in_front (10 ^ 9)) (sym (append-nil (decimal k))) ∙ whole_again (10 ^ 9) k [] small (omega arith) tt

no_ticks : (c : CommandTree) → is_tick c ≡ false → ticks_of c ≡ 0
no_ticks (Tree.Tick k) h = absurd (cc h)
no_ticks _ h = refl

the_ticks : (c : CommandTree) (n : ℕ) (rest : List ℕ) → is_tick c ≡ true → ticks_of c ≤ 10 ^ 9 → whole_in_front (10 ^ 9) (drop 5 (text_of c)) ≡ Some (n, rest) → n ≡ ticks_of c
the_ticks (Tree.Tick k) n rest h small found =
    let same : Some (n, rest) ≡ Some (k, []) = sym found ∙ tick_number k small in
    ap (λ (pair : ℕ × List ℕ). pair.0) (same_Some (n, rest) (k, []) same)
the_ticks _ n rest h small found = absurd (cc h)

some_ticks : (c : CommandTree) → is_tick c ≡ true → ticks_of c ≤ 10 ^ 9 → whole_in_front (10 ^ 9) (drop 5 (text_of c)) ≡ None → ⊥
some_ticks (Tree.Tick k) h small none = none-some (k, []) (sym none ∙ tick_number k small)
some_ticks _ h small none = absurd (cc h)

-- by whether the line begins so, and the number after that
pub ticks_with_word : (c : CommandTree) (line : List ℕ) (n : ℕ) (rest : List ℕ) → line ≡ text_of c → ticks_of c ≤ 10 ^ 9 →
    bytes_eq (take 5 line) (codes "tick ") ≡ true → whole_in_front (10 ^ 9) (drop 5 line) ≡ Some (n, rest) → n ≡ ticks_of c
ticks_with_word c line n rest is small begins found =
    the_ticks c n rest (sym (tick_word c) ∙ ap (λ (l : List ℕ). bytes_eq (take 5 l) (codes "tick ")) (sym is) ∙ begins) small
    (ap (λ (l : List ℕ). whole_in_front (10 ^ 9) (drop 5 l)) (sym is) ∙ found)

pub ticks_without_number : (c : CommandTree) (line : List ℕ) → line ≡ text_of c → ticks_of c ≤ 10 ^ 9 →
    bytes_eq (take 5 line) (codes "tick ") ≡ true → whole_in_front (10 ^ 9) (drop 5 line) ≡ None → 0 ≡ ticks_of c
ticks_without_number c line is small begins none =
    absurd (some_ticks c (sym (tick_word c) ∙ ap (λ (l : List ℕ). bytes_eq (take 5 l) (codes "tick ")) (sym is) ∙ begins) small
    (ap (λ (l : List ℕ). whole_in_front (10 ^ 9) (drop 5 l)) (sym is) ∙ none))

pub ticks_without_word : (c : CommandTree) (line : List ℕ) → line ≡ text_of c → bytes_eq (take 5 line) (codes "tick ") ≡ false → 0 ≡ ticks_of c
ticks_without_word c line is other = sym (no_ticks c (sym (tick_word c) ∙ ap (λ (l : List ℕ). bytes_eq (take 5 l) (codes "tick ")) (sym is) ∙ other))

pub ruleset tick_steps = (ticks_with_word, ticks_without_number, ticks_without_word)

-- ---- Entries

take_more : {A : Type 0} → (xs : List A) (i : ℕ) (x : A) → slice_get xs i ≡ Some x → take (i + 1) xs ≡ take i xs ++ x ∷ []
take_more [] i x h = absurd (cc h)
take_more (y ∷ xs) zero x h = grind (arith, common_steps, h)
take_more (y ∷ xs) (suc i) x h =
    let next : suc i + 1 ≡ suc (i + 1) = omega arith in
    ap (λ (n : ℕ). take n (y ∷ xs)) next ∙ ap (λ t. y ∷ t) (take_more xs i x h)

-- the entry of which a tick and a line are told
pub told_is : (o : Option Accepted) (tick : ℕ) (line : List ℕ) → Some (tick, line) ≡ option_map line_told o → (e : Accepted) × (o ≡ Some e) × (line ≡ text_of e.1)
told_is None tick line h = absurd (none-some (tick, line) (sym h))
told_is (Some e) tick line h = (e, refl, ap (λ (pair : ℕ × List ℕ). pair.1) (same_Some (tick, line) (line_told e) h))

pub text_more : (journal : List Accepted) (i : ℕ) (e : Accepted) (line start text : List ℕ) → slice_get journal i ≡ Some e → line ≡ text_of e.1 →
    text ≡ start ++ flat_map entry_text (take i journal) → text ++ ended_line line ≡ start ++ flat_map entry_text (take (i + 1) journal)
text_more journal i e line start text here is before =
    ap (λ (t : List ℕ). t ++ ended_line line) before
    ∙ append_assoc start (flat_map entry_text (take i journal)) (ended_line line)
    ∙ ap (λ (l : List ℕ). start ++ (flat_map entry_text (take i journal) ++ ended_line l)) is
    ∙ ap (λ (t : List ℕ). start ++ (flat_map entry_text (take i journal) ++ t)) (sym (append-nil (entry_text e)))
    ∙ ap (λ (t : List ℕ). start ++ t) (sym (flat_map-append entry_text (take i journal) (e ∷ [])))
    ∙ ap (λ (es : List Accepted). start ++ flat_map entry_text es) (sym (take_more journal i e here))

pub clock_more : (journal : List Accepted) (i : ℕ) (e : Accepted) → slice_get journal i ≡ Some e → clock (take (i + 1) journal) ≡ clock (take i journal) + ticks_of e.1
clock_more journal i e here =
    let one : clock (e ∷ []) ≡ ticks_of e.1 + clock [] = sum_by-cons (λ (x : Accepted). ticks_of x.1) e [] in
    let more : clock (take i journal ++ e ∷ []) ≡ clock (take i journal) + clock (e ∷ []) = sum_by-append (λ (x : Accepted). ticks_of x.1) (take i journal) (e ∷ []) in
    let same : clock (take (i + 1) journal) ≡ clock (take i journal ++ e ∷ []) = ap clock (take_more journal i e here) in
    omega (arith, one, more, same)

pub clock_before : (journal : List Accepted) (i : ℕ) → clock (take i journal) ≤ clock journal
clock_before journal i =
    let whole : clock journal ≡ clock (take i journal) + clock (drop i journal) =
    ap clock (sym (take-append-drop i journal)) ∙ sum_by-append (λ (x : Accepted). ticks_of x.1) (take i journal) (drop i journal) in
    omega (arith, whole)

pub ticks_of_entry : (journal : List Accepted) (i : ℕ) (e : Accepted) → slice_get journal i ≡ Some e → ticks_of e.1 ≤ clock journal
ticks_of_entry journal i e here = omega (arith, clock_more journal i e here, clock_before journal (i + 1))

-- ---- The whole

rotated : (body head : List ℕ) → drop (length body) (body ++ head) ++ take (length body) (body ++ head) ≡ head ++ body
rotated body head = ap (λ (t : List ℕ). t ++ take (length body) (body ++ head)) (drop-append_seam body head) ∙ ap (λ (t : List ℕ). head ++ t) (take-append_seam body head)

pub text_is : (journal : List Accepted) (body text : List ℕ) (n : ℕ) → body ≡ flat_map entry_text journal ++ ended_line (codes "end") → n ≡ length body →
    text ≡ body ++ (ended_line header ++ ended_line (counts_line (counts_in journal))) → drop n text ++ take n text ≡ session_text journal
unfolding session_text
text_is journal body text n is-body is-n is-text =
    let head : List ℕ = ended_line header ++ ended_line (counts_line (counts_in journal)) in
    ap (λ (t : List ℕ). drop n t ++ take n t) is-text
    ∙ ap (λ (m : ℕ). drop m (body ++ head) ++ take m (body ++ head)) is-n
    ∙ rotated body head
    ∙ ap (λ (t : List ℕ). head ++ t) is-body
    ∙ append_assoc (ended_line header) (ended_line (counts_line (counts_in journal))) (flat_map entry_text journal ++ ended_line (codes "end"))
