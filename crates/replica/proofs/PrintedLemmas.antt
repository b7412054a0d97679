-- What is printed of rows and clocks is read back.
use Rattle.std.proofs.Common.{◌≡◌, ◌∙◌, ℕ, zero, suc, ◌+◌, ◌-◌, ◌^◌, ◌<◌, ◌≤◌, ◌==◌, ◌&&◌, not, leb, ltb, nat_le, is_none, Bool, true, false, cond, List, [], ◌∷◌, ◌++◌, map, length, drop, get_or, codes, option_map, Option, Some, None, All, refl, ap, sym, subst, inl, inr, arith, append-nil}
use Rattle.std.proofs.lemmas.Bool.{and_parts, cases_Bool, false≢true}
use Rattle.std.proofs.lemmas.Bool.Decides.{Decides-eqb, nat_tests}
use Rattle.std.proofs.lemmas.Fmt.{decimal_digit, first_decimal, decimal_is_IsNumeral, length-decimal-le}
use Rattle.std.proofs.lemmas.List.{append_assoc, length-append}
use Rattle.std.proofs.lemmas.List.Elements.{All-append, All-cons, All-head, All-nil, All-tail}
use Rattle.std.proofs.lemmas.List.Splits.{slice_split_at, slice_split_none}
use Rattle.std.proofs.Math.Seq.{take-append_seam, drop-append_seam}
use Rattle.std.specs.Char.{is_ascii_digit, digit_value}
use Rattle.std.specs.Fmt.{decimal}
use Rattle.std.specs.List.{flat_map, list_all, onto_first, position_or_len, prefix_len}
use Rattle.std.specs.Str.Parse.{AllDigits, digits_value}
use Rattle.exact.specs.Options.{◌>>=◌}
use Rattle.exact.proofs.Naturals.{is_digit_by_value}
use Rattle.case_table.specs.Language.{reserved_words}
use Rattle.case_table.specs.Rows.{code_of}
use Rattle.fixed_point.specs.Decimal.{AreDigits, digits_at}
use Rattle.fixed_point.specs.declared.short_text.TheConstants.{WORD_LIMIT}
use Rattle.fixed_point.specs.Digits.{has_spare_zero}
use Rattle.ftl_lexer.specs.Cut.{is_word}
use Rattle.ftl_lexer.specs.Forms.{begins_name, continues_name}
use Rattle.ftl_lexer.proofs.Steps.{begins_continues}
use Rattle.replica.specs.Line.{row_in_text, row_parts}
use Rattle.replica.specs.Rows.{run_text}
use Rattle.replica.specs.Text.{after_text, before_text, cut_at_mark, is_free_name, is_target, span_of, spans_from, tick_at, tick_of, words}
use Rattle.replica.specs.Ticks.{AreRuns}
use Rattle.replica.proofs.SpanLemmas.{next_span}

-- ---- Ticks

abbrev IsNoDigit : List ℕ → Type 0
IsNoDigit [] = Unit {0}
IsNoDigit (byte ∷ bytes) = is_ascii_digit byte ≡ false

none_in_front : (rest : List ℕ) → IsNoDigit rest → prefix_len is_ascii_digit rest ≡ 0
none_in_front [] h = refl
none_in_front (byte ∷ rest) h = rw h refl

count_of_digits : (digits rest : List ℕ) → AllDigits 10 digits → IsNoDigit rest → prefix_len is_ascii_digit (digits ++ rest) ≡ length digits
count_of_digits [] rest are none = none_in_front rest none
count_of_digits (digit ∷ digits) rest are none =
    ap (λ b. cond b (1 + prefix_len is_ascii_digit (digits ++ rest)) 0) (is_digit_by_value digit are.0)
    ∙ ap (λ n. 1 + n) (count_of_digits digits rest are.1 none) ∙ omega arith

split_again : (digits rest : List ℕ) → AreDigits 1 10 digits → IsNoDigit rest → digits_at 10 (digits ++ rest) ≡ Some (digits, rest)
split_again digits rest are none =
    let enough : leb 1 (length digits) ≡ true = grind (arith, nat_tests, are.enough) in
    let few : leb (length digits) 10 ≡ true = grind (arith, nat_tests, are.few) in
    rw (count_of_digits digits rest are.digits none, take-append_seam digits rest, drop-append_seam digits rest, enough, few) refl

printed_digits : (n : ℕ) → n < 10 ^ 10 → AreDigits 1 10 (decimal n)
printed_digits n small =
    let number = decimal_is_IsNumeral n (omega arith) in
    record { digits = number.0.1; enough = number.0.0; few = length-decimal-le 10 n (omega arith) (omega arith) (omega arith) }

no_spare_zero : (n : ℕ) → n < 10 ^ 10 → has_spare_zero (decimal n) ≡ false
no_spare_zero zero small = ap has_spare_zero (decimal_digit 0 (omega arith))
no_spare_zero (suc n) small =
    let first : 48 < get_or (decimal (suc n)) 0 0 = first_decimal (suc n) (omega arith) (omega arith) in
    let other : (get_or (decimal (suc n)) 0 0 == 48) ≡ false = grind (arith, nat_tests, first) in
    ap (λ b. b && not (length (decimal (suc n)) == 1)) other

tick_again : (n : ℕ) (rest : List ℕ) → n ≤ 1000000000 → IsNoDigit rest → tick_at (decimal n ++ rest) ≡ Some (n, rest)
unfolding tick_at
tick_again n rest within none =
    let value : digits_value 10 (decimal n) ≡ n = (decimal_is_IsNumeral n (omega arith)).1 in
    let fits : leb n 1000000000 ≡ true = grind (arith, nat_tests, within) in
    ap (λ (o : Option (List ℕ × List ℕ)). o >>= (λ parts. cond (not (has_spare_zero parts.0) && leb (digits_value 10 parts.0) 1000000000) (Some (digits_value 10 parts.0, parts.1)) None))
    (split_again (decimal n) rest (printed_digits n (omega arith)) none)
    ∙ ap (λ b. cond (not b && leb (digits_value 10 (decimal n)) 1000000000) (Some (digits_value 10 (decimal n), rest)) None) (no_spare_zero n (omega arith))
    ∙ ap (λ (v : ℕ). cond (leb v 1000000000) (Some (v, rest)) None) value
    ∙ ap (λ b. cond b (Some (n, rest)) None) fits

pub clock_again : (n : ℕ) → n ≤ 1000000000 → tick_of (decimal n) ≡ Some n
unfolding tick_of
clock_again n within =
    let whole : tick_at (decimal n) ≡ Some (n, []) = subst (λ text. tick_at text ≡ Some (n, [])) (append-nil (decimal n)) (tick_again n [] within tt) in
    ap (λ (o : Option (ℕ × List ℕ)). o >>= (λ tick. cond (length tick.1 == 0) (Some tick.0) None)) whole

-- ---- Spans

-- `3..7`, without the space before it
abbrev span_word : ℕ × ℕ → List ℕ
span_word run = decimal run.0 ++ codes ".." ++ decimal run.1

span_again : (lo hi : ℕ) → lo ≤ hi → hi ≤ 1000000000 → span_of (span_word (lo, hi)) ≡ Some (lo, hi)
unfolding span_of
span_again lo hi order within =
    let fits : leb lo hi ≡ true = grind (arith, nat_tests, order) in
    ap span_of (append_assoc (decimal lo) (codes "..") (decimal hi))
    ∙ ap (λ (o : Option (ℕ × List ℕ)). o >>= (λ first. after_text (codes "..") first.1 >>= (λ last. tick_of last >>= (λ (end : ℕ). cond (leb first.0 end) (Some (first.0, end)) None))))
    (tick_again lo (46 ∷ 46 ∷ decimal hi) (omega arith) refl)
    ∙ ap (λ (o : Option ℕ). o >>= (λ (end : ℕ). cond (leb lo end) (Some (lo, end)) None)) (clock_again hi within)
    ∙ ap (λ b. cond b (Some (lo, hi)) None) fits

spans_again : (least : ℕ) (runs : List (ℕ × ℕ)) → AreRuns least runs → spans_from least (map span_word runs) ≡ Some runs
spans_again least [] are = refl
spans_again least ((lo, hi) ∷ runs) are =
    let fits : leb least lo ≡ true = grind (arith, nat_tests, are.0) in
    next_span least lo hi (span_word (lo, hi)) (map span_word runs) (span_again lo hi are.1 are.2) fits
    ∙ ap (λ o. option_map (λ spans. (lo, hi) ∷ spans) o) (spans_again (hi + 2) runs are.3)

-- ---- Words

abbrev is_space : ℕ → Bool
is_space b = b == 32

no_space : (byte : ℕ) → digit_value byte < 10 → is_space byte ≡ false
no_space byte below = grind (arith, nat_tests)

digits_spaceless : (digits : List ℕ) → AllDigits 10 digits → All (λ b. is_space b ≡ false) digits
digits_spaceless [] are = All-nil (λ b. is_space b ≡ false)
digits_spaceless (d ∷ digits) are = All-cons (λ b. is_space b ≡ false) d digits (no_space d are.0) (digits_spaceless digits are.1)

spaceless : (lo hi : ℕ) → lo ≤ hi → hi ≤ 1000000000 → All (λ b. is_space b ≡ false) (span_word (lo, hi))
spaceless lo hi order within =
    let first = digits_spaceless (decimal lo) (decimal_is_IsNumeral lo (omega arith)).0.1 in
    let last = digits_spaceless (decimal hi) (decimal_is_IsNumeral hi (omega arith)).0.1 in
    let dots = All-cons (λ b. is_space b ≡ false) 46 (46 ∷ []) refl (All-cons (λ b. is_space b ≡ false) 46 [] refl (All-nil (λ b. is_space b ≡ false))) in
    All-append (λ b. is_space b ≡ false) (decimal lo ++ codes "..") (decimal hi) (All-append (λ b. is_space b ≡ false) (decimal lo) (codes "..") first dots) last

words_again : (word : List ℕ) (least : ℕ) (runs : List (ℕ × ℕ)) → All (λ b. is_space b ≡ false) word → AreRuns least runs → words (word ++ flat_map run_text runs) ≡ word ∷ map span_word runs
words_again word least [] free are = ap words (append-nil word) ∙ slice_split_none is_space word free
words_again word least ((lo, hi) ∷ runs) free are =
    slice_split_at is_space word 32 (span_word (lo, hi) ++ flat_map run_text runs) free refl
    ∙ ap (λ ws. word ∷ ws) (words_again (span_word (lo, hi)) (hi + 2) runs (spaceless lo hi are.1 are.2) are.3)

-- ---- Targets

continues_no_space : (b : ℕ) → continues_name b ≡ true → is_space b ≡ false
continues_no_space b h = elim (cases_Bool (is_space b)) [
  | inl space ↦ absurd (false≢true (sym (ap continues_name ((Decides-eqb b 32).0 space)) ∙ h))
  | inr other ↦ other
]

pub word_spaceless : (word : List ℕ) → list_all continues_name word ≡ true → All (λ b. is_space b ≡ false) word
word_spaceless [] h = All-nil (λ b. is_space b ≡ false)
word_spaceless (b ∷ word) h =
    let parts = and_parts (continues_name b) (list_all continues_name word) h in
    All-cons (λ b. is_space b ≡ false) b word (continues_no_space b parts.0) (word_spaceless word parts.1)

abbrev is_colon : ℕ → Bool
is_colon b = b == 58

continues_no_colon : (b : ℕ) → continues_name b ≡ true → is_colon b ≡ false
continues_no_colon b h = elim (cases_Bool (is_colon b)) [
  | inl colon ↦ absurd (false≢true (sym (ap continues_name ((Decides-eqb b 58).0 colon)) ∙ h))
  | inr other ↦ other
]

word_continues : (word : List ℕ) → is_word word ≡ true → list_all continues_name word ≡ true
word_continues [] h = refl
word_continues (b ∷ word) h =
    let parts = and_parts (begins_name b) (list_all continues_name word) h in
    rw (begins_continues b parts.0, parts.1) refl

pub name_continues : (word : List ℕ) → is_free_name word ≡ true → list_all continues_name word ≡ true
name_continues word h = elim (cases_Bool (is_word word)) [
  | inl good ↦ word_continues word good
  | inr bad ↦ absurd (false≢true (sym (ap (λ b. b && nat_le (length word) WORD_LIMIT && is_none (code_of reserved_words word)) bad) ∙ h))
]

pub name_spaceless : (name : List ℕ) → is_free_name name ≡ true → All (λ b. is_space b ≡ false) name
name_spaceless name h = word_spaceless name (name_continues name h)

names_continue : (ws : List (List ℕ)) → list_all is_free_name ws ≡ true → list_all (λ w. list_all continues_name w) ws ≡ true
names_continue [] h = refl
names_continue (w ∷ ws) h =
    let parts = and_parts (is_free_name w) (list_all is_free_name ws) h in
    rw (name_continues w parts.0, names_continue ws parts.1) refl

onto_parts : (x : ℕ) (ws : List (List ℕ)) → list_all (λ w. list_all continues_name w) (onto_first x ws) ≡ true
    → (continues_name x ≡ true) × (list_all (λ w. list_all continues_name w) ws ≡ true)
onto_parts x [] h = ((and_parts (continues_name x) true (and_parts (continues_name x && true) true h).0).0, refl)
onto_parts x (w ∷ ws) h =
    let outer = and_parts (continues_name x && list_all continues_name w) (list_all (λ v. list_all continues_name v) ws) h in
    let inner = and_parts (continues_name x) (list_all continues_name w) outer.0 in
    (inner.0, rw (inner.1, outer.1) refl)

colonless : (text : List ℕ) → list_all (λ w. list_all continues_name w) (words text) ≡ true → All (λ b. is_colon b ≡ false) text
colonless [] h = All-nil (λ b. is_colon b ≡ false)
colonless (x ∷ text) h = elim (cases_Bool (is_space x)) [
  | inl space ↦
      let later = rw space at h in
      All-cons (λ b. is_colon b ≡ false) x text (grind (arith, nat_tests, space)) (colonless text later)
  | inr other ↦
      let parts = onto_parts x (words text) (rw other at h) in
      All-cons (λ b. is_colon b ≡ false) x text (continues_no_colon x parts.0) (colonless text parts.1)
]

-- ---- Cuts

first_at : (mark : ℕ) → (mark == mark) ≡ true → (front rest : List ℕ) → All (λ b. (b == mark) ≡ false) front → position_or_len (λ b. b == mark) (front ++ mark ∷ rest) ≡ length front
first_at mark same [] rest free = ap (λ b. cond (not b) (1 + position_or_len (λ b. b == mark) rest) 0) same
first_at mark same (x ∷ front) rest free =
    ap (λ b. cond (not b) (1 + position_or_len (λ b. b == mark) (front ++ mark ∷ rest)) 0) (All-head (λ b. (b == mark) ≡ false) x front free)
    ∙ ap (λ n. 1 + n) (first_at mark same front rest (All-tail (λ b. (b == mark) ≡ false) x front free)) ∙ omega arith

past : (mark : ℕ) (front rest : List ℕ) → drop (length front + 1) (front ++ mark ∷ rest) ≡ rest
past mark front rest = rw (length-append front (mark ∷ []), append_assoc front (mark ∷ []) rest) at (drop-append_seam (front ++ mark ∷ []) rest)

pub cut_at : (mark : ℕ) → (mark == mark) ≡ true → (front rest : List ℕ) → All (λ b. (b == mark) ≡ false) front → cut_at_mark mark (front ++ mark ∷ rest) ≡ (front, Some rest)
cut_at mark same front rest free =
    let inside : ltb (length front) (length (front ++ mark ∷ rest)) ≡ true = grind (arith, nat_tests, length-append front (mark ∷ rest)) in
    rw (first_at mark same front rest free, inside, take-append_seam front (mark ∷ rest), past mark front rest) refl

none_at : (mark : ℕ) (text : List ℕ) → All (λ b. (b == mark) ≡ false) text → position_or_len (λ b. b == mark) text ≡ length text
none_at mark [] free = refl
none_at mark (x ∷ text) free =
    ap (λ b. cond (not b) (1 + position_or_len (λ b. b == mark) text) 0) (All-head (λ b. (b == mark) ≡ false) x text free)
    ∙ ap (λ n. 1 + n) (none_at mark text (All-tail (λ b. (b == mark) ≡ false) x text free)) ∙ omega arith

pub cut_nowhere : (mark : ℕ) (text : List ℕ) → All (λ b. (b == mark) ≡ false) text → cut_at_mark mark text ≡ (text, None)
cut_nowhere mark text free =
    let outside : ltb (length text) (length text) ≡ false = grind (arith, nat_tests) in
    rw (none_at mark text free, outside) refl

before_again : (front : List ℕ) → before_text (codes " ") (front ++ 32 ∷ []) ≡ Some front
before_again front =
    let count : length (front ++ 32 ∷ []) - 1 ≡ length front = omega (arith, length-append front (32 ∷ [])) in
    rw (count, drop-append_seam front (32 ∷ []), take-append_seam front (32 ∷ [])) refl

cut_row : (target later : List ℕ) → is_target target ≡ true → cut_at_mark 58 (target ++ 32 ∷ 58 ∷ later) ≡ (target ++ 32 ∷ [], Some later)
cut_row target later is =
    let free = colonless target (names_continue (words target) (and_parts (list_all is_free_name (words target)) _ is).0) in
    let all = All-append (λ b. is_colon b ≡ false) target (32 ∷ []) free (All-cons (λ b. is_colon b ≡ false) 32 [] refl (All-nil (λ b. is_colon b ≡ false))) in
    subst (λ text. cut_at_mark 58 text ≡ (target ++ 32 ∷ [], Some later)) (append_assoc target (32 ∷ []) (58 ∷ later)) (cut_at 58 refl (target ++ 32 ∷ []) later all)

parts_again : (target ticks : List ℕ) → is_target target ≡ true → row_parts (target ++ 32 ∷ 58 ∷ 32 ∷ ticks) ≡ Some (target, ticks)
unfolding row_parts
parts_again target ticks is =
    ap (λ (parts : List ℕ × Option (List ℕ)). before_text (codes " ") parts.0 >>= (λ (front : List ℕ). parts.1 >>= (λ later. after_text (codes " ") later >>= (λ rest. cond (is_target front) (Some (front, rest)) None))))
    (cut_row target (32 ∷ ticks) is)
    ∙ ap (λ (o : Option (List ℕ)). o >>= (λ (front : List ℕ). cond (is_target front) (Some (front, ticks)) None)) (before_again target)
    ∙ ap (λ b. cond b (Some (target, ticks)) None) is

pub row_again : (target : List ℕ) (runs : List (ℕ × ℕ)) → is_target target ≡ true → AreRuns 0 runs → 0 < length runs
    → row_in_text (target ++ (codes " :" ++ flat_map run_text runs)) ≡ Some (target, runs)
unfolding row_in_text
row_again target [] is are some = absurd (omega arith)
row_again target ((lo, hi) ∷ runs) is are some =
    let ticks = span_word (lo, hi) ++ flat_map run_text runs in
    let cut_up : words ticks ≡ span_word (lo, hi) ∷ map span_word runs = words_again (span_word (lo, hi)) (hi + 2) runs (spaceless lo hi are.1 are.2) are.3 in
    ap (λ (o : Option (List ℕ × List ℕ)). o >>= (λ parts. spans_from 0 (words parts.1) >>= (λ spans. Some (parts.0, spans)))) (parts_again target ticks is)
    ∙ ap (λ ws. spans_from 0 ws >>= (λ spans. Some (target, spans))) cut_up
    ∙ ap (λ (o : Option (List (ℕ × ℕ))). o >>= (λ spans. Some (target, spans))) (spans_again 0 ((lo, hi) ∷ runs) are)
