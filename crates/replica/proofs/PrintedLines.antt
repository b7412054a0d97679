-- The lines of a feed say what they were printed of.
use Rattle.std.proofs.Common.{◌≡◌, ◌∙◌, ℕ, ◌≤◌, ◌==◌, Bool, true, false, cond, List, ◌∷◌, ◌++◌, codes, option_and_then, Option, Some, None, All, refl, ap}
use Rattle.std.specs.Fmt.{decimal}
use Rattle.std.specs.Option.{option_map_or}
use Rattle.std.specs.Str.{bytes_eq}
use Rattle.exact.specs.Options.{◌>>=◌}
use Rattle.exact.proofs.Truths.{both_false}
use Rattle.exact.proofs.Lists.{bytes_eq_refl}
use Rattle.formula.specs.declared.kind.QueryKind.{QueryKind}
use Rattle.formula.specs.declared.kind.QueryKind.TheVariants.{Watch, Keep}
use Rattle.formula.specs.Kinds.{kind_word}
use Rattle.replica.specs.Line.{ToldLine, Starts, Answers, Changes, Passes, Nothing, Broken, is_feed_word, is_time_word, query_kind, told_by_line, named, row_in_text, start_of, told_of}
use Rattle.replica.specs.Printed.{IsTellable, ReadsPrintedLines, answer_row_text, told_text}
use Rattle.replica.specs.Rows.{TargetRow}
use Rattle.replica.specs.Text.{cut_at_mark, is_free_name, tick_of}
use Rattle.tick_set.specs.declared.operation.SetOperation.TheVariants.{Union, Without}
use Rattle.replica.proofs.PrintedLemmas.{clock_again, cut_at, cut_nowhere, name_spaceless, row_again, word_spaceless}

abbrev HasNoSpace : List ℕ → Type 0
HasNoSpace word = All (λ b. (b == 32) ≡ false) word

row_is : (row : TargetRow) → IsTellable row → row_in_text (told_text row) ≡ Some row
row_is row is = row_again row.0 row.1 is.names is.runs is.some

-- by its first word, and what follows it
by_verb : List ℕ → List ℕ × Option (List ℕ) → ToldLine
by_verb name parts =
    cond (bytes_eq parts.0 (codes "clock")) (option_map_or Passes (option_and_then tick_of parts.1) Broken)
    (cond (is_time_word parts.0) (option_map_or Answers (option_and_then row_in_text parts.1) Nothing) (option_map_or (named name parts.0) parts.1 Nothing))

line_is : (name verb text : List ℕ) → HasNoSpace verb → told_by_line name (verb ++ 32 ∷ text) ≡ by_verb name (verb, Some text)
unfolding told_by_line by_verb
line_is name verb text free = ap (λ parts. by_verb name parts) (cut_at 32 refl verb text free)

named_is : (name verb rest : List ℕ) → is_free_name name ≡ true → named name verb (name ++ 32 ∷ rest) ≡ told_of verb (Some rest)
named_is name verb rest is =
    ap (λ (parts : List ℕ × Option (List ℕ)). cond (bytes_eq parts.0 name) (told_of verb parts.1) Nothing) (cut_at 32 refl name rest (name_spaceless name is))
    ∙ ap (λ b. cond b (told_of verb (Some rest)) Nothing) (bytes_eq_refl name)

named_alone : (name verb : List ℕ) → is_free_name name ≡ true → named name verb name ≡ told_of verb None
named_alone name verb is =
    ap (λ (parts : List ℕ × Option (List ℕ)). cond (bytes_eq parts.0 name) (told_of verb parts.1) Nothing) (cut_nowhere 32 name (name_spaceless name is))
    ∙ ap (λ b. cond b (told_of verb None) Nothing) (bytes_eq_refl name)

other_is : (name other verb rest : List ℕ) → is_free_name other ≡ true → bytes_eq other name ≡ false → named name verb (other ++ 32 ∷ rest) ≡ Nothing
other_is name other verb rest is differs =
    ap (λ (parts : List ℕ × Option (List ℕ)). cond (bytes_eq parts.0 name) (told_of verb parts.1) Nothing) (cut_at 32 refl other rest (name_spaceless other is))
    ∙ ap (λ b. cond b (told_of verb (Some rest)) Nothing) differs

other_alone : (name other verb : List ℕ) → is_free_name other ≡ true → bytes_eq other name ≡ false → named name verb other ≡ Nothing
other_alone name other verb is differs =
    ap (λ (parts : List ℕ × Option (List ℕ)). cond (bytes_eq parts.0 name) (told_of verb parts.1) Nothing) (cut_nowhere 32 other (name_spaceless other is))
    ∙ ap (λ b. cond b (told_of verb None) Nothing) differs

-- ---- Lines that say nothing

told_nothing : (word : List ℕ) (rest : Option (List ℕ)) → is_feed_word word ≡ false → told_of word rest ≡ Nothing
unfolding told_of
told_nothing word rest h =
    let after_clock = both_false (bytes_eq word (codes "clock")) _ h in
    let after_time = both_false (is_time_word word) _ after_clock.1 in
    let after_start = both_false (bytes_eq word (codes "start")) _ after_time.1 in
    let after_gain = both_false (bytes_eq word (codes "gain")) _ after_start.1 in
    let after_lose = both_false (bytes_eq word (codes "lose")) _ after_gain.1 in
    rw (after_start.0, after_gain.0, after_lose.0, after_lose.1) refl

named_nothing : (name word text : List ℕ) → is_feed_word word ≡ false → named name word text ≡ Nothing
named_nothing name word text h = elim (bytes_eq (cut_at_mark 32 text).0 name) as (λ (b : Bool). cond b (told_of word (cut_at_mark 32 text).1) Nothing ≡ Nothing) [
  | true ↦ told_nothing word (cut_at_mark 32 text).1 h
  | false ↦ refl
]

verb_nothing : (name word : List ℕ) (rest : Option (List ℕ)) → is_feed_word word ≡ false → by_verb name (word, rest) ≡ option_map_or (named name word) rest Nothing
unfolding by_verb
verb_nothing name word rest h =
    let after_clock = both_false (bytes_eq word (codes "clock")) _ h in
    let after_time = both_false (is_time_word word) _ after_clock.1 in
    rw (after_clock.0, after_time.0) refl

alone_is : (name word : List ℕ) → HasNoSpace word → told_by_line name word ≡ by_verb name (word, None)
unfolding told_by_line by_verb
alone_is name word free = ap (λ parts. by_verb name parts) (cut_nowhere 32 word free)

-- ---- First words

start_word : HasNoSpace (codes "start")
start_word = word_spaceless (codes "start") refl

gain_word : HasNoSpace (codes "gain")
gain_word = word_spaceless (codes "gain") refl

lose_word : HasNoSpace (codes "lose")
lose_word = word_spaceless (codes "lose") refl

stop_word : HasNoSpace (codes "stop")
stop_word = word_spaceless (codes "stop") refl

clock_word : HasNoSpace (codes "clock")
clock_word = word_spaceless (codes "clock") refl

now_word : HasNoSpace (codes "now")
now_word = word_spaceless (codes "now") refl

later_word : HasNoSpace (codes "later")
later_word = word_spaceless (codes "later") refl

past_word : HasNoSpace (codes "past")
past_word = word_spaceless (codes "past") refl

-- ---- Lines

start_is : (kind : QueryKind) (clock : ℕ) → clock ≤ 1000000000 → start_of (kind_word kind ++ 32 ∷ decimal clock) ≡ Some (kind, clock)
unfolding start_of
start_is Watch clock within =
    ap (λ (parts : List ℕ × Option (List ℕ)). query_kind parts.0 >>= (λ kind. parts.1 >>= (λ last. tick_of last >>= (λ (n : ℕ). Some (kind, n))))) (cut_at 32 refl (codes "watch") (decimal clock) (word_spaceless (codes "watch") refl))
    ∙ ap (λ (o : Option ℕ). o >>= (λ (n : ℕ). Some (Watch, n))) (clock_again clock within)
start_is Keep clock within =
    ap (λ (parts : List ℕ × Option (List ℕ)). query_kind parts.0 >>= (λ kind. parts.1 >>= (λ last. tick_of last >>= (λ (n : ℕ). Some (kind, n))))) (cut_at 32 refl (codes "keep") (decimal clock) (word_spaceless (codes "keep") refl))
    ∙ ap (λ (o : Option ℕ). o >>= (λ (n : ℕ). Some (Keep, n))) (clock_again clock within)

answer_is : (name word : List ℕ) (row : TargetRow) → HasNoSpace word → by_verb name (word, Some (told_text row)) ≡ option_map_or Answers (row_in_text (told_text row)) Nothing → IsTellable row → told_by_line name (answer_row_text word row) ≡ Answers row
answer_is name word row free by is = line_is name word (told_text row) free ∙ by ∙ ap (λ o. option_map_or Answers o Nothing) (row_is row is)

pub reads : (name : List ℕ) → is_free_name name ≡ true → ReadsPrintedLines name
unfolding told_of by_verb
reads name is = record {
  starts = λ kind clock within. line_is name (codes "start") (name ++ 32 ∷ (kind_word kind ++ 32 ∷ decimal clock)) start_word
      ∙ named_is name (codes "start") (kind_word kind ++ 32 ∷ decimal clock) is
      ∙ ap (λ (o : Option (QueryKind × ℕ)). option_map_or (λ s. Starts s.0 s.1) o Broken) (start_is kind clock within);
  nows = λ row told. answer_is name (codes "now") row now_word refl told;
  laters = λ row told. answer_is name (codes "later") row later_word refl told;
  pasts = λ row told. answer_is name (codes "past") row past_word refl told;
  gains = λ row told. line_is name (codes "gain") (name ++ 32 ∷ told_text row) gain_word ∙ named_is name (codes "gain") (told_text row) is
      ∙ ap (λ o. option_map_or (Changes Union) o Broken) (row_is row told);
  losses = λ row told. line_is name (codes "lose") (name ++ 32 ∷ told_text row) lose_word ∙ named_is name (codes "lose") (told_text row) is
      ∙ ap (λ o. option_map_or (Changes Without) o Broken) (row_is row told);
  clocks = λ clock within. line_is name (codes "clock") (decimal clock) clock_word ∙ ap (λ o. option_map_or Passes o Broken) (clock_again clock within);
  stops = line_is name (codes "stop") name stop_word ∙ named_alone name (codes "stop") is;
  others_start = λ other kind clock named_so differs. line_is name (codes "start") (other ++ 32 ∷ (kind_word kind ++ 32 ∷ decimal clock)) start_word
      ∙ other_is name other (codes "start") (kind_word kind ++ 32 ∷ decimal clock) named_so differs;
  others_gain = λ other row named_so differs. line_is name (codes "gain") (other ++ 32 ∷ told_text row) gain_word ∙ other_is name other (codes "gain") (told_text row) named_so differs;
  others_lose = λ other row named_so differs. line_is name (codes "lose") (other ++ 32 ∷ told_text row) lose_word ∙ other_is name other (codes "lose") (told_text row) named_so differs;
  others_stop = λ other named_so differs. line_is name (codes "stop") other stop_word ∙ other_alone name other (codes "stop") named_so differs;
  passed_over = λ word rest letters none. line_is name word rest (word_spaceless word letters) ∙ verb_nothing name word (Some rest) none ∙ named_nothing name word rest none;
  of_one_word = λ word letters none. alone_is name word (word_spaceless word letters) ∙ verb_nothing name word None none;
}
