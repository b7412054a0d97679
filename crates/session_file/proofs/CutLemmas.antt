-- A text that was cut: what is left of it has no line `end`, and a text without one has a fault.
use Rattle.std.proofs.Common.{◌≡◌, ℕ, zero, suc, ◌+◌, ◌-◌, ◌<◌, ◌≤◌, ◌==◌, ◌∙◌, ◌&&◌, ◌||◌, not, Bool, true, false, cond, List, [], ◌∷◌, ◌++◌, length, take, codes, slice_index, Option, Some, None, inl, inr, refl, ap, sym, subst, arith, append_assoc, length-append}
use Rattle.std.proofs.lemmas.Bool.{cases_lt}
use Rattle.std.proofs.lemmas.List.{take-append-le, take_all}
use Rattle.std.proofs.Math.Seq.{take-append-add}
use Rattle.std.specs.Prelude.{IsSome}
use Rattle.std.specs.List.{AllByRecursion, flat_map, list_any, onto_first, slice_split}
use Rattle.std.specs.Option.{option_map_or}
use Rattle.std.specs.Str.{bytes_eq}
use Rattle.std.specs.Str.Lines.{lines, lines_of_parts}
use Rattle.command_text.specs.Tree
use Rattle.command_text.specs.Tree.{CommandTree}
use Rattle.command_text.specs.Journal.{Accepted, clock, is_kept}
use Rattle.command_text.specs.Line.{is_ascii, has_other_byte}
use Rattle.command_text.specs.Text.{text_of}
use Rattle.command_text.specs.TextLaws.{PrintsLines}
use Rattle.session_file.specs.declared.counts.Counts.{Counts}
use Rattle.session_file.specs.declared.counts.Progress.{Progress}
use Rattle.session_file.specs.declared.fault.FileFault.TheVariants as faults
use Rattle.session_file.specs.Counts.{counts_line, counts_of}
use Rattle.session_file.specs.Kept.{is_passed, kept_in}
use Rattle.session_file.specs.Laws.{CutTextsAreBad, IsAcceptedEntry, IsSavable, LastFeedMayLack, TextsWithoutEndAreBad, has_end, is_end}
use Rattle.session_file.specs.Reading.{FileLine, Passed, End, Command, Bad, progress_after, header, may_end, may_go_on, old_header, file_line_of, read_counted, read_lines, read_on, reading_of, starting, stops}
use Rattle.session_file.specs.Text.{counts_in, ended_line, entry_text, session_text}
use Rattle.session_file.proofs.ReadLemmas.{by_part}
use Rattle.session_file.proofs.SavedLemmas.{ascii_is, counts_ascii, line_then}
use Rattle.exact.proofs.Truths.{both_false, true_from_not}

-- ---- A text without a line `end`

not_the_end : (p : Progress) (line : List ℕ) → is_end line ≡ false →
    file_line_of p line ≡ cond (is_passed line) Passed (option_map_or Command (cond (may_go_on p) (kept_in line) None) Bad)
unfolding file_line_of
not_the_end p line other =
    ap (λ b. cond (is_passed line) Passed (cond (b && may_end p) End (option_map_or Command (cond (may_go_on p) (kept_in line) None) Bad))) other

-- a line that isn't `end` is faulty, or those after it are
faulty_from : (p : Progress) (number : ℕ) (rest : List (List ℕ)) (passed : Bool) (command : Option CommandTree) →
    ((q : Progress) → IsSome (read_on q (number + 1) rest).fault) →
    IsSome (by_part p number rest (cond passed Passed (option_map_or Command command Bad))).fault
faulty_from p number rest true command later = later p
faulty_from p number rest false (Some c) later = later (progress_after p c)
faulty_from p number rest false None later = refl

faulty_on : (p : Progress) (number : ℕ) (ls : List (List ℕ)) → list_any is_end ls ≡ false → IsSome (read_on p number ls).fault
faulty_on p number [] none = refl
faulty_on p number (line ∷ rest) none =
    let parts = both_false (is_end line) (list_any is_end rest) none in
    subst (λ (part : FileLine). IsSome (by_part p number rest part).fault) (sym (not_the_end p line parts.0))
    (faulty_from p number rest (is_passed line) (cond (may_go_on p) (kept_in line) None) (λ q. faulty_on q (number + 1) rest parts.1))

faulty_counts : (said : Option Counts) (rest : List (List ℕ)) → list_any is_end rest ≡ false →
    IsSome (option_map_or (λ s. read_on (starting (Some s)) 3 rest) said (stops (faults.BadLine 2))).fault
faulty_counts None rest none = refl
faulty_counts (Some s) rest none = faulty_on (starting (Some s)) 3 rest none

faulty_counted : (ls : List (List ℕ)) → list_any is_end ls ≡ false → IsSome (read_counted ls).fault
faulty_counted [] none = refl
faulty_counted (line ∷ rest) none = faulty_counts (counts_of line) rest (both_false (is_end line) (list_any is_end rest) none).1

faulty_after : (rest : List (List ℕ)) (old new : Bool) → list_any is_end rest ≡ false →
    IsSome (cond old (read_on (starting None) 2 rest) (cond new (read_counted rest) (stops faults.BadHeader))).fault
faulty_after rest true new none = faulty_on (starting None) 2 rest none
faulty_after rest false true none = faulty_counted rest none
faulty_after rest false false none = refl

faulty_lines : (ls : List (List ℕ)) → list_any is_end ls ≡ false → IsSome (read_lines ls).fault
faulty_lines [] none = refl
faulty_lines (first ∷ rest) none =
    faulty_after rest (bytes_eq first old_header) (bytes_eq first header) (both_false (is_end first) (list_any is_end rest) none).1

pub texts_without_end : TextsWithoutEndAreBad
unfolding reading_of
texts_without_end text none = faulty_lines (lines text) none

-- ---- Fronts of one line

split_open : (line : List ℕ) → has_other_byte line ≡ false → slice_split (λ b. b == 10) line ≡ line ∷ []
split_open [] h = refl
split_open (x ∷ xs) h =
    let parts = both_false (not (is_ascii x)) (has_other_byte xs) h in
    ap (λ b. cond b ([] ∷ slice_split (λ b. b == 10) xs) (onto_first x (slice_split (λ b. b == 10) xs))) (ascii_is x (true_from_not (is_ascii x) parts.0)).0
    ∙ ap (onto_first x) (split_open xs parts.1)

front_ascii : (line : List ℕ) (n : ℕ) → has_other_byte line ≡ false → has_other_byte (take n line) ≡ false
front_ascii line zero h = refl
front_ascii [] (suc n) h = refl
front_ascii (x ∷ xs) (suc n) h =
    let parts = both_false (not (is_ascii x)) (has_other_byte xs) h in
    ap (λ b. b || has_other_byte (take n xs)) parts.0 ∙ front_ascii xs n parts.1

no_end_alone : (line : List ℕ) (empty : Bool) → is_end line ≡ false → list_any is_end (cond empty [] (line ∷ [])) ≡ false
no_end_alone line true other = refl
no_end_alone line false other = ap (λ b. b || false) other

no_end_open : (line : List ℕ) → has_other_byte line ≡ false → is_end line ≡ false → has_end line ≡ false
no_end_open line ascii other =
    ap (λ (parts : List (List ℕ)). list_any is_end (lines_of_parts parts)) (split_open line ascii)
    ∙ no_end_alone line (length line == 0) other

-- no front of the line is `end`, nor is the line
abbrev NeverEnds : List ℕ → Type 0
NeverEnds line = (n : ℕ) → is_end (take n line) ≡ false

-- what begins with another letter than `end`
begins_otherwise : (line : List ℕ) → (slice_index line 0 == 101) ≡ false → NeverEnds line
begins_otherwise line h zero = refl
begins_otherwise [] h (suc n) = refl
begins_otherwise (x ∷ xs) h (suc n) = ap (λ b. b && bytes_eq (take n xs) (codes "nd")) h

counts_never_end : (said : Counts) → NeverEnds (counts_line said)
counts_never_end said zero = refl
counts_never_end said (suc zero) = refl
counts_never_end said (suc (suc zero)) = refl
counts_never_end said (suc (suc (suc n))) = refl

command_never_ends : (c : CommandTree) → is_kept c ≡ true → NeverEnds (text_of c)
unfolding text_of
command_never_ends (Tree.Class n k b attrs) h = begins_otherwise (text_of (Tree.Class n k b attrs)) refl
command_never_ends (Tree.Region n ps) h = begins_otherwise (text_of (Tree.Region n ps)) refl
command_never_ends (Tree.Insert c n p ss) h = begins_otherwise (text_of (Tree.Insert c n p ss)) refl
command_never_ends (Tree.Update n p ss) h = begins_otherwise (text_of (Tree.Update n p ss)) refl
command_never_ends (Tree.Remove n) h = begins_otherwise (text_of (Tree.Remove n)) refl
command_never_ends (Tree.Tick k) h = begins_otherwise (text_of (Tree.Tick k)) refl
command_never_ends (Tree.Watch n k q) h = begins_otherwise (text_of (Tree.Watch n k q)) refl
command_never_ends (Tree.Keep n k q) h = begins_otherwise (text_of (Tree.Keep n k q)) refl
command_never_ends (Tree.Drop n) h = begins_otherwise (text_of (Tree.Drop n)) refl
command_never_ends _ h = absurd (cc h)

-- ---- Fronts of lines that are written one after another

-- no front that lacks more than the last byte has a line `end`
abbrev HasNoEarlyEnd : List ℕ → Type 0
HasNoEarlyEnd text = (n : ℕ) → n + 1 < length text → has_end (take n text) ≡ false

front_within : (line rest : List ℕ) (n : ℕ) → n ≤ length line → take n (ended_line line ++ rest) ≡ take n line
front_within line rest n short =
    ap (take n) (append_assoc line (10 ∷ []) rest) ∙ take-append-le n line (10 ∷ rest) short

written_length : (line rest : List ℕ) → length (ended_line line ++ rest) ≡ length line + 1 + length rest
written_length line rest =
    let whole = length-append (ended_line line) rest in
    let first : length (ended_line line) ≡ length line + 1 = length-append line (10 ∷ []) in
    omega (arith, whole, first)

front_past : (line rest : List ℕ) (n : ℕ) → length line < n → take n (ended_line line ++ rest) ≡ ended_line line ++ take (n - (length line + 1)) rest
front_past line rest n long =
    let first : length (ended_line line) ≡ length line + 1 = length-append line (10 ∷ []) in
    let sum : n ≡ length (ended_line line) + (n - (length line + 1)) = omega (arith, first, long) in
    ap (λ (m : ℕ). take m (ended_line line ++ rest)) sum ∙ take-append-add (ended_line line) rest (n - (length line + 1))

one_more_line : (line rest : List ℕ) → has_other_byte line ≡ false → NeverEnds line → HasNoEarlyEnd rest → HasNoEarlyEnd (ended_line line ++ rest)
one_more_line line rest ascii never later n within =
    elim (cases_lt (length line) n) [
      | inl long ↦
          let m : ℕ = n - (length line + 1) in
          let whole : is_end line ≡ false = ap is_end (sym (take_all (length line) line (omega arith))) ∙ never (length line) in
          let shorter : m + 1 < length rest = omega (arith, within, long, written_length line rest) in
          ap has_end (front_past line rest n long)
          ∙ ap (list_any is_end) (line_then line (take m rest) ascii)
          ∙ ap (λ b. b || has_end (take m rest)) whole
          ∙ later m shorter
      | inr short ↦
          ap has_end (front_within line rest n short)
          ∙ no_end_open (take n line) (front_ascii line n ascii) (never n)
    ]

end_is_last : HasNoEarlyEnd (ended_line (codes "end"))
end_is_last zero within = refl
end_is_last (suc zero) within = refl
end_is_last (suc (suc zero)) within = refl
end_is_last (suc (suc (suc n))) within = absurd (omega (arith, within))

entries_then : (e : Accepted) (journal : List Accepted) →
    flat_map entry_text (e ∷ journal) ++ ended_line (codes "end") ≡ ended_line (text_of e.1) ++ (flat_map entry_text journal ++ ended_line (codes "end"))
entries_then e journal = append_assoc (entry_text e) (flat_map entry_text journal) (ended_line (codes "end"))

entries_have_no_early_end : PrintsLines → (journal : List Accepted) → AllByRecursion IsAcceptedEntry journal →
    HasNoEarlyEnd (flat_map entry_text journal ++ ended_line (codes "end"))
entries_have_no_early_end prints [] are = end_is_last
entries_have_no_early_end prints (e ∷ journal) are =
    subst HasNoEarlyEnd (sym (entries_then e journal))
    (one_more_line (text_of e.1) (flat_map entry_text journal ++ ended_line (codes "end")) (prints e.1 are.0.printable).0
    (command_never_ends e.1 are.0.kept) (entries_have_no_early_end prints journal are.1))

text_has_no_early_end : PrintsLines → (journal : List Accepted) → IsSavable journal → HasNoEarlyEnd (session_text journal)
unfolding session_text
text_has_no_early_end prints journal is =
    let said : Counts = counts_in journal in
    let entries : List ℕ = flat_map entry_text journal ++ ended_line (codes "end") in
    one_more_line header (ended_line (counts_line said) ++ entries) refl (begins_otherwise header refl)
    (one_more_line (counts_line said) entries (counts_ascii (length journal) (clock journal) (omega (arith, is.few)) (omega (arith, is.ticks)))
    (counts_never_end said) (entries_have_no_early_end prints journal is.entries))

pub cut_texts : PrintsLines → CutTextsAreBad
cut_texts prints journal n is within =
    texts_without_end (take n (session_text journal)) (text_has_no_early_end prints journal is n within)

-- ---- Texts without their last line feed

-- without its last byte the text has the same lines
record IsSameWithoutLast (text : List ℕ) : Type 0 where
  pub some : 1 ≤ length text
  pub same : (n : ℕ) → n + 1 ≡ length text → lines (take n text) ≡ lines text

one_more_before : (line rest : List ℕ) → has_other_byte line ≡ false → IsSameWithoutLast rest → IsSameWithoutLast (ended_line line ++ rest)
one_more_before line rest ascii is = record {
  some = omega (arith, written_length line rest, is.some);
  same = λ n all.
      let m : ℕ = n - (length line + 1) in
      let sum : n + 1 ≡ length line + 1 + length rest = all ∙ written_length line rest in
      let long : length line < n = omega (arith, sum, is.some) in
      let last : m + 1 ≡ length rest = omega (arith, sum, is.some) in
      ap lines (front_past line rest n long)
      ∙ line_then line (take m rest) ascii
      ∙ ap (λ (ls : List (List ℕ)). line ∷ ls) (is.same m last)
      ∙ sym (line_then line rest ascii);
}

end_without_feed : (n : ℕ) → n ≡ 3 → lines (take n (ended_line (codes "end"))) ≡ lines (ended_line (codes "end"))
end_without_feed n is = ap (λ (m : ℕ). lines (take m (ended_line (codes "end")))) is

end_same : IsSameWithoutLast (ended_line (codes "end"))
end_same = record { some = omega arith; same = λ n all. end_without_feed n (omega (arith, all)) }

entries_same : PrintsLines → (journal : List Accepted) → AllByRecursion IsAcceptedEntry journal →
    IsSameWithoutLast (flat_map entry_text journal ++ ended_line (codes "end"))
entries_same prints [] are = end_same
entries_same prints (e ∷ journal) are =
    subst IsSameWithoutLast (sym (entries_then e journal))
    (one_more_before (text_of e.1) (flat_map entry_text journal ++ ended_line (codes "end")) (prints e.1 are.0.printable).0
    (entries_same prints journal are.1))

text_same : PrintsLines → (journal : List Accepted) → IsSavable journal → IsSameWithoutLast (session_text journal)
unfolding session_text
text_same prints journal is =
    let said : Counts = counts_in journal in
    let entries : List ℕ = flat_map entry_text journal ++ ended_line (codes "end") in
    one_more_before header (ended_line (counts_line said) ++ entries) refl
    (one_more_before (counts_line said) entries (counts_ascii (length journal) (clock journal) (omega (arith, is.few)) (omega (arith, is.ticks)))
    (entries_same prints journal is.entries))

pub last_feed : PrintsLines → LastFeedMayLack
unfolding reading_of
last_feed prints journal n is all = ap read_lines ((text_same prints journal is).same n all)
