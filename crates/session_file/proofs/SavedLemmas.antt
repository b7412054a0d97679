-- The lines of a text that was saved, and what they are read as.
use Rattle.std.proofs.Common.{◌≡◌, ℕ, zero, suc, ◌+◌, ◌-◌, ◌^◌, ◌<◌, ◌≤◌, ◌==◌, ◌∙◌, ◌&&◌, ◌||◌, not, leb, ltb, eqb, true, false, cond, List, [], ◌∷◌, ◌++◌, length, take, map, codes, slice_index, Option, Some, None, refl, ap, sym, arith, append_assoc, append-nil}
use Rattle.std.proofs.lemmas.Bool.Decides.{nat_tests}
use Rattle.std.proofs.lemmas.Fmt.{decimal_is_IsNumeral}
use Rattle.std.proofs.lemmas.List.Folds.{list_any-append}
use Rattle.std.proofs.lemmas.List.Sums.{sum_by-cons}
use Rattle.std.specs.Char.{digit_value}
use Rattle.std.specs.Fmt.{decimal}
use Rattle.std.specs.List.{AllByRecursion, flat_map, onto_first, slice_split}
use Rattle.std.specs.Option.{option_map_or}
use Rattle.std.specs.Str.{bytes_eq}
use Rattle.std.specs.Str.Parse.{AllDigits}
use Rattle.std.specs.Str.Lines.{lines, lines_of_parts}
use Rattle.command_text.specs.Tree
use Rattle.command_text.specs.Tree.{CommandTree}
use Rattle.command_text.specs.Journal.{Accepted, clock, is_kept, ticks_of}
use Rattle.command_text.specs.Line.{is_ascii, has_other_byte}
use Rattle.command_text.specs.Text.{text_of}
use Rattle.command_text.specs.TextLaws.{PrintsLines, ReadsWhatIsPrinted}
use Rattle.session_file.specs.declared.counts.Counts.{Counts}
use Rattle.session_file.specs.declared.counts.Progress.{Progress}
use Rattle.session_file.specs.declared.fault.FileFault.TheVariants as faults
use Rattle.session_file.specs.Counts.{counts_line, counts_of, whole_in_front}
use Rattle.session_file.specs.Kept.{is_passed, kept_in, may_be_loaded}
use Rattle.session_file.specs.Laws.{IsAcceptedEntry, LoadsWhatIsSaved, numbered_commands}
use Rattle.session_file.specs.Reading.{finished, header, may_end, read_lines, read_on, reading_of, starting, stops, with_first}
use Rattle.session_file.specs.Text.{counts_in, ended_line, entry_text, session_text}
use Rattle.session_file.proofs.KeptLemmas.{kept_taken}
use Rattle.session_file.proofs.LineLemmas.{part_before}
use Rattle.session_file.proofs.ReadLemmas.{read_command, read_end}
use Rattle.session_file.proofs.TextLemmas.{whole_again}
use Rattle.exact.proofs.Truths.{both_false, true_from_not}

-- ---- Lines that are written one after another

pub ascii_is : (byte : ℕ) → is_ascii byte ≡ true → ((byte == 10) ≡ false) × ((byte == 13) ≡ false)
ascii_is byte h = (grind (arith, nat_tests, h), grind (arith, nat_tests, h))

split_at : (line rest : List ℕ) → has_other_byte line ≡ false → slice_split (λ b. b == 10) (line ++ 10 ∷ rest) ≡ line ∷ slice_split (λ b. b == 10) rest
split_at [] rest h = refl
split_at (x ∷ xs) rest h =
    let parts = both_false (not (is_ascii x)) (has_other_byte xs) h in
    ap (λ b. cond b ([] ∷ slice_split (λ b. b == 10) (xs ++ 10 ∷ rest)) (onto_first x (slice_split (λ b. b == 10) (xs ++ 10 ∷ rest)))) (ascii_is x (true_from_not (is_ascii x) parts.0)).0
    ∙ ap (onto_first x) (split_at xs rest parts.1)

no_return_at : (line : List ℕ) (i : ℕ) → has_other_byte line ≡ false → (slice_index line i == 13) ≡ false
no_return_at [] i h = refl
no_return_at (x ∷ xs) zero h = (ascii_is x (true_from_not (is_ascii x) (both_false (not (is_ascii x)) (has_other_byte xs) h).0)).1
no_return_at (x ∷ xs) (suc i) h = no_return_at xs i (both_false (not (is_ascii x)) (has_other_byte xs) h).1

pub line_then : (line rest : List ℕ) → has_other_byte line ≡ false → lines (ended_line line ++ rest) ≡ line ∷ lines rest
line_then line rest h =
    ap lines (append_assoc line (10 ∷ []) rest)
    ∙ ap lines_of_parts (split_at line rest h)
    ∙ part_before line rest
    ∙ ap (λ b. cond b (take (length line - 1) line) line ∷ lines rest) (no_return_at line (length line - 1) h)

-- ---- The first two lines

digit_ascii : (byte : ℕ) → digit_value byte < 10 → not (is_ascii byte) ≡ false
digit_ascii byte below = grind (arith, nat_tests, below)

digits_ascii : (digits : List ℕ) → AllDigits 10 digits → has_other_byte digits ≡ false
digits_ascii [] are = refl
digits_ascii (digit ∷ digits) are = ap (λ b. b || has_other_byte digits) (digit_ascii digit are.0) ∙ digits_ascii digits are.1

decimal_ascii : (n : ℕ) → n < 10 ^ 10 → has_other_byte (decimal n) ≡ false
decimal_ascii n small = digits_ascii (decimal n) (decimal_is_IsNumeral n (omega arith)).0.1

joined_ascii : (a b : List ℕ) → has_other_byte a ≡ false → has_other_byte b ≡ false → has_other_byte (a ++ b) ≡ false
joined_ascii a b ha hb = list_any-append (λ byte. not (is_ascii byte)) a b ∙ ap (λ t. t || has_other_byte b) ha ∙ hb

pub counts_ascii : (n t : ℕ) → n < 10 ^ 10 → t < 10 ^ 10 → has_other_byte (counts_line (record { commands = n; ticks = t })) ≡ false
counts_ascii n t hn ht =
    joined_ascii (decimal n) (codes " clock " ++ decimal t) (decimal_ascii n hn) (decimal_ascii t ht)

counts_again : (n t : ℕ) → n ≤ 2000000 → t ≤ 10 ^ 9 → counts_of (counts_line (record { commands = n; ticks = t })) ≡ Some (record { commands = n; ticks = t })
unfolding counts_of
counts_again n t few small =
    let first = whole_again 2000000 n (codes " clock " ++ decimal t) few (omega arith) refl in
    let second = ap (whole_in_front (10 ^ 9)) (sym (append-nil (decimal t))) ∙ whole_again (10 ^ 9) t [] small (omega arith) tt in
    rw (first, second) refl

-- ---- The commands

begins_a_command : (c : CommandTree) → is_kept c ≡ true → (is_passed (text_of c) ≡ false) × (bytes_eq (text_of c) (codes "end") ≡ false)
unfolding text_of
begins_a_command (Tree.Class n k b attrs) h = (refl, refl)
begins_a_command (Tree.Region n ps) h = (refl, refl)
begins_a_command (Tree.Insert c n p ss) h = (refl, refl)
begins_a_command (Tree.Update n p ss) h = (refl, refl)
begins_a_command (Tree.Remove n) h = (refl, refl)
begins_a_command (Tree.Tick k) h = (refl, refl)
begins_a_command (Tree.Watch n k q) h = (refl, refl)
begins_a_command (Tree.Keep n k q) h = (refl, refl)
begins_a_command (Tree.Drop n) h = (refl, refl)
begins_a_command _ h = absurd (cc h)

entry_loaded : ReadsWhatIsPrinted → (e : Accepted) → IsAcceptedEntry e → Some e.1 ≡ kept_in (text_of e.1)
entry_loaded printed e is =
    let fits : leb (length (text_of e.1)) 16384 ≡ true = grind (arith, nat_tests, is.short) in
    let loaded : may_be_loaded e.1 ≡ true = ap (λ b. b && leb (length (text_of e.1)) 16384) is.kept ∙ fits in
    kept_taken (text_of e.1) e.1 (printed 16384 e.1 is.printable is.short) loaded

-- n commands and t ticks were seen of those that the text says
abbrev seen_of : Counts → ℕ → ℕ → Progress
seen_of said n t = record { said = Some said; seen = record { commands = n; ticks = t } }

the_end : (said : Counts) (n t number : ℕ) → n ≡ said.commands → t ≡ said.ticks → read_on (seen_of said n t) number (lines (ended_line (codes "end"))) ≡ finished
the_end said n t number all clock_is =
    let may : (eqb n said.commands && eqb t said.ticks) ≡ true = grind (arith, nat_tests, all, clock_is) in
    read_end (seen_of said n t) number (codes "end") [] refl refl may refl

entries_loaded : PrintsLines → ReadsWhatIsPrinted → (said : Counts) (journal : List Accepted) (n t number : ℕ) → AllByRecursion IsAcceptedEntry journal →
    n + length journal ≡ said.commands → t + clock journal ≡ said.ticks →
    read_on (seen_of said n t) number (lines (flat_map entry_text journal ++ ended_line (codes "end"))) ≡ record { commands = numbered_commands number (map (λ e. e.1) journal); fault = None }
entries_loaded prints printed said [] n t number are all ticks = the_end said n t number (omega (arith, all)) (omega (arith, ticks))
entries_loaded prints printed said (e ∷ journal) n t number are all ticks =
    let begins = begins_a_command e.1 are.0.kept in
    let sum : clock (e ∷ journal) ≡ ticks_of e.1 + clock journal = sum_by-cons (λ (x : Accepted). ticks_of x.1) e journal in
    let count : length (e ∷ journal) ≡ length journal + 1 = omega arith in
    let room : ltb n said.commands ≡ true = grind (arith, nat_tests, all, count) in
    let rest : List ℕ = flat_map entry_text journal ++ ended_line (codes "end") in
    let loaded : Some e.1 ≡ cond (ltb n said.commands) (kept_in (text_of e.1)) None =
    entry_loaded printed e are.0 ∙ ap (λ b. cond b (kept_in (text_of e.1)) None) (sym room) in
    let other : (bytes_eq (text_of e.1) (codes "end") && may_end (seen_of said n t)) ≡ false = ap (λ b. b && may_end (seen_of said n t)) begins.1 in
    ap (λ (text : List ℕ). read_on (seen_of said n t) number (lines text)) (append_assoc (entry_text e) (flat_map entry_text journal) (ended_line (codes "end")))
    ∙ ap (read_on (seen_of said n t) number) (line_then (text_of e.1) rest (prints e.1 are.0.printable).0)
    ∙ read_command (seen_of said n t) number (text_of e.1) (lines rest) e.1 begins.0 other loaded
    ∙ ap (with_first (number, e.1)) (entries_loaded prints printed said journal (n + 1) (t + ticks_of e.1) (number + 1) are.1 (omega (arith, all, count)) (omega (arith, ticks, sum)))

pub loads_what_is_saved : PrintsLines → ReadsWhatIsPrinted → LoadsWhatIsSaved
unfolding reading_of session_text
loads_what_is_saved prints printed journal is =
    let said : Counts = counts_in journal in
    let rest : List ℕ = flat_map entry_text journal ++ ended_line (codes "end") in
    let first : lines (ended_line header ++ (ended_line (counts_line said) ++ rest)) ≡ header ∷ lines (ended_line (counts_line said) ++ rest) =
    line_then header (ended_line (counts_line said) ++ rest) refl in
    let second : lines (ended_line (counts_line said) ++ rest) ≡ counts_line said ∷ lines rest =
    line_then (counts_line said) rest (counts_ascii (length journal) (clock journal) (omega (arith, is.few)) (omega (arith, is.ticks))) in
    let counts : counts_of (counts_line said) ≡ Some said = counts_again (length journal) (clock journal) is.few is.ticks in
    ap read_lines (first ∙ ap (λ ls. header ∷ ls) second)
    ∙ ap (λ (o : Option Counts). option_map_or (λ s. read_on (starting (Some s)) 3 (lines rest)) o (stops (faults.BadLine 2))) counts
    ∙ entries_loaded prints printed said journal 0 0 3 is.entries (omega arith) (omega arith)
