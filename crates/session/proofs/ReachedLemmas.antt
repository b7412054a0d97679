-- The journal that is loaded of a text is one that steps lead to.
use Rattle.std.proofs.Common.{◌≡◌, ℕ, ◌+◌, Bool, true, false, ◌&&◌, Option, None, Some, List, [], ◌∷◌, codes, length, refl, sym, ap, ◌∙◌, subst, if◌then◌else◌}
use Rattle.std.specs.Prelude.{is_none}
use Rattle.std.specs.List.{AllByRecursion}
use Rattle.std.specs.Option.{option_map_or}
use Rattle.std.specs.Str.{bytes_eq}
use Rattle.std.specs.Str.Lines.{lines}
use Rattle.command_text.specs.declared.refusal.Refusal.{Refusal}
use Rattle.command_text.specs.Journal.{Accepted}
use Rattle.command_text.specs.TextLaws.{PrintsWhatIsRead, ReadsWhatIsPrinted}
use Rattle.command_text.specs.Tree.{CommandTree}
use Rattle.session_file.specs.declared.counts.Counts.{Counts}
use Rattle.session_file.specs.declared.counts.Progress.{Progress}
use Rattle.session_file.specs.declared.fault.FileFault.{FileFault}
use Rattle.session_file.specs.declared.fault.FileFault.TheVariants as faults
use Rattle.session_file.specs.Counts.{counts_of}
use Rattle.session_file.specs.Kept.{HasLine, is_passed, kept_in}
use Rattle.session_file.specs.Reading.{Reading, FileLine, Passed, End, Command, Bad, progress_after, reading_after_end, header, may_end, may_go_on, old_header, file_line_of, read_counted, read_lines, read_on, reading_of, starting, stops, with_first}
use Rattle.line_meaning.specs.Loading.{Loaded, BadLine, line_of_fault, loading_by, loading_of, replayed}
use Rattle.line_meaning.specs.Reached.{AreReached}
use Rattle.line_meaning.specs.Step.{fault_of, held, held_after}
use Rattle.line_meaning.proofs.ReachedLemmas.{command_is_reached}
use Rattle.session.proofs.LoadLemmas.{is_loadable, refused, taken}

-- ---- each command of a text has a line

abbrev HaveLines : List (ℕ × CommandTree) → Type 0
HaveLines commands = AllByRecursion (λ (c : ℕ × CommandTree). HasLine c.1) commands

same_command : (c d : CommandTree) → Command c ≡ Command d → c ≡ d
same_command c d h = cc h

by_tests : (passed end go : Bool) (kept : Option CommandTree) (c : CommandTree) →
    (if passed then Passed else if end then End else option_map_or Command (if go then kept else None) Bad) ≡ Command c → kept ≡ Some c
by_tests true end go kept c h = absurd (cc h)
by_tests false true go kept c h = absurd (cc h)
by_tests false false false kept c h = absurd (cc h)
by_tests false false true None c h = absurd (cc h)
by_tests false false true (Some d) c h = ap Some (same_command d c h)

kept_by_part : (p : Progress) (line : List ℕ) (c : CommandTree) → file_line_of p line ≡ Command c → kept_in line ≡ Some c
unfolding file_line_of
kept_by_part p line c h = by_tests (is_passed line) (bytes_eq line (codes "end") && may_end p) (may_go_on p) (kept_in line) c h

ended_have : (number : ℕ) (rest : List (List ℕ)) → HaveLines (reading_after_end number rest).commands
ended_have number [] = tt
ended_have number (line ∷ rest) = tt

-- what lines are read as by what the first of them is
abbrev read_by : Progress → ℕ → List (List ℕ) → FileLine → Reading
read_by p number rest Passed = read_on p (number + 1) rest
read_by p number rest End = reading_after_end (number + 1) rest
read_by p number rest (Command c) = with_first (number, c) (read_on (progress_after p c) (number + 1) rest)
read_by p number rest Bad = stops (faults.BadLine number)

part_has : (p : Progress) (number : ℕ) (line : List ℕ) (rest : List (List ℕ)) → ((q : Progress) → HaveLines (read_on q (number + 1) rest).commands) →
    (part : FileLine) → file_line_of p line ≡ part → HaveLines (read_by p number rest part).commands
part_has p number line rest later Passed is = later p
part_has p number line rest later End is = ended_have (number + 1) rest
part_has p number line rest later (Command c) is = ((line, kept_by_part p line c is), later (progress_after p c))
part_has p number line rest later Bad is = tt

lines_have : (p : Progress) (number : ℕ) (ls : List (List ℕ)) → HaveLines (read_on p number ls).commands
lines_have p number [] = tt
lines_have p number (line ∷ rest) = part_has p number line rest (λ q. lines_have q (number + 1) rest) (file_line_of p line) refl

counts_have : (said : Option Counts) (rest : List (List ℕ)) →
    HaveLines (option_map_or (λ (counts : Counts). read_on (starting (Some counts)) 3 rest) said (stops (faults.BadLine 2))).commands
counts_have None rest = tt
counts_have (Some counts) rest = lines_have (starting (Some counts)) 3 rest

counted_have : (ls : List (List ℕ)) → HaveLines (read_counted ls).commands
counted_have [] = tt
counted_have (line ∷ rest) = counts_have (counts_of line) rest

header_has : (old new : Bool) (rest : List (List ℕ)) →
    HaveLines (if old then read_on (starting None) 2 rest else if new then read_counted rest else stops faults.BadHeader).commands
header_has true new rest = lines_have (starting None) 2 rest
header_has false true rest = counted_have rest
header_has false false rest = tt

all_have : (ls : List (List ℕ)) → HaveLines (read_lines ls).commands
all_have [] = tt
all_have (first ∷ rest) = header_has (bytes_eq first old_header) (bytes_eq first header) rest

text_has : (text : List ℕ) → HaveLines (reading_of text).commands
unfolding reading_of
text_has text = all_have (lines text)

-- ---- so each of them that is accepted leads from such a journal to one

same_journal : (j k : List Accepted) → Loaded j ≡ Loaded k → j ≡ k
same_journal j k h = cc h

module _ (prints : PrintsWhatIsRead) (again : ReadsWhatIsPrinted) where
  one_more : (before : List Accepted) (c : ℕ × CommandTree) → HasLine c.1 → fault_of (held before) c.1 ≡ None → AreReached [] before →
      AreReached [] (held_after (held before) c.1).journal
  one_more before c has right reached =
      let legible = (is_loadable prints again c.1 has).1 in
      command_is_reached (held before) c.1 legible.printable legible.short right reached

  first_leads : (before : List Accepted) (c : ℕ × CommandTree) (later : List (ℕ × CommandTree)) (journal : List Accepted) → HasLine c.1 →
      AreReached [] before →
      (AreReached [] (held_after (held before) c.1).journal → replayed (held_after (held before) c.1).journal later ≡ Loaded journal → AreReached [] journal) →
      replayed before (c ∷ later) ≡ Loaded journal → (fault : Option Refusal) → fault_of (held before) c.1 ≡ fault → AreReached [] journal
  first_leads before c later journal has reached rest is None right =
      rest (one_more before c has right reached) (sym (taken before c later right) ∙ is)
  first_leads before c later journal has reached rest is (Some r) wrong =
      let bad : BadLine c.0 ≡ Loaded journal = sym (refused before c later (ap is_none wrong)) ∙ is in absurd (cc bad)

  replayed_is_reached : (before : List Accepted) (commands : List (ℕ × CommandTree)) (journal : List Accepted) → HaveLines commands →
      AreReached [] before → replayed before commands ≡ Loaded journal → AreReached [] journal
  replayed_is_reached before [] journal have reached is = subst (AreReached []) (same_journal before journal is) reached
  replayed_is_reached before (c ∷ later) journal have reached is =
      first_leads before c later journal have.0 reached
      (λ now. replayed_is_reached (held_after (held before) c.1).journal later journal have.1 now) is (fault_of (held before) c.1) refl

  by_fault : (count : ℕ) (reading : Reading) (fault : Option FileFault) (journal : List Accepted) → loading_by count reading fault ≡ Loaded journal →
      replayed [] reading.commands ≡ Loaded journal
  by_fault count reading None journal is = is
  by_fault count reading (Some fault) journal is = let bad : BadLine (line_of_fault count fault) ≡ Loaded journal = is in absurd (cc bad)

  pub loaded_is_reached : (text : List ℕ) (journal : List Accepted) → loading_of text ≡ Loaded journal → AreReached [] journal
  unfolding loading_of
  loaded_is_reached text journal is =
      replayed_is_reached [] (reading_of text).commands journal (text_has text) tt
      (by_fault (length (lines text)) (reading_of text) (reading_of text).fault journal is)
