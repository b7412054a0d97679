-- What lines are read as, by what the first of them is.
use Rattle.std.proofs.Common.{◌≡◌, ℕ, ◌+◌, ◌==◌, ◌∙◌, ◌&&◌, true, false, cond, List, ◌∷◌, length, codes, Option, Some, None, refl, ap}
use Rattle.std.specs.Option.{option_map_or}
use Rattle.std.specs.Str.{bytes_eq}
use Rattle.std.specs.Str.Lines.{lines}
use Rattle.command_text.specs.Tree.{CommandTree}
use Rattle.session_file.specs.declared.counts.Progress.{Progress}
use Rattle.session_file.specs.declared.fault.FileFault.TheVariants as faults
use Rattle.session_file.specs.Kept.{is_passed, kept_in}
use Rattle.session_file.specs.Reading.{Reading, FileLine, Passed, End, Command, Bad, file_line_of, progress_after, reading_after_end, finished, may_end, may_go_on, read_on, stops, with_first}
use Rattle.session_file.proofs.LineLemmas.{has_lines, no_lines}

is_part_passed : (p : Progress) (line : List ℕ) → is_passed line ≡ true → file_line_of p line ≡ Passed
unfolding file_line_of
is_part_passed p line h = rw h refl

is_part_end : (p : Progress) (line : List ℕ) → is_passed line ≡ false → bytes_eq line (codes "end") ≡ true → may_end p ≡ true → file_line_of p line ≡ End
unfolding file_line_of
is_part_end p line h e m = rw (h, e, m) refl

is_part_other : (p : Progress) (line : List ℕ) (o : Option CommandTree) → is_passed line ≡ false → (bytes_eq line (codes "end") && may_end p) ≡ false →
    o ≡ cond (may_go_on p) (kept_in line) None → file_line_of p line ≡ option_map_or Command o Bad
unfolding file_line_of
is_part_other p line o h e is = rw (h, e, is) refl

-- what lines are read as by what the first of them is
abbrev pub by_part : Progress → ℕ → List (List ℕ) → FileLine → Reading
by_part p number rest Passed = read_on p (number + 1) rest
by_part p number rest End = reading_after_end (number + 1) rest
by_part p number rest (Command c) = with_first (number, c) (read_on (progress_after p c) (number + 1) rest)
by_part p number rest Bad = stops (faults.BadLine number)

pub read_passed : (p : Progress) (number : ℕ) (line : List ℕ) (rest : List (List ℕ)) → is_passed line ≡ true →
    read_on p number (line ∷ rest) ≡ read_on p (number + 1) rest
read_passed p number line rest h = ap (by_part p number rest) (is_part_passed p line h)

pub read_end : (p : Progress) (number : ℕ) (line : List ℕ) (text : List ℕ) → is_passed line ≡ false → bytes_eq line (codes "end") ≡ true → may_end p ≡ true →
    (length text == 0) ≡ true → read_on p number (line ∷ lines text) ≡ finished
read_end p number line text h e m none =
    ap (by_part p number (lines text)) (is_part_end p line h e m) ∙ ap (reading_after_end (number + 1)) (no_lines text none)

pub read_past_end : (p : Progress) (number : ℕ) (line : List ℕ) (text : List ℕ) → is_passed line ≡ false → bytes_eq line (codes "end") ≡ true → may_end p ≡ true →
    (length text == 0) ≡ false → read_on p number (line ∷ lines text) ≡ stops (faults.BadLine (number + 1))
read_past_end p number line text h e m some =
    let more = has_lines text some in
    ap (by_part p number (lines text)) (is_part_end p line h e m) ∙ ap (reading_after_end (number + 1)) more.2

pub read_command : (p : Progress) (number : ℕ) (line : List ℕ) (rest : List (List ℕ)) (c : CommandTree) → is_passed line ≡ false →
    (bytes_eq line (codes "end") && may_end p) ≡ false → Some c ≡ cond (may_go_on p) (kept_in line) None →
    read_on p number (line ∷ rest) ≡ with_first (number, c) (read_on (progress_after p c) (number + 1) rest)
read_command p number line rest c h e is = ap (by_part p number rest) (is_part_other p line (Some c) h e is)

pub read_bad : (p : Progress) (number : ℕ) (line : List ℕ) (rest : List (List ℕ)) → is_passed line ≡ false →
    (bytes_eq line (codes "end") && may_end p) ≡ false → None ≡ cond (may_go_on p) (kept_in line) None →
    read_on p number (line ∷ rest) ≡ stops (faults.BadLine number)
read_bad p number line rest h e is = ap (by_part p number rest) (is_part_other p line None h e is)

pub ruleset read_steps = (read_end, read_past_end, read_command, read_bad)
