-- What is said of the generator's lines in place of their replies.
use Rattle.std.specs.Prelude.{◌≡◌, ℕ, ◌+◌, Bool, is_some, None, List, [], ◌∷◌, ◌++◌, length, sum, fold, codes, decimal, if◌then◌else◌}
use Rattle.generator.specs.Lines.{lines_of}
use Rattle.line_meaning.specs.Step.{Base, base, held, refusal_of, step}

-- what is counted of some lines: how many they are, how many were refused, and how many bytes their replies have, with the
-- sum of these bytes
pub record LineTally : Type 0 where
  pub lines : ℕ
  pub refused : ℕ
  pub bytes : ℕ
  pub total : ℕ

abbrev pub nothing_counted : LineTally
nothing_counted = record { lines = 0; refused = 0; bytes = 0; total = 0 }

-- one more line is counted, by whether it was refused and by its reply
abbrev pub tally_after : LineTally → Bool → List ℕ → LineTally
tally_after t refused reply = record {
  lines = t.lines + 1;
  refused = t.refused + (if refused then 1 else 0);
  bytes = t.bytes + length reply;
  total = t.total + sum reply;
}

-- a line is answered and counted
abbrev pub counted_line : Base × LineTally → List ℕ → Base × LineTally
counted_line (b, t) line = ((step b line).0, tally_after t (is_some (refusal_of b line)) (step b line).1)

-- a line was answered, from one state to the next, by whether it was refused and by its reply
abbrev pub AnswersAs : Base → List ℕ → Base → Bool → List ℕ → Type 0
AnswersAs old line new refused reply = (refused ≡ is_some (refusal_of old line)) × (step old line ≡ (new, reply))

-- a word and a number
abbrev pub number_line : List ℕ → ℕ → List ℕ
number_line word number = word ++ (decimal number ++ 10 ∷ [])

abbrev pub tally_text : LineTally → List ℕ
tally_text t =
    number_line (codes "lines ") t.lines ++ (number_line (codes "refused ") t.refused
    ++ (number_line (codes "bytes ") t.bytes ++ number_line (codes "sum ") t.total))

-- what is said of lines that are answered from a state on
abbrev pub told_of_lines : Base → List (List ℕ) → List ℕ
told_of_lines b lines = tally_text (fold counted_line (b, nothing_counted) lines).1

-- the empty journal, where there is no text, and nothing was counted
abbrev pub first_state : Base × LineTally
first_state = (base (held []) (λ name. None), nothing_counted)

unfoldable pub summary : ℕ → List ℕ
summary number = tally_text (fold counted_line first_state (lines_of number)).1
