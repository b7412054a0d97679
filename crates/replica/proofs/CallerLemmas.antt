-- For the crates above: what rows have after a change, and what lines are read as.
use Rattle.std.proofs.Common.{◌≡◌, ℕ, cond, List, ◌∷◌, ◌++◌, codes, option_and_then, Option, refl, ap}
use Rattle.std.specs.Option.{option_map_or}
use Rattle.std.specs.Str.{bytes_eq}
use Rattle.replica.specs.Line.{ToldLine, Answers, Passes, Nothing, Broken, is_time_word, told_by_line, named, row_in_text}
use Rattle.replica.specs.Text.{tick_of}
use Rattle.replica.proofs.PrintedLemmas.{cut_at, word_spaceless}
pub use Rattle.replica.proofs.HaveLemmas.{have_combined, have_runs}
pub use Rattle.replica.proofs.OrderLemmas.{found, in_order_after, in_order_inserted, left, others_left, row_made, turned}
pub use Rattle.replica.proofs.PrintedLemmas.{name_continues, name_spaceless}
pub use Rattle.replica.proofs.PrintedLines.{reads}

-- by its first word, and what follows it
by_verb : List ℕ → List ℕ × Option (List ℕ) → ToldLine
by_verb name parts =
    cond (bytes_eq parts.0 (codes "clock")) (option_map_or Passes (option_and_then tick_of parts.1) Broken)
    (cond (is_time_word parts.0) (option_map_or Answers (option_and_then row_in_text parts.1) Nothing) (option_map_or (named name parts.0) parts.1 Nothing))

-- a line that begins with the word of a time is a row, or says nothing
pub now_line : (name text : List ℕ) → told_by_line name (codes "now" ++ 32 ∷ text) ≡ option_map_or Answers (row_in_text text) Nothing
unfolding told_by_line by_verb
now_line name text = ap (by_verb name) (cut_at 32 refl (codes "now") text (word_spaceless (codes "now") refl))

pub later_line : (name text : List ℕ) → told_by_line name (codes "later" ++ 32 ∷ text) ≡ option_map_or Answers (row_in_text text) Nothing
unfolding told_by_line by_verb
later_line name text = ap (by_verb name) (cut_at 32 refl (codes "later") text (word_spaceless (codes "later") refl))

pub past_line : (name text : List ℕ) → told_by_line name (codes "past" ++ 32 ∷ text) ≡ option_map_or Answers (row_in_text text) Nothing
unfolding told_by_line by_verb
past_line name text = ap (by_verb name) (cut_at 32 refl (codes "past") text (word_spaceless (codes "past") refl))
