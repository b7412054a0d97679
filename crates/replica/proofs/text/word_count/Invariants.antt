-- the words so far and those that are left are all of them
use Rattle.std.proofs.Common.{◌≡◌, ◌+◌, ◌≤◌, length, option_map}
use Rattle.replica.specs.Text.{words}
use Rattle.replica.proofs.WordLemmas.{words_left, measure}
use Rattle.replica.proofs.text.word_count.Given as goal

abbrev pub invariant-words : goal.invariant-words
invariant-words l = record {
  whole : length (words l.text) ≡ l.count + length (words_left (option_map (λ left. left.now) l.rest));
  room : l.count + measure (option_map (λ left. left.now) l.rest) ≤ length l.text + 1;
}

abbrev pub decreases-words : goal.decreases-words
decreases-words l = measure (option_map (λ left. left.now) l.rest)
