-- the spans so far and those of the words that are left are those of all words
use Rattle.std.proofs.Common.{◌≡◌, ℕ, ◌+◌, ◌≤◌, ◌++◌, true, option_map}
use Rattle.tick_set.specs.Runs.{IsNormal, pairs, spans_have}
use Rattle.replica.specs.Text.{spans_from, words}
use Rattle.replica.proofs.WordLemmas.{words_left, measure}
use Rattle.replica.proofs.text.spans_of.Given as goal

abbrev pub invariant-words : goal.invariant-words
invariant-words l = record {
  whole : spans_from 0 (words l.text) ≡ option_map (λ later. pairs l.spans.items ++ later) (spans_from l.least (words_left (option_map (λ left. left.now) l.rest)));
  normal : IsNormal l.spans.items;
  below : (t : ℕ) → spans_have l.spans.items t ≡ true → t + 2 ≤ l.least;
  small : l.least ≤ 1000000002;
}

abbrev pub decreases-words : goal.decreases-words
decreases-words l = measure (option_map (λ left. left.now) l.rest)
