-- the words that are left are names exactly where all are
use Rattle.std.proofs.Common.{◌≡◌, option_map}
use Rattle.std.specs.List.{list_all}
use Rattle.replica.specs.Text.{is_free_name, words}
use Rattle.replica.proofs.WordLemmas.{words_left, measure}
use Rattle.replica.proofs.text.are_names.Given as goal

abbrev pub invariant-words : goal.invariant-words
invariant-words l = list_all is_free_name (words l.text) ≡ list_all is_free_name (words_left (option_map (λ left. left.now) l.rest))

abbrev pub decreases-words : goal.decreases-words
decreases-words l = measure (option_map (λ left. left.now) l.rest)
