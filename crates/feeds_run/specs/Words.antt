-- What the words of the program ask for.
use Rattle.std.specs.Prelude.{ℕ, List, [], ◌∷◌, codes, if◌then◌else◌}
use Rattle.std.specs.Str.{bytes_eq}
use Rattle.feeds_run.specs.declared.words.Words as declared
use Rattle.feeds_run.specs.declared.words.Words.TheVariants as words

-- `Bad`: they have no form; `Shared`: the program's name alone, so that users share one world; `Followed`: `replica` and the
-- name of a query, whose answer is followed
pub data FeedWords : Type 0 where
  Bad : FeedWords
  Shared : FeedWords
  Followed : List ℕ → FeedWords

-- the same of the program
abbrev pub feed_words_view : declared.Words → FeedWords
feed_words_view words.Bad = Bad
feed_words_view words.Shared = Shared
feed_words_view (words.Followed name) = Followed name.now

-- a word that asks for something, and the word after it, which may be any
abbrev pub feed_asked : List ℕ → List ℕ → FeedWords
feed_asked word name = if bytes_eq word (codes "replica") then Followed name else Bad

abbrev pub feed_words_of : List (List ℕ) → FeedWords
feed_words_of [] = Bad
feed_words_of (program ∷ []) = Shared
feed_words_of (program ∷ word ∷ []) = Bad
feed_words_of (program ∷ word ∷ name ∷ []) = feed_asked word name
feed_words_of (program ∷ word ∷ name ∷ more ∷ others) = Bad
